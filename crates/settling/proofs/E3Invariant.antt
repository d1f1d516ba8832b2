-- C, D and E together: the invariant of a quiet stretch, kept by each tick.
use mathlib.Core.Path.{◌≡◌, refl, sym, ap, ◌∙◌}
use mathlib.Core.Logic.{◌≢◌, ◌⊎◌}
use mathlib.Core.Logic.◌⊎◌.{inl, inr}
use mathlib.Core.Bool.{Bool, true, false}
use mathlib.Core.List.{List}
use Prim.Native.Nat.{ℕ, ◌+◌, ◌*◌, ◌≤◌, ◌<◌, max}
use native.Mathlib.Numerals.{add-one}
use native.Mathlib.Omega.{arith}
use native.Mathlib.Decide.{ℕ_discrete, dec_le}
use lib.Dec.{eqb}
use borrow.Author.Tests.{eq-eqb, ne_eqb}
use Rattle.lists.specs.Every.{All}
use Rattle.lists.proofs.Every.{all_map, all_append}
use Rattle.station.specs.Order.{entry}
use Rattle.station.specs.Rules.{slotted}
use Rattle.station.specs.declared.Station.{Station}
use Rattle.station.proofs.Candidates.{key_of}
use Rattle.election.specs.System.{station, delay, underway}
use Rattle.election.specs.Tick.{next, slotted_now, settled, sending, later, sent, underway_after, tick}
use Rattle.election.specs.declared.Message.{Message}
use Rattle.election.specs.declared.System.{System}
use Rattle.settling.proofs.BCalm.{Stretch, key_at, key_l, rank-in, Calm, expire_calm, calm_self}
use Rattle.settling.proofs.A0Flash.{flash-settled, flash-ticked, flash-sending}
use Rattle.settling.proofs.A1Sane.{Known, Sane}
use Rattle.settling.proofs.DDeadline.{soonest, soonest_le, soonest_mono, soonest_append, deadline}
use Rattle.settling.proofs.E2Follower.{Due, due?, FairTo, spare, ticked, all_calm, ticked_calm, move_hit, move_quiet}
use Rattle.election.proofs.Places.{In, tick-underway}
use Rattle.settling.proofs.E1Phase.{Phase, Move, early, move_phase}
use Rattle.election.proofs.Counts.{counts}
use Rattle.settling.proofs.A2Reached.{always, Reached, settled-sane, tick-reached}
use Rattle.election.proofs.Steps.{settled-unchanged, sending-of, tick-up, tick-count, tick-slotted, tick-unslotted}
use Rattle.election.proofs.Underway.{inbox_all, later-all, later-none, sent-all}

-- A message from q to a steady head.
pub record Coming (K : Stretch) (tick q : ℕ) (m : Message) : Type 0 where
  pub ahead : tick < m.due
  pub low : Known K.n K.steady K.C m.counts
  pub old : q ≢ K.L → key_of K.ranks m.counts q ≤ key_l K → m.due ≤ K.since + K.d

abbrev pub END : Stretch → ℕ
END K = K.since + K.W + K.M + 3 * K.d + K.period

abbrev pub phase : Stretch → System → ℕ → Type 0
phase K s p = Phase K.d (END K) s.tick (station s p).timer (spare K (station s p)) (deadline K s p) (eqb (station s p).leader K.L)

pub record Inv (K : Stretch) (s : System) : Type 0 where
  pub same-n : s.n ≡ K.n
  pub same-period : s.period ≡ K.period
  pub same-ranks : s.ranks ≡ K.ranks
  pub reached : Reached s
  pub ups : (p : ℕ) → In K.n p → K.steady p ≡ true → (station s p).up ≡ true
  pub const : (x : ℕ) → In K.n x → K.steady x ≡ true → counts s x ≡ K.C x
  pub surplus : (p : ℕ) → In K.n p → (station s p).up ≡ true → K.steady p ≡ false → K.C K.L < counts s p
  pub least : (p : ℕ) → In K.n p → K.steady p ≡ true → key_l K ≤ key_at K p
  pub calm : (p : ℕ) → In K.n p → K.steady p ≡ true → Calm K p (s.tick + 1) (station s p)
  pub mail : (q p : ℕ) → In K.n q → In K.n p → q ≢ p → K.steady p ≡ true → All (Coming K s.tick q) (underway s q p)
  pub next-lo : s.tick < (station s K.L).slot
  pub next-hi : (station s K.L).slot ≤ max (K.since + K.W) (s.tick + K.period)
  pub phases : (p : ℕ) → In K.n p → K.steady p ≡ true → p ≢ K.L → phase K s p

-- No message between steady heads is cut in the tick after s, and none sent then needs more than d.
unfoldable pub Fine : Stretch → System → Type 0
Fine K s =
    (p q : ℕ) → In K.n p → In K.n q → p ≢ q → K.steady p ≡ true → K.steady q ≡ true → sending s p ≡ true → (0 < delay s p q) × (delay s p q ≤ K.d)

module _ (K : Stretch) (s : System) (h : Inv K s) where
  -- the same stations and the same period
  pub in_s : (p : ℕ) → In K.n p → In s.n p
  in_s p i = record { low = i.low; high = omega (arith, i.high, h.same-n) }

  abbrev flash : s.clock ≡ false
  flash = h.reached.flash

  pub n-high : s.n ≤ 8
  n-high = h.reached.sound.n-high

  pub station-next : (p : ℕ) → In K.n p → station (tick s) p ≡ slotted_now (slotted K.period (next s)) (next s) (settled s p)
  station-next p i = flash-ticked s flash n-high p (in_s p i) ∙ ap (λ b. slotted_now (slotted b (next s)) (next s) (settled s p)) h.same-period

  pub steady-next : (p : ℕ) → In K.n p → K.steady p ≡ true → station (tick s) p ≡ ticked K.ranks K.n K.period p (next s) (λ q. underway s q p) (station s p)
  steady-next p i u =
      station-next p i ∙ ap (slotted_now (slotted K.period (next s)) (next s)) (flash-settled s flash p (h.ups p i u))
      ∙ ap (λ n. ticked s.ranks n K.period p (next s) (λ q. underway s q p) (station s p)) h.same-n
      ∙ ap (λ r. ticked r K.n K.period p (next s) (λ q. underway s q p) (station s p)) h.same-ranks

  fair : (p : ℕ) → In K.n p → K.steady p ≡ true → (q : ℕ) → In K.n q → FairTo K p (next s) q (underway s q p)
  fair p ip u q iq =
      all_map (λ m. (q ≢ p) × Coming K s.tick q m) _ (λ m f e. (f.0, record { counts = f.1.low; old = λ ne le. omega (arith, f.1.old ne le) })) (underway s q p)
      (inbox_all s h.reached.sound (Coming K s.tick) p (in_s p ip) (λ r ir ne. h.mail r p (record { low = ir.low; high = omega (arith, ir.high, h.same-n) }) ip ne u) q (in_s q iq))

  -- After steps (a) and (b).
  settled-calm : (p : ℕ) → In K.n p → K.steady p ≡ true → Calm K p (next s + 1) (settled s p)
  settled-calm p ip u =
      rw (flash-settled s flash p (h.ups p ip u), h.same-n, h.same-ranks)
      (expire_calm K p ip u (h.least p ip u) (next s) _ (omega arith) (all_calm K p (next s) (omega arith) ip u (h.least p ip u) (λ q. underway s q p) (fair p ip u) (station s p) (h.calm p ip u)))

  -- What an up head other than L sends is late: a steady one is after L, any other has more starts.
  after-L : (q : ℕ) → In K.n q → (station s q).up ≡ true → (v : List ℕ) → entry v q ≡ counts s q → q ≢ K.L → key_of K.ranks v q ≤ key_l K → ⊥
  after-L q iq u v own ne le = go (K.steady q) refl
    where
      go : (b : Bool) → K.steady q ≡ b → ⊥
      go true e = omega (arith, h.const q iq e, h.least q iq e, iq.high, K.L-in.high, K.small, rank-in K q iq, rank-in K K.L K.L-in)
      go false e = omega (arith, h.surplus q iq u e, iq.high, K.L-in.high, K.small, rank-in K q iq, rank-in K K.L K.L-in)

  sent-mail : (q p : ℕ) → In K.n q → All (Coming K (next s) q) (sent s q p)
  sent-mail q p iq =
      sent-all (Coming K (next s) q) s q p
      (λ e d.
      let u : (station s q).up ≡ true = (sending-of s q e).0 in
      let c : Sane s.ranks s.n s.period always (counts s) q (next s + 1) (settled s q) = settled-sane s h.reached q (in_s q iq) u in
      record { ahead = omega arith; low = λ x ix Sx. omega (arith, c.low x (in_s x ix) refl, h.const x ix Sx); old = λ ne le. absurd (after-L q iq u (settled s q).recovered c.own ne le) })

  -- The next send chance of L after the tick.
  slot_next : ((station s K.L).slot ≡ next s → (station (tick s) K.L).slot ≡ next s + K.period)
      × ((station s K.L).slot ≢ next s → (station (tick s) K.L).slot ≡ (station s K.L).slot)
  slot_next =
      let i : In s.n K.L = in_s K.L K.L-in in
      ((λ e. tick-slotted s n-high K.L i e ∙ ap (λ b. next s + b) h.same-period), tick-unslotted s n-high K.L i)

  next-hi' : (station (tick s) K.L).slot ≤ max (K.since + K.W) (next s + K.period)
  next-hi' = go (ℕ_discrete (station s K.L).slot (next s))
    where
      go : Dec ((station s K.L).slot ≡ next s) → (station (tick s) K.L).slot ≤ max (K.since + K.W) (next s + K.period)
      go (yes e) = omega (arith, slot_next.0 e)
      go (no ne) = omega (arith, slot_next.1 ne, h.next-hi)

  next-lo' : next s < (station (tick s) K.L).slot
  next-lo' = go (ℕ_discrete (station s K.L).slot (next s))
    where
      go : Dec ((station s K.L).slot ≡ next s) → next s < (station (tick s) K.L).slot
      go (yes e) = omega (arith, slot_next.0 e, K.beats)
      go (no ne) = omega (arith, slot_next.1 ne, h.next-lo)

  module _ (fine : Fine K s) (room : s.tick < 1000000) where
    underway-next : (q p : ℕ) → In K.n q → In K.n p → q ≢ p → underway (tick s) q p ≡ underway_after s q p
    underway-next q p iq ip ne =
        tick-underway s n-high q p (in_s q iq) (in_s p ip) ne

    -- L's next message to p, or its next chance with d, after the tick: no later than before it.
    reach : K.since + K.M + 2 * K.d < next s → (p : ℕ) → In K.n p → K.steady p ≡ true → p ≢ K.L
        → soonest (sent s K.L p) ((station (tick s) K.L).slot + K.d) ≤ (station s K.L).slot + K.d
    unfolding soonest sent Fine
    reach late p ip u pL = go (ℕ_discrete (station s K.L).slot (next s))
      where
        z : Station
        z = settled s K.L

        go : Dec ((station s K.L).slot ≡ next s) → soonest (sent s K.L p) ((station (tick s) K.L).slot + K.d) ≤ (station s K.L).slot + K.d
        go (yes e) =
            let a : z.up ≡ true = (settled-unchanged s K.L).up ∙ h.ups K.L K.L-in K.L-steady in
            let b : eqb z.slot (next s) ≡ true = eq-eqb _ _ ((settled-unchanged s K.L).slot ∙ e) in
            let c : eqb z.leader K.L ≡ true = eq-eqb _ _ (calm_self K (next s + 1) z (settled-calm K.L K.L-in K.L-steady) (omega arith)) in
            let t : sending s K.L ≡ true = flash-sending s flash K.L ∙ rw (a, b, c) in
            let f : (0 < delay s K.L p) × (delay s K.L p ≤ K.d) = fine K.L p K.L-in ip (λ x. pL (sym x)) K.L-steady u t in
            rw (t, ne_eqb (delay s K.L p) 0 (omega arith)) (omega arith)
        go (no ne) = omega (arith, soonest_le (sent s K.L p) ((station (tick s) K.L).slot + K.d), slot_next.1 ne)

    deadline_eq : (p : ℕ) → In K.n p → p ≢ K.L
        → deadline K (tick s) p ≡ soonest (later (next s) (underway s K.L p)) (soonest (sent s K.L p) ((station (tick s) K.L).slot + K.d))
    deadline_eq p ip pL =
        ap (λ (l : List Message). soonest l ((station (tick s) K.L).slot + K.d)) (underway-next K.L p K.L-in ip (λ x. pL (sym x)))
        ∙ soonest_append _ _ _

    abbrev pub moved : ℕ → Type 0
    moved p =
        Move K.period K.d (END K) (next s)
        (station s p).timer (spare K (station s p)) (deadline K s p)
        (station (tick s) p).timer (spare K (station (tick s) p)) (deadline K (tick s) p)
        (eqb (station s p).leader K.L) (eqb (station (tick s) p).leader K.L)

    pub tick-move : K.since + K.M + 2 * K.d < next s → (p : ℕ) → In K.n p → K.steady p ≡ true → p ≢ K.L → moved p
    tick-move late p ip u pL = rw (steady-next p ip u) (go (due? (next s) (underway s K.L p)))
      where
        dl' : ℕ
        dl' = deadline K (tick s) p

        c' : ℕ
        c' = soonest (sent s K.L p) ((station (tick s) K.L).slot + K.d)

        dl_le : dl' ≤ (station s K.L).slot + K.d
        dl_le = omega (arith, deadline_eq p ip pL, soonest_le (later (next s) (underway s K.L p)) c', reach late p ip u pL)

        -- It is heard: L's next message is less than period + d away, unless L's first chance is yet to come.
        far : Dec ((station s K.L).slot ≤ K.since + K.W) → (dl' < next s + K.period + K.d) ⊎ (dl' ≤ END K)
        far (yes e) = inr (omega (arith, dl_le))
        far (no e) = inl (omega (arith, dl_le, h.next-hi))

        go : Due (next s) (underway s K.L p) ⊎ All (λ (m : Message). m.due ≢ next s) (underway s K.L p)
            → Move K.period K.d (END K) (next s) (station s p).timer (spare K (station s p)) (deadline K s p)
            (ticked K.ranks K.n K.period p (next s) (λ q. underway s q p) (station s p)).timer (spare K (ticked K.ranks K.n K.period p (next s) (λ q. underway s q p) (station s p))) dl'
            (eqb (station s p).leader K.L) (eqb (ticked K.ranks K.n K.period p (next s) (λ q. underway s q p) (station s p)).leader K.L)
        go (inl g) =
            move_hit K p (next s) (omega arith) ip u (h.least p ip u) (λ q. underway s q p) (fair p ip u) pL late (station s p) (h.calm p ip u) (END K) (deadline K s p) dl' g
            (far (dec_le (station s K.L).slot (K.since + K.W)))
        go (inr g) =
            move_quiet K p (next s) (omega arith) ip u (h.least p ip u) (λ q. underway s q p) (fair p ip u) pL late (station s p) (h.calm p ip u) (END K) (deadline K s p) dl' g
            (rw (deadline_eq p ip pL, later-none (next s) (underway s K.L p) g) (soonest_mono (underway s K.L p) c' ((station s K.L).slot + K.d) (reach late p ip u pL)))

    abbrev phase_next : ℕ → Type 0
    phase_next p =
        Phase K.d (END K) (next s) (station (tick s) p).timer (spare K (station (tick s) p)) (deadline K (tick s) p) (eqb (station (tick s) p).leader K.L)

    phase' : (p : ℕ) → In K.n p → K.steady p ≡ true → p ≢ K.L → phase_next p
    phase' p ip u pL = go (dec_le (next s) (K.since + K.M + 2 * K.d))
      where
        go : Dec (next s ≤ K.since + K.M + 2 * K.d) → phase_next p
        go (yes e) = early (omega (arith, soonest_le (underway (tick s) K.L p) ((station (tick s) K.L).slot + K.d), next-hi'))
        go (no e) =
            rw add-one
            (move_phase K.period K.d (END K) s.tick _ _ _ _ _ _ (h.phases p ip u pL) (rw add-one at (tick-move (omega arith) p ip u pL)))

    calm' : (p : ℕ) → In K.n p → K.steady p ≡ true → Calm K p (next s + 1) (station (tick s) p)
    calm' p ip u = rw (steady-next p ip u) (ticked_calm K p (next s) (omega arith) ip u (h.least p ip u) (λ q. underway s q p) (fair p ip u) (station s p) (h.calm p ip u))

    mail' : (q p : ℕ) → In K.n q → In K.n p → q ≢ p → K.steady p ≡ true → All (Coming K (next s) q) (underway (tick s) q p)
    mail' q p iq ip ne u =
        rw (underway-next q p iq ip ne)
        (all_append (Coming K (next s) q) (later (next s) (underway s q p)) (sent s q p)
        (later-all (Coming K s.tick q) (Coming K (next s) q) (next s) (underway s q p) (λ m d f. record { ahead = omega (arith, f.ahead); low = f.low; old = f.old }) (h.mail q p iq ip ne u))
        (sent-mail q p iq))

    pub tick-inv : Inv K (tick s)
    unfolding tick
    tick-inv =
        record {
          same-n = h.same-n;
          same-period = h.same-period;
          same-ranks = h.same-ranks;
          reached = tick-reached s h.reached room;
          ups = λ p ip u. tick-up s n-high p (in_s p ip) ∙ h.ups p ip u;
          const = λ x ix Sx. tick-count s n-high x (in_s x ix) ∙ h.const x ix Sx;
          surplus = λ p ip u ns. omega (arith, h.surplus p ip (sym (tick-up s n-high p (in_s p ip)) ∙ u) ns, tick-count s n-high p (in_s p ip));
          least = h.least;
          calm = calm';
          mail = mail';
          next-lo = next-lo';
          next-hi = next-hi';
          phases = phase';
        }
