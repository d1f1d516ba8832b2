-- E. What one tick does to a steady station other than L, once every leader is late.
use mathlib.Core.Path.{◌≡◌, refl, sym, ap, ◌∙◌}
use mathlib.Core.Logic.{◌≢◌, ◌⊎◌}
use mathlib.Core.Logic.◌⊎◌.{inl, inr}
use mathlib.Core.Bool.{true}
use mathlib.Core.List.{List, [], ◌∷◌}
use Prim.Native.Nat.{ℕ, zero, suc, ◌+◌, ◌-◌, ◌*◌, ◌≤◌, ◌<◌}
use native.Mathlib.Omega.{arith}
use native.Mathlib.Decide.{ℕ_discrete}
use lib.ListN.{length}
use lib.Dec.{eqb}
use borrow.Author.Tests.{eqb-true, eqb-false, eq-eqb, ne_eqb}
use Rattle.lists.specs.Every.{All}
use Rattle.lists.specs.Fold.{each}
use Rattle.lists.proofs.Bools.{cond_elim}
use Rattle.lists.proofs.Every.{all_map}
use Rattle.lists.proofs.Fold.{each_keeps}
use Rattle.station.specs.Order.{entry}
use Rattle.station.specs.Rules.{heard, expired, slotted}
use Rattle.station.specs.declared.Station.{Station}
use Rattle.station.proofs.Elimination.{expired-elim}
use Rattle.station.proofs.Unchanged.{heard-timeouts}
use Rattle.election.specs.Heads.{by_order}
use Rattle.election.specs.Tick.{heard_link, heard_all, expired_now, slotted_now}
use Rattle.election.specs.declared.Message.{Message}
use Rattle.settling.proofs.BCalm.{Stretch, key_at, key_l, Calm, Fair, hear_calm, expire_calm, slot_calm, Trusts, hear_L, hear_other, hear_not}
use Rattle.settling.proofs.A1Sane.{slots_elim, due_place}
use Rattle.election.proofs.Places.{In, seat_in}
use Rattle.settling.proofs.E1Phase.{Move, heard as hears, runs, ends, waits, soon}
use Rattle.election.proofs.Steps.{expired_now-elim, link-keeps, all_keeps}

-- A message of the list is due now.
pub data Due (now : ℕ) : List Message → Type 0 where
  here : {m : Message} {ms : List Message} → m.due ≡ now → Due now (m ∷ ms)
  there : {m : Message} {ms : List Message} → Due now ms → Due now (m ∷ ms)

pub due? : (now : ℕ) (ms : List Message) → Due now ms ⊎ All (λ (m : Message). m.due ≢ now) ms
due? now [] = inr tt
due? now (m ∷ ms) = go (ℕ_discrete m.due now) (due? now ms)
  where
    go : Dec (m.due ≡ now) → Due now ms ⊎ All (λ (m : Message). m.due ≢ now) ms → Due now (m ∷ ms) ⊎ All (λ (m : Message). m.due ≢ now) (m ∷ ms)
    go (yes e) r = inl (here e)
    go (no ne) (inl h) = inl (there h)
    go (no ne) (inr h) = inr (ne, h)

-- Calm, with the timeouts w.
pub record Waits (K : Stretch) (p b : ℕ) (w : List ℕ) (x : Station) : Type 0 where
  pub calm : Calm K p b x
  pub same : x.timeouts ≡ w

-- And trusting L till t.
pub record Heard (K : Stretch) (p b : ℕ) (w : List ℕ) (t : ℕ) (x : Station) : Type 0 where
  pub waiting : Waits K p b w x
  pub trusting : Trusts K t x

-- And not trusting L.
pub record Lost (K : Stretch) (p b : ℕ) (w : List ℕ) (x : Station) : Type 0 where
  pub waiting : Waits K p b w x
  pub not_L : x.leader ≢ K.L

-- What is due now from q to p is fair.
abbrev pub FairTo : Stretch → ℕ → ℕ → ℕ → List Message → Type 0
FairTo K p now q ms = All (λ (m : Message). m.due ≡ now → (q ≢ p) × Fair K now q m.counts) ms

module _ (K : Stretch) (p now : ℕ) (ip : In K.n p) (Sp : K.steady p ≡ true) (least : key_l K ≤ key_at K p) where
  pub hear_waits : (w : List ℕ) (q : ℕ) (v : List ℕ) (x : Station) → In K.n q → (q ≢ p) × Fair K now q v → Waits K p now w x → Waits K p now w (heard K.ranks p q v now x)
  hear_waits w q v x iq f h = record { calm = hear_calm K p ip Sp least now q v x iq f.0 f.1 h.calm; same = heard-timeouts K.ranks p q v now x ∙ h.same }

  module _ (pL : p ≢ K.L) (late : K.since + K.M + 2 * K.d < now) (w : List ℕ) where
    -- hearing L sets the timer to this
    abbrev hit : ℕ
    hit = now + entry w K.L

    hear_heard : (t q : ℕ) (v : List ℕ) (x : Station) → In K.n q → q ≢ K.L → (q ≢ p) × Fair K now q v → Heard K p now w t x → Heard K p now w t (heard K.ranks p q v now x)
    hear_heard t q v x iq ne f h =
        record { waiting = hear_waits w q v x iq f h.waiting; trusting = hear_other K p now ip Sp pL least late q t v x iq ne f.1 h.waiting.calm h.trusting }

    hear_lost : (q : ℕ) (v : List ℕ) (x : Station) → In K.n q → q ≢ K.L → (q ≢ p) × Fair K now q v → Lost K p now w x → Lost K p now w (heard K.ranks p q v now x)
    hear_lost q v x iq ne f h =
        record { waiting = hear_waits w q v x iq f h.waiting; not_L = hear_not K p now ip Sp pL least late q v x iq ne h.waiting.calm.sane.range h.not_L }

    -- Hearing L starts it, whatever went before.
    hear_from_L : (v : List ℕ) (x : Station) → (K.L ≢ p) × Fair K now K.L v → Waits K p now w x → Heard K p now w hit (heard K.ranks p K.L v now x)
    hear_from_L v x f h =
        record {
          waiting = hear_waits w K.L v x K.L-in f h;
          trusting = rw (← h.same) (hear_L K p now ip Sp pL least late v x f.1 h.calm);
        }

    hear_again : (q : ℕ) (v : List ℕ) (x : Station) → In K.n q → (q ≢ p) × Fair K now q v → Heard K p now w hit x → Heard K p now w hit (heard K.ranks p q v now x)
    hear_again q v x iq f h = go (ℕ_discrete q K.L)
      where
        go : Dec (q ≡ K.L) → Heard K p now w hit (heard K.ranks p q v now x)
        go (yes e) = rw e (hear_from_L v x (rw e at f) h.waiting)
        go (no ne) = hear_heard _ q v x iq ne f h

    link-hit : (ms : List Message) (x : Station) → Due now ms → FairTo K p now K.L ms → Waits K p now w x → Heard K p now w hit (heard_link (by_order K.ranks) p K.L now ms x)
    unfolding heard_link
    link-hit [] x x5 f h = elim x5 [ ]
    link-hit (m ∷ ms) x (here e) f h =
        link-keeps (by_order K.ranks) (Heard K p now w hit) (λ m. (K.L ≢ p) × Fair K now K.L m.counts) p now K.L (λ m y. hear_again K.L m.counts y K.L-in) ms _ f.1
        (cond_elim (Heard K p now w hit) (eqb m.due now) (λ t. hear_from_L m.counts x (f.0 e) h) (λ t. absurd (eqb-false _ _ t e)))
    link-hit (m ∷ ms) x (there g) f h =
        link-hit ms _ g f.1
        (cond_elim (Waits K p now w) (eqb m.due now) (λ t. hear_waits w K.L m.counts x K.L-in (f.0 (eqb-true _ _ t)) h) (λ t. h))

    module _ (inbox : ℕ → List Message) (fair : (q : ℕ) → In K.n q → FairTo K p now q (inbox q)) where
      step : ℕ → Station → Station
      step k = heard_link (by_order K.ranks) p (k + 1) now (inbox (k + 1))

      first-waits : (m : ℕ) (x : Station) → m ≤ K.n → Waits K p now w x → Waits K p now w (each m step x)
      unfolding step
      first-waits m x top h =
          each_keeps (Waits K p now w) m step x
          (λ k y l r. link-keeps (by_order K.ranks) (Waits K p now w) (λ m. (k + 1 ≢ p) × Fair K now (k + 1) m.counts) p now (k + 1) (λ m z. hear_waits w (k + 1) m.counts z (seat_in K.n k (omega arith))) (inbox (k + 1)) y (fair (k + 1) (seat_in K.n k (omega arith))) r) h

      first-hit : Due now (inbox K.L) → (m : ℕ) (x : Station) → K.L ≤ m → m ≤ K.n → Waits K p now w x → Heard K p now w hit (each m step x)
      unfolding each step
      first-hit g zero x lo top h = absurd (omega (arith, K.L-in.low))
      first-hit g (suc m) x lo top h = go (ℕ_discrete (m + 1) K.L) (λ ne. first-hit g m x (omega arith) (omega arith) h)
        where
          go : Dec (m + 1 ≡ K.L) → (m + 1 ≢ K.L → Heard K p now w hit (each m step x)) → Heard K p now w hit (step m (each m step x))
          go (yes e) rest = rw e (link-hit (inbox K.L) (each m step x) g (fair K.L K.L-in) (first-waits m x (omega arith) h))
          go (no ne) rest =
              link-keeps (by_order K.ranks) (Heard K p now w hit) (λ a. (m + 1 ≢ p) × Fair K now (m + 1) a.counts) p now (m + 1) (λ a z. hear_again (m + 1) a.counts z (seat_in K.n m (omega arith))) (inbox (m + 1)) (each m step x) (fair (m + 1) (seat_in K.n m (omega arith))) (rest ne)

      pub all_hit : Due now (inbox K.L) → (x : Station) → Waits K p now w x → Heard K p now w hit (heard_all (by_order K.ranks) K.n p now inbox x)
      unfolding heard_all step
      all_hit g x h = first-hit g K.n x K.L-in.high (omega arith) h

      -- No message of L's is due: what is heard is heard of others.
      module _ (none : All (λ (m : Message). m.due ≢ now) (inbox K.L)) where
        others : (q : ℕ) → In K.n q → All (λ (m : Message). m.due ≡ now → (q ≢ K.L) × ((q ≢ p) × Fair K now q m.counts)) (inbox q)
        others q iq = go (ℕ_discrete q K.L)
          where
            go : Dec (q ≡ K.L) → All (λ (m : Message). m.due ≡ now → (q ≢ K.L) × ((q ≢ p) × Fair K now q m.counts)) (inbox q)
            go (yes e) = rw e (all_map (λ (m : Message). m.due ≢ now) _ (λ m ne d. absurd (ne d)) (inbox K.L) none)
            go (no ne) = all_map (λ (m : Message). m.due ≡ now → (q ≢ p) × Fair K now q m.counts) _ (λ m f d. (ne, f d)) (inbox q) (fair q iq)

        pub all_heard : (t : ℕ) (x : Station) → Heard K p now w t x → Heard K p now w t (heard_all (by_order K.ranks) K.n p now inbox x)
        all_heard t x h =
            all_keeps (by_order K.ranks) (Heard K p now w t) (λ q m. (q ≢ K.L) × ((q ≢ p) × Fair K now q m.counts)) K.n p now inbox
            (λ q m y iq f. hear_heard t q m.counts y iq f.0 f.1) others x h

        pub all_lost : (x : Station) → Lost K p now w x → Lost K p now w (heard_all (by_order K.ranks) K.n p now inbox x)
        all_lost x h =
            all_keeps (by_order K.ranks) (Lost K p now w) (λ q m. (q ≢ K.L) × ((q ≢ p) × Fair K now q m.counts)) K.n p now inbox
            (λ q m y iq f. hear_lost q m.counts y iq f.0 f.1) others x h

-- The timeout for L above the period.
abbrev pub spare : Stretch → Station → ℕ
spare K x = entry x.timeouts K.L - K.period

-- The whole tick of a station: hearing, the timer, the send chance.
abbrev pub ticked : List ℕ → ℕ → ℕ → ℕ → ℕ → (ℕ → List Message) → Station → Station
ticked ranks n period p now inbox x = slotted_now (slotted period now) now (expired_now (expired p) now (heard_all (by_order ranks) n p now inbox x))

pub slot_leader : (period now : ℕ) (x : Station) → (slotted_now (slotted period now) now x).leader ≡ x.leader
slot_leader period now x = slots_elim (λ (y : Station). y.leader ≡ x.leader) period now x (λ e. refl) (λ e. refl)

pub slot_timer : (period now : ℕ) (x : Station) → (slotted_now (slotted period now) now x).timer ≡ x.timer
slot_timer period now x = slots_elim (λ (y : Station). y.timer ≡ x.timer) period now x (λ e. refl) (λ e. refl)

pub slot_timeouts : (period now : ℕ) (x : Station) → (slotted_now (slotted period now) now x).timeouts ≡ x.timeouts
slot_timeouts period now x = slots_elim (λ (y : Station). y.timeouts ≡ x.timeouts) period now x (λ e. refl) (λ e. refl)

module _ (K : Stretch) (p now : ℕ) (low : 1 ≤ now) (ip : In K.n p) (Sp : K.steady p ≡ true) (least : key_l K ≤ key_at K p)
    (inbox : ℕ → List Message) (fair : (q : ℕ) → In K.n q → FairTo K p now q (inbox q)) where
  pub all_calm : (x : Station) → Calm K p now x → Calm K p now (heard_all (by_order K.ranks) K.n p now inbox x)
  all_calm x h = all_keeps (by_order K.ranks) (Calm K p now) (λ q m. (q ≢ p) × Fair K now q m.counts) K.n p now inbox (λ q m y iq f. hear_calm K p ip Sp least now q m.counts y iq f.0 f.1) fair x h

  pub ticked_calm : (x : Station) → Calm K p now x → Calm K p (now + 1) (ticked K.ranks K.n K.period p now inbox x)
  ticked_calm x h = slot_calm K p ip Sp least (now + 1) now _ (expire_calm K p ip Sp least now _ low (all_calm x h))

  module _ (pL : p ≢ K.L) (late : K.since + K.M + 2 * K.d < now) (x : Station) (h : Calm K p now x) where
    slow_L : K.period < entry x.timeouts K.L
    slow_L = h.sane.slow K.L K.L-in (λ e. pL (sym e))

    tick-hit : Due now (inbox K.L)
        → ((ticked K.ranks K.n K.period p now inbox x).leader ≡ K.L) × ((ticked K.ranks K.n K.period p now inbox x).timer ≡ now + entry x.timeouts K.L)
        × (entry (ticked K.ranks K.n K.period p now inbox x).timeouts K.L ≡ entry x.timeouts K.L)
    tick-hit g =
        let r : Heard K p now x.timeouts (now + entry x.timeouts K.L) (heard_all (by_order K.ranks) K.n p now inbox x) =
        all_hit K p now ip Sp least pL late x.timeouts inbox fair g x (record { calm = h; same = refl }) in
        rw (slot_leader, slot_timer, slot_timeouts)
        (expired_now-elim
        (λ (y : Station). (y.leader ≡ K.L) × (y.timer ≡ now + entry x.timeouts K.L) × (entry y.timeouts K.L ≡ entry x.timeouts K.L))
        (expired p) now (heard_all (by_order K.ranks) K.n p now inbox x)
        (λ e. absurd (omega (arith, r.trusting.timer_at, slow_L)))
        (λ e. (r.trusting.leader_L, r.trusting.timer_at, ap (λ l. entry l K.L) r.waiting.same)))

    module _ (END dl dl' : ℕ) where
      -- The move that the station makes as y, with the tests' outcomes.
      abbrev pub MoveTo : Station → Type 0
      MoveTo y = Move K.period K.d END now x.timer (spare K x) dl y.timer (spare K y) dl' (eqb x.leader K.L) (eqb y.leader K.L)

      pub move_hit : Due now (inbox K.L) → (dl' < now + K.period + K.d) ⊎ (dl' ≤ END) → MoveTo (ticked K.ranks K.n K.period p now inbox x)
      move_hit g (inr e) = soon e
      move_hit g (inl e) =
          let r : ((ticked K.ranks K.n K.period p now inbox x).leader ≡ K.L) × ((ticked K.ranks K.n K.period p now inbox x).timer ≡ now + entry x.timeouts K.L)
          × (entry (ticked K.ranks K.n K.period p now inbox x).timeouts K.L ≡ entry x.timeouts K.L) = tick-hit g in
          rw (eq-eqb _ _ r.0) (hears (omega (arith, slow_L)) (omega (arith, r.1, slow_L)) (omega (arith, r.2)) e)

      pub move_quiet : All (λ (m : Message). m.due ≢ now) (inbox K.L) → dl' ≤ dl → MoveTo (ticked K.ranks K.n K.period p now inbox x)
      move_quiet none le = rw (slot_leader, slot_timer, slot_timeouts) (go (ℕ_discrete x.leader K.L))
        where
          z : Station
          z = heard_all (by_order K.ranks) K.n p now inbox x

          place : Calm K p now z → z.timer ≡ now → z.leader - 1 < length z.timeouts
          place c f = due_place K.ranks K.n K.period K.small K.steady K.C p ip now z low c.sane f

          go : Dec (x.leader ≡ K.L) → MoveTo (expired_now (expired p) now z)
          go (yes e) =
              let r : Heard K p now x.timeouts x.timer (heard_all (by_order K.ranks) K.n p now inbox x) =
              all_heard K p now ip Sp least pL late x.timeouts inbox fair none x.timer x (record { waiting = record { calm = h; same = refl }; trusting = record { leader_L = e; timer_at = refl } }) in
              expired_now-elim MoveTo (expired p) now z
              (λ f.
              expired-elim MoveTo p z (place r.waiting.calm f)
              (λ t size at same.
              let a : entry t K.L ≡ entry t z.leader = ap (λ q. entry t q) (sym r.trusting.leader_L) in
              let b : entry z.timeouts z.leader ≡ entry z.timeouts K.L = ap (λ q. entry z.timeouts q) r.trusting.leader_L in
              let c : entry z.timeouts K.L ≡ entry x.timeouts K.L = ap (λ l. entry l K.L) r.waiting.same in
              rw (eq-eqb _ _ e, ne_eqb p K.L pL) (ends (sym r.trusting.timer_at ∙ f) (omega (arith, slow_L)) le)))
              (λ f. rw (eq-eqb _ _ e, eq-eqb _ _ r.trusting.leader_L) (runs r.trusting.timer_at (ap (λ l. entry l K.L - K.period) r.waiting.same) le))
          go (no ne) =
              let r : Lost K p now x.timeouts (heard_all (by_order K.ranks) K.n p now inbox x) =
              all_lost K p now ip Sp least pL late x.timeouts inbox fair none x (record { waiting = record { calm = h; same = refl }; not_L = ne }) in
              expired_now-elim MoveTo (expired p) now z
              (λ f.
              expired-elim MoveTo p z (place r.waiting.calm f)
              (λ t size at same.
              let d : K.L - 1 ≢ z.leader - 1 = λ i. r.not_L (let j : z.leader ≡ K.L = omega (arith, K.L-in.low, r.waiting.calm.sane.range.low) in j) in
              let c : entry z.timeouts K.L ≡ entry x.timeouts K.L = ap (λ l. entry l K.L) r.waiting.same in
              rw (ne_eqb _ _ ne, ne_eqb p K.L pL) (waits (omega (arith, same (K.L - 1) d)) le)))
              (λ f. rw (ne_eqb _ _ ne, ne_eqb _ _ r.not_L) (waits (ap (λ l. entry l K.L - K.period) r.waiting.same) le))
