-- G. An entry that is no run: it leaves the steady heads and what is under way from L to them, so the invariant and the count of divided ticks to come.
use mathlib.Core.Path.{◌≡◌, refl, sym, ap, ◌∙◌}
use mathlib.Core.Logic.{◌≢◌}
use mathlib.Core.Bool.{Bool, true, false, cond, true≢false}
use mathlib.Core.List.{[]}
use Prim.Native.Nat.{ℕ, ◌+◌, ◌≤◌, ◌<◌, zero-le}
use native.Mathlib.Nat.{le_of_eq, le_trans}
use native.Mathlib.Omega.{arith}
use lib.Dec.{eqb}
use Rattle.fit.specs.Fit.{longest_delay}
use Rattle.lists.specs.Every.{All}
use Rattle.station.specs.declared.Station.{Station}
use Rattle.election.specs.System.{with_station, with_delay, without_messages, station, underway}
use Rattle.election.specs.declared.System.{System}
use Rattle.election.proofs.Changes.{changed_other}
use Rattle.election.proofs.Counts.{counts}
use Rattle.election.proofs.Places.{In, seat_in, widen}
use Rattle.settling.proofs.A2Reached.{Reached}
use Rattle.settling.proofs.A3Reaching.{lost-elim, lose-reached, delay-reached}
use Rattle.settling.proofs.BCalm.{Stretch}
use Rattle.settling.proofs.DDeadline.{deadline}
use Rattle.settling.proofs.E2Follower.{spare}
use Rattle.settling.proofs.E3Invariant.{Coming, Inv, in_s}
use Rattle.settling.proofs.FPotential.{pot_if}
use Rattle.settling.proofs.G1Sums.{sum_le}
use Rattle.settling.proofs.G3Begins.{StillSteady}
use Rattle.settling.proofs.G2Counting.{pot_of, pots, Budget}

-- y is what an entry leaves of x: steady heads are as they were, and so is what is under way to them from L; messages to them are as the invariant asks,
-- and every other up head has more starts than L
pub record Leaves (K : Stretch) (x y : System) : Type 0 where
  pub n : y.n ≡ x.n
  pub period : y.period ≡ x.period
  pub ranks : y.ranks ≡ x.ranks
  pub tick : y.tick ≡ x.tick
  pub reached : Reached y
  pub heads : (p : ℕ) → In K.n p → K.steady p ≡ true → station y p ≡ station x p
  pub surplus : (p : ℕ) → In K.n p → (station y p).up ≡ true → K.steady p ≡ false → K.C K.L < counts y p
  pub mail : (q p : ℕ) → In K.n q → In K.n p → q ≢ p → K.steady p ≡ true → All (Coming K x.tick q) (underway y q p)
  pub from-L : (p : ℕ) → In K.n p → K.steady p ≡ true → underway y K.L p ≡ underway x K.L p

module _ (K : Stretch) (x y : System) (l : Leaves K x y) (h : Inv K x) where
  of_L : station y K.L ≡ station x K.L
  of_L = l.heads K.L K.L-in K.L-steady

  same-deadline : (p : ℕ) → In K.n p → K.steady p ≡ true → deadline K y p ≡ deadline K x p
  same-deadline p ip u = rw (l.from-L p ip u, of_L)

  leaves_inv : Inv K y
  leaves_inv =
      record {
        same-n = l.n ∙ h.same-n;
        same-period = l.period ∙ h.same-period;
        same-ranks = l.ranks ∙ h.same-ranks;
        reached = l.reached;
        ups = λ p ip u. ap (λ (z : Station). z.up) (l.heads p ip u) ∙ h.ups p ip u;
        const = λ p ip u. ap (λ (z : Station). z.incarnation) (l.heads p ip u) ∙ h.const p ip u;
        surplus = l.surplus;
        least = h.least;
        calm = λ p ip u. rw (l.tick, l.heads p ip u) (h.calm p ip u);
        mail = λ q p iq ip ne u. rw l.tick (l.mail q p iq ip ne u);
        next-lo = rw (l.tick, of_L) h.next-lo;
        next-hi = rw (l.tick, of_L) h.next-hi;
        phases = λ p ip u ne. rw (l.tick, same-deadline p ip u, l.heads p ip u) (h.phases p ip u ne);
      }

  leaves_pots : pots K y ≤ pots K x
  leaves_pots = sum_le K.n (pot_of K y) (pot_of K x) each
    where
      each : (k : ℕ) → k < K.n → pot_of K y k ≤ pot_of K x k
      each k i = go (K.steady (k + 1)) refl
        where
          f : System → ℕ
          f z = cond (eqb (k + 1) K.L) 0 (pot_if K.d z.tick (spare K (station z (k + 1))) (deadline K z (k + 1)) (eqb (station z (k + 1)).leader K.L))

          go : (b : Bool) → K.steady (k + 1) ≡ b → cond b (f y) 0 ≤ cond b (f x) 0
          go false e = zero-le
          go true u =
              let ip : In K.n (k + 1) = seat_in K.n k i in
              le_of_eq (rw (l.tick, same-deadline (k + 1) ip u, l.heads (k + 1) ip u))

-- the limit on the divided ticks to come stays
pub leaves_budget : (K : Stretch) (N : ℕ) (x y : System) → Leaves K x y → Budget K N x → Budget K N y
leaves_budget K N x y l b =
    record {
      inv = leaves_inv K x y l b.inv;
      early = rw l.tick b.early;
      late = λ e. le_trans (leaves_pots K x y l b.inv) (b.late (rw l.tick at e));
    }

-- a link is set
pub delay-leaves : (K : Stretch) (x : System) (a b d : ℕ) → In x.n a → In x.n b → a ≢ b → d ≤ longest_delay → Inv K x → Leaves K x (with_delay a b d x)
delay-leaves K x a b d ia ib ne few h =
    record {
      n = refl;
      period = refl;
      ranks = refl;
      tick = refl;
      reached = delay-reached x h.reached a b d ia ib ne few;
      heads = λ p ip u. refl;
      surplus = h.surplus;
      mail = h.mail;
      from-L = λ p ip u. refl;
    }

-- messages are lost, none of them between steady heads
pub lose-leaves : (K : Stretch) (x : System) (a b : ℕ) → In x.n a → In x.n b → a ≢ b → (K.steady a ≡ true → K.steady b ≡ true → underway x a b ≡ []) → Inv K x
    → Leaves K x (without_messages a b x)
lose-leaves K x a b ia ib ne none h =
    record {
      n = refl;
      period = refl;
      ranks = refl;
      tick = refl;
      reached = lose-reached x h.reached a b ia ib ne;
      heads = λ p ip u. refl;
      surplus = h.surplus;
      mail = λ q p iq ip d u. lost-elim x a b (wide a ia) (wide b ib) (All (Coming K x.tick q)) q p (within q iq) (within p ip) (h.mail q p iq ip d u) (λ e f. tt);
      from-L = λ p ip u.
          lost-elim x a b (wide a ia) (wide b ib) (λ l. l ≡ underway x K.L p) K.L p (within K.L K.L-in) (within p ip) refl
          (λ e f. sym (rw (e, f) (none (rw (← e) K.L-steady) (rw (← f) u))));
    }
  where
    wide : (p : ℕ) → In x.n p → In 8 p
    wide p ip = widen x.n p h.reached.sound.n-high ip

    within : (p : ℕ) → In K.n p → In 8 p
    within p ip = wide p (in_s K x h p ip)

-- an unsteady station becomes z
pub change_leaves : (K : Stretch) (x : System) (p : ℕ) → In x.n p → K.steady p ≡ false → (z : Station) → Reached (with_station p z x) → StillSteady K.steady K.n K.L (with_station p z x) → Inv K x
    → Leaves K x (with_station p z x)
change_leaves K x p ip ns z r still h =
    record {
      n = refl;
      period = refl;
      ranks = refl;
      tick = refl;
      reached = r;
      heads = heads;
      surplus = λ q iq u s. omega (arith, still.more q iq u s, ap (λ (y : Station). y.incarnation) (heads K.L K.L-in K.L-steady), h.const K.L K.L-in K.L-steady);
      mail = h.mail;
      from-L = λ q iq u. refl;
    }
  where
    heads : (q : ℕ) → In K.n q → K.steady q ≡ true → station (with_station p z x) q ≡ station x q
    heads q iq u = changed_other x h.reached.sound p ip z q iq.low (λ e. true≢false (sym u ∙ ap K.steady e ∙ ns))
