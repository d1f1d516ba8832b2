-- What fits keeps sums and places in range, for both kinds of head.
use mathlib.Core.Path.{◌≡◌, refl, sym, ◌∙◌}
use mathlib.Core.List.{List}
use mathlib.Core.Bool.{Bool, true, false, not, ◌&&◌}
use Prim.Native.Nat.{ℕ, ◌-◌, ◌<◌, ◌≤◌}
use native.Mathlib.Omega.{arith}
use lib.Dec.{eqb}
use lib.ListN.{get_or}
use Rattle.lists.proofs.Bools.{both, three, five}
use Rattle.station.specs.Limits.{last_tick, longest}
use Rattle.station.specs.Order.{entry}
use Rattle.station.specs.Rules.{other}
use Rattle.station.specs.declared.Station.{Station}
use Rattle.fit.specs.Fit.{ranges, kept_in, counts_in, timeouts_in, vectorless, clockless, cleared}
use Rattle.fit.proofs.Handed.{slotting-of}
use Rattle.fit.proofs.Safe.{expire_safe}
use Rattle.fit.proofs.Tests.{Timeouts, timeouts-of, flash-fields, fit_of, fit-down}
use Rattle.clock.specs.Fit.{kept_in as clockKeptIn}
use Rattle.clock.proofs.Keeps.{during_timeout, during_leader}
use Rattle.clock.proofs.Safe.{slot_safe}
use Rattle.clock.proofs.Tests.{fit_of as clock-fit-of, fit-ranges as clock-fit-ranges, fit-down as clock-fit-down}
use Rattle.election.specs.Heads.{fits}
use Rattle.election.proofs.Heads.{During, fits_slot, during_expires}

-- no timeout is above the highest
within-timeouts : (me n period high : ℕ) (t : List ℕ) → Timeouts me n period high t → (k : ℕ) → k < 8 → get_or t k 0 ≤ high
within-timeouts me n period high t f k h = go (other me n k) refl
  where
    go : (b : Bool) → other me n k ≡ b → get_or t k 0 ≤ high
    go true o = (f.others k h o).1
    go false o = let e : get_or t k 0 ≡ 0 = f.rest k h o in omega arith

-- and where there are no counts and no timeouts each is zero
none-high : (x : Station) → vectorless x ≡ true → (k : ℕ) → k < 8 → get_or x.timeouts k 0 ≤ longest last_tick
unfolding vectorless
none-high x e k h =
    omega (arith, within-timeouts 0 0 0 0 x.timeouts (timeouts-of 0 0 0 0 x.timeouts (both (counts_in 0 x.recovered) (timeouts_in 0 0 0 0 x.timeouts) e).1) k h)

-- what a down station lost is zero
lost : (x : Station) → cleared x ≡ true → (vectorless x ≡ true) × (clockless x ≡ true)
unfolding cleared
lost x c =
    let (a, b, d, e, v) = five (eqb x.leader 0) (eqb x.timer 0) (eqb x.slot 0) (not x.recovering) (vectorless x && clockless x) c in
    both (vectorless x) (clockless x) v

abbrev Low : Station → Type 0
Low x = ((k : ℕ) → k < 8 → get_or x.timeouts k 0 ≤ longest last_tick) × (x.timeout ≤ longest last_tick)

down-low : (x : Station) → cleared x ≡ true → Low x
down-low x c = let (v, z) = lost x c in (none-high x v, omega (arith, (flash-fields x z).2))

-- the timeouts of a station that fits the end of a tick
pub fits-timeouts : (clock : Bool) (me n period tick : ℕ) (x : Station) → tick ≤ 1000000 → fits clock me n period tick x ≡ true → Low x
fits-timeouts true me n period tick x room e = go x.up refl
  where
    go : (b : Bool) → x.up ≡ b → Low x
    go true u =
        let (r, k) = clock-fit-ranges me n period tick x e in
        (none-high x k.empty, omega (arith, (clock-fit-of me n period tick x e u).0.timeout-high, r.period-high))
    go false d = down-low x (three (ranges me n period) (clockKeptIn me x) (cleared x) (sym (clock-fit-down me n period tick x d) ∙ e)).2
fits-timeouts false me n period tick x room e = go x.up refl
  where
    go : (b : Bool) → x.up ≡ b → Low x
    go true u =
        let stands = (fit_of me n period tick x e u).0 in
        (λ k h. omega (arith, within-timeouts me n period (longest tick) x.timeouts stands.timeouts k h), omega (arith, (flash-fields x stands.living.flash).2))
    go false d = down-low x (three (ranges me n period) (kept_in n x) (cleared x) (sym (fit-down me n period tick x d) ∙ e)).2

module _ (ranks : List ℕ) (me n period now : ℕ) (x : Station) where
  -- of one whose timer is due
  pub during_safe : (clock : Bool) → During clock ranks me n period now x → x.timer ≡ now → (1 ≤ x.leader) × (x.leader ≤ 8) × (entry x.timeouts x.leader ≤ longest last_tick) × (x.timeout ≤ longest last_tick)
  during_safe true d e =
      let (low, high) = during_leader me n period now x d e in
      (low, high, none-high x d.kept.empty (x.leader - 1) (omega (arith, low, high)), during_timeout me n period now x d)
  during_safe false d e =
      let (low, high, some) = expire_safe me n period now x (during_expires ranks me n period now x false d e) in
      (low, high, some, omega (arith, (flash-fields x d.stands.living.flash).2))

  -- of one whose send chance is due
  pub slot_timeout : (clock : Bool) → fits_slot clock ranks me n period now x ≡ true → x.timeout ≤ longest last_tick
  slot_timeout true e = (slot_safe me n period now x e).2
  slot_timeout false e = omega (arith, (flash-fields x (slotting-of ranks me n period now x e).living.flash).2)
