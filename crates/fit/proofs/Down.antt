-- A station that is down: what it lost is zero, and it fits every tick.
use mathlib.Core.Path.{◌≡◌, refl, sym, ◌∙◌}
use mathlib.Core.Bool.{true, false, not, ◌&&◌}
use Prim.Native.Nat.{ℕ}
use lib.Dec.{eqb}
use borrow.Author.Tests.{eqb-true}
use Rattle.lists.specs.Test.{all_to}
use Rattle.lists.proofs.Bools.{three, five}
use Rattle.fit.specs.Fit.{ranges, kept_in, vectorless, clockless, cleared, counts_in, timeouts_in, fit}
use Rattle.station.specs.declared.Station.{Station}
use Rattle.station.proofs.Elimination.{down}
use Rattle.fit.proofs.Tests.{Ranges, Kept, of_ranges, of_kept, fit-down}

-- what a down station lost is zero
pub down-cleared : (s : Station) → cleared (down s) ≡ true
unfolding cleared vectorless counts_in timeouts_in all_to
down-cleared s = refl

-- so it fits, where what it keeps is in range
pub down_fits : (me n period tick : ℕ) (s : Station) → Ranges me n period → Kept n s.incarnation s.stable → fit me n period tick (down s) ≡ true
down_fits me n period tick s r k = fit-down me n period tick (down s) refl ∙ rw (of_ranges me n period r, of_kept n (down s) k, down-cleared s)

-- it has no send chance
pub cleared-slot : (s : Station) → cleared s ≡ true → s.slot ≡ 0
unfolding cleared
cleared-slot s e =
    let (x, y, z, r, v) = five (eqb s.leader 0) (eqb s.timer 0) (eqb s.slot 0) (not s.recovering) (vectorless s && clockless s) e in
    eqb-true s.slot 0 z

module _ (me n period tick : ℕ) (s : Station) where
  pub down-slot : fit me n period tick s ≡ true → s.up ≡ false → s.slot ≡ 0
  down-slot e d =
      let (a, b, c) = three (ranges me n period) (kept_in n s) (cleared s) (sym (fit-down me n period tick s d) ∙ e) in
      cleared-slot s c

  -- it fits every tick
  pub down-keeps : (later : ℕ) → fit me n period tick s ≡ true → s.up ≡ false → fit me n period later s ≡ true
  down-keeps later e d = fit-down me n period later s d ∙ sym (fit-down me n period tick s d) ∙ e
