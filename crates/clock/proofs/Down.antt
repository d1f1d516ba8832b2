-- A head with a running clock that is down: what it lost is zero, and it fits every tick.
use mathlib.Core.Path.{◌≡◌, refl, sym, ◌∙◌}
use mathlib.Core.Bool.{true, false}
use Prim.Native.Nat.{ℕ}
use Rattle.lists.proofs.Bools.{three}
use Rattle.station.specs.Rules.{down_with}
use Rattle.station.specs.declared.Station.{Station}
use Rattle.fit.specs.Fit.{ranges, cleared}
use Rattle.fit.proofs.Down.{down-cleared, cleared-slot}
use Rattle.fit.proofs.Tests.{Ranges, of_ranges}
use Rattle.clock.specs.Fit.{kept_in, fit}
use Rattle.clock.proofs.Tests.{of_kept, zeros-empty, fit-down}

-- a head that lost all fits
pub down_fits : (me n period tick : ℕ) → Ranges me n period → fit me n period tick (down_with 0 me) ≡ true
down_fits me n period tick r =
    fit-down me n period tick (down_with 0 me) refl
    ∙ rw (of_ranges me n period r, of_kept me (down_with 0 me) (record { none = refl; own = refl; empty = zeros-empty (down_with 0 me) refl refl }), down-cleared (down_with 0 me))

module _ (me n period tick : ℕ) (s : Station) where
  -- it has no send chance
  pub down-slot : fit me n period tick s ≡ true → s.up ≡ false → s.slot ≡ 0
  down-slot e d =
      let (a, b, c) = three (ranges me n period) (kept_in me s) (cleared s) (sym (fit-down me n period tick s d) ∙ e) in
      cleared-slot s c

  -- and fits every tick
  pub down-keeps : (later : ℕ) → fit me n period tick s ≡ true → s.up ≡ false → fit me n period later s ≡ true
  down-keeps later e d = fit-down me n period later s d ∙ sym (fit-down me n period tick s d) ∙ e
