-- What a start and a crash of a head with a running clock are handed between ticks, both ways.
use mathlib.Core.Path.{◌≡◌}
use mathlib.Core.Bool.{true}
use Prim.Native.Nat.{ℕ, ◌≤◌}
use lib.Dec.{leb}
use borrow.Author.Tests.{leb-true, le-leb}
use Rattle.lists.proofs.Bools.{both}
use Rattle.station.specs.Limits.{last_tick}
use Rattle.station.specs.declared.Station.{Station}
use Rattle.clock.specs.Fit.{fit, fit_start, fit_crash}

module _ (me n period tick : ℕ) (s : Station) where
  pub start_of : fit_start me n period tick s ≡ true → (tick ≤ 1000000) × (fit me n period tick s ≡ true)
  unfolding fit_start
  start_of e = let (a, b) = both (leb tick last_tick) (fit me n period tick s) e in (leb-true tick last_tick a, b)

  pub of_start : tick ≤ 1000000 → fit me n period tick s ≡ true → fit_start me n period tick s ≡ true
  unfolding fit_start
  of_start h e = rw (le-leb tick last_tick h, e)

  pub crash-of : fit_crash me n period tick s ≡ true → (fit_start me n period tick s ≡ true) × (s.up ≡ true)
  unfolding fit_crash
  crash-of e = both (fit_start me n period tick s) s.up e

  pub of_crash : fit_start me n period tick s ≡ true → s.up ≡ true → fit_crash me n period tick s ≡ true
  unfolding fit_crash
  of_crash e u = rw (e, u)
