-- What fits keeps a rule's sums in range.
use mathlib.Core.Logic.{◌⊎◌}
use mathlib.Core.Logic.◌⊎◌.{inl, inr}
use mathlib.Core.Path.{◌≡◌}
use mathlib.Core.Bool.{true}
use Prim.Native.Nat.{ℕ, ◌≤◌}
use native.Mathlib.Omega.{arith}
use Rattle.station.specs.Limits.{last_tick, longest}
use Rattle.station.specs.declared.Station.{Station}
use Rattle.clock.specs.Fit.{fit_start, fit_hear, fit_expire, fit_slot}
use Rattle.clock.proofs.Between.{start_of}
use Rattle.clock.proofs.Handed.{Hearing, Expiring, Unended, Ended, Slotting, hearing-of, expiring-of, slotting-of}
use Rattle.clock.proofs.Tests.{fit-ranges}

module _ (me n period tick : ℕ) (s : Station) where
  pub start_safe : fit_start me n period tick s ≡ true → (period ≤ 255) × (tick ≤ last_tick)
  start_safe e =
      let (h, f) = start_of me n period tick s e in
      let (r, k) = fit-ranges me n period tick s f in
      (r.period-high, h)

  pub hear_safe : (q z : ℕ) → fit_hear me n period tick q z s ≡ true → (tick ≤ last_tick) × (s.timeout ≤ longest last_tick)
  hear_safe q z e =
      let h : Hearing me n period tick q z s = hearing-of me n period tick q z s e in
      (h.values.tick-high, omega (arith, h.stands.timeout-high, h.values.tick-high, h.values.given.period-high))

  pub expire_safe : fit_expire me n period tick s ≡ true → s.timeout ≤ longest last_tick
  expire_safe e =
      let x : Expiring me n period tick s = expiring-of me n period tick s e in
      omega (arith, x.stands.timeout-high, x.values.tick-high, x.values.given.period-high)

  pub slot_safe : fit_slot me n period tick s ≡ true → (period ≤ 255) × (tick ≤ last_tick) × (s.timeout ≤ longest last_tick)
  slot_safe e =
      let x : Slotting me n period tick s = slotting-of me n period tick s e in
      (x.values.given.period-high, x.values.tick-high, room x x.timer)
    where
      room : Slotting me n period tick s → Unended me period tick s ⊎ Ended me period tick s → s.timeout ≤ longest last_tick
      room x (inl u) = omega (arith, u.timeout-high, x.values.tick-high, x.values.given.period-high)
      room x (inr u) = omega (arith, u.timeout, x.values.tick-high, x.values.given.period-high)
