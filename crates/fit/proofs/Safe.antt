-- What fits keeps a rule's sums and places in range.
use mathlib.Core.Path.{◌≡◌}
use mathlib.Core.List.{List}
use mathlib.Core.Bool.{true}
use Prim.Native.Nat.{ℕ, ◌-◌, ◌≤◌}
use native.Mathlib.Omega.{arith}
use Rattle.station.specs.Order.{entry}
use Rattle.fit.specs.Fit.{fit_start, fit_hear, fit_expire, fit_slot}
use Rattle.station.specs.Limits.{last_tick, longest}
use Rattle.station.specs.declared.Station.{Station}
use Rattle.fit.proofs.Between.{start_of}
use Rattle.fit.proofs.Handed.{Hearing, hearing-of, expiring-of, slotting-of, Expiring, Slotting}
use Rattle.fit.proofs.Keeps.{timeout-was}
use Rattle.fit.proofs.Tests.{fit-ranges}
use Rattle.station.proofs.Vectors.{other-of}

module _ (me n period tick : ℕ) (s : Station) where
  pub start_safe : fit_start me n period tick s ≡ true → (1 ≤ me) × (me ≤ 8) × (period ≤ 255) × (tick ≤ last_tick)
  start_safe e =
      let (h, f) = start_of me n period tick s e in
      let (r, k) = fit-ranges me n period tick s f in
      (r.me_low, omega (arith, r.me_high, r.n-high), r.period-high, h)

  pub hear_safe : (ranks : List ℕ) (q : ℕ) (v : List ℕ) → fit_hear ranks me n period tick q v s ≡ true → (tick ≤ last_tick) × (entry s.timeouts q ≤ longest last_tick)
  hear_safe ranks q v e =
      let h : Hearing ranks me n period tick q v s = hearing-of ranks me n period tick q v s e in
      let (low, high) = h.stands.timeouts.others (q - 1) (omega (arith, h.message.low, h.message.high, h.values.given.n-high)) (other-of me n q h.message.low h.message.high h.message.other) in
      (h.values.tick-high, omega (arith, h.values.tick-high))

  pub expire_safe : fit_expire me n period tick s ≡ true → (1 ≤ s.leader) × (s.leader ≤ 8) × (entry s.timeouts s.leader ≤ longest last_tick)
  expire_safe e =
      let x : Expiring me n period tick s = expiring-of me n period tick s e in
      (x.stands.living.leader_low, omega (arith, x.stands.living.leader_high, x.values.given.n-high), omega (arith, (timeout-was me n period tick s x).1, x.values.tick-high))

  pub slot_safe : (ranks : List ℕ) → fit_slot ranks me n period tick s ≡ true → (period ≤ 255) × (tick ≤ last_tick)
  slot_safe ranks e = let x : Slotting ranks me n period tick s = slotting-of ranks me n period tick s e in (x.values.given.period-high, x.values.tick-high)
