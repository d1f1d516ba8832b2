-- E. One follower as arithmetic: the three cases that it can be in, and what a tick does to it.
use mathlib.Core.Path.{◌≡◌}
use mathlib.Core.Bool.{Bool, true, false}
use Prim.Native.Nat.{ℕ, suc, ◌+◌, ◌≤◌, ◌<◌}
use native.Mathlib.Omega.{arith}

-- One follower, as arithmetic in absolute ticks: whether it trusts L, when its timer ends, `u` its timeout for L less the period,
-- `dl` a tick by which L's next message reaches it unless one comes sooner.
pub data Phase (d END now timer u dl : ℕ) : Bool → Type 0 where
  trusts : 1 ≤ u → dl + u < timer + d → Phase d END now timer u dl true
  lost : 2 ≤ u → dl + u ≤ now + d → Phase d END now timer u dl false
  early : {b : Bool} → dl ≤ END → Phase d END now timer u dl b

-- What the tick numbered `now` does to it.
pub data Move (period d END now timer u dl timer' u' dl' : ℕ) : Bool → Bool → Type 0 where
  heard : {b : Bool} → 1 ≤ u → timer' ≡ now + (u + period) → u' ≡ u → dl' < now + period + d → Move period d END now timer u dl timer' u' dl' b true
  runs : timer' ≡ timer → u' ≡ u → dl' ≤ dl → Move period d END now timer u dl timer' u' dl' true true
  ends : timer ≡ now → u' ≡ suc u → dl' ≤ dl → Move period d END now timer u dl timer' u' dl' true false
  waits : u' ≡ u → dl' ≤ dl → Move period d END now timer u dl timer' u' dl' false false
  soon : {b b' : Bool} → dl' ≤ END → Move period d END now timer u dl timer' u' dl' b b'

module _ (period d END now timer u dl timer' u' dl' : ℕ) where
  pub move_phase : {b b' : Bool} → Phase d END now timer u dl b → Move period d END (suc now) timer u dl timer' u' dl' b b' → Phase d END (suc now) timer' u' dl' b'
  move_phase (trusts a c) (heard p q r s) = trusts (omega arith) (omega arith)
  move_phase (trusts a c) (runs p q r) = trusts (omega arith) (omega arith)
  move_phase (trusts a c) (ends p q r) = lost (omega arith) (omega arith)
  move_phase (trusts a c) (soon p) = early p
  move_phase (lost a c) (heard p q r s) = trusts (omega arith) (omega arith)
  move_phase (lost a c) (waits p q) = lost (omega arith) (omega arith)
  move_phase (lost a c) (soon p) = early p
  move_phase (early a) (heard p q r s) = trusts (omega arith) (omega arith)
  move_phase (early a) (runs p q r) = early (omega arith)
  move_phase (early a) (ends p q r) = early (omega arith)
  move_phase (early a) (waits p q) = early (omega arith)
  move_phase (early a) (soon p) = early p
