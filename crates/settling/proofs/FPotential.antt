-- F. What a follower has left to lose.
use mathlib.Core.Path.{◌≡◌, refl}
use mathlib.Core.Bool.{Bool, true, false}
use Prim.Native.Nat.{ℕ, zero, suc, ◌+◌, ◌-◌, ◌*◌, ◌≤◌, ◌<◌, zero-le}
use native.Mathlib.Omega.{arith}
use Rattle.settling.proofs.G1Sums.{failed}
use Rattle.settling.proofs.E1Phase.{Phase, trusts, lost, early, Move, heard, runs, ends, waits, soon}

-- 1 + .. + m
unfoldable pub tri : ℕ → ℕ
tri zero = zero
tri (suc m) = suc m + tri m

pub tri_step : (m n : ℕ) → n < m → tri (m - n) ≡ (m - n) + tri (m - suc n)
unfolding tri
tri_step m n h =
    let e : m - n ≡ suc (m - suc n) = omega arith in
    rw e refl

pub tri_mono : (m n : ℕ) → m ≤ n → tri m ≤ tri n
unfolding tri
tri_mono zero n h = zero-le
tri_mono (suc m) zero h = omega arith
tri_mono (suc m) (suc n) h = let i : tri m ≤ tri n = tri_mono m n (omega arith) in omega arith

pub tri_double : (m : ℕ) → 2 * tri m ≡ m * (m + 1)
unfolding tri
tri_double zero = refl
tri_double (suc m) = let i : 2 * tri m ≡ m * (m + 1) = tri_double m in omega arith

abbrev pub pot_if : ℕ → ℕ → ℕ → ℕ → Bool → ℕ
pot_if d now u dl true = tri (d - suc u)
pot_if d now u dl false = (dl - suc now) + tri (d - suc u)

module _ (period d END now timer u dl timer' u' dl' : ℕ) (after : END ≤ now) (ahead : now < dl) (ahead' : suc now < dl') where
  pub move_pot : {b b' : Bool} → Phase d END now timer u dl b → Move period d END (suc now) timer u dl timer' u' dl' b b'
      → failed b' + pot_if d (suc now) u' dl' b' ≤ pot_if d now u dl b
  move_pot (trusts a c) (heard p q r s) = rw r (omega arith)
  move_pot (trusts a c) (runs p q r) = rw q (omega arith)
  move_pot (trusts a c) (ends p q r) = rw q (omega (arith, tri_step d (suc u) (omega arith)))
  move_pot (trusts a c) (soon p) = omega arith
  move_pot (lost a c) (heard p q r s) = rw r (omega arith)
  move_pot (lost a c) (waits p q) = rw p (omega arith)
  move_pot (lost a c) (soon p) = omega arith
  move_pot (early a) m = omega arith

pub pot_top : (d END now timer u dl : ℕ) {b : Bool} → END ≤ now → now < dl → Phase d END now timer u dl b → pot_if d now u dl b ≤ tri (d - 2)
pot_top d END now timer u dl after ahead (trusts a c) = tri_mono (d - suc u) (d - 2) (omega arith)
pot_top d END now timer u dl after ahead (lost a c) =
    let e : tri (d - u) ≡ (d - u) + tri (d - suc u) = tri_step d u (omega arith) in
    let f : tri (d - u) ≤ tri (d - 2) = tri_mono (d - u) (d - 2) (omega arith) in
    omega arith
pot_top d END now timer u dl after ahead (early a) = omega arith
