-- G. Laws of sums, and of how many tests fail.
use mathlib.Core.Path.{◌≡◌, refl, sym, ap, ◌∙◌}
use mathlib.Core.Logic.{◌≢◌}
use mathlib.Core.Bool.{Bool, true, false, cond, ◌&&◌}
use Prim.Native.Nat.{ℕ, zero, suc, ◌+◌, ◌*◌, ◌≤◌, ◌<◌, zero-le}
use native.Mathlib.Decide.{ℕ_discrete}
use native.Mathlib.Omega.{arith}
use Rattle.lists.specs.Count.{count_to}
use Rattle.lists.specs.Fold.{each}
use Rattle.lists.specs.Test.{all_to}

-- f 0 + .. + f (n - 1)
unfoldable pub sum_to : ℕ → (ℕ → ℕ) → ℕ
sum_to zero f = 0
sum_to (suc n) f = sum_to n f + f n

pub sum_le : (n : ℕ) (f g : ℕ → ℕ) → ((k : ℕ) → k < n → f k ≤ g k) → sum_to n f ≤ sum_to n g
unfolding sum_to
sum_le zero f g h = zero-le
sum_le (suc n) f g h = omega (arith, sum_le n f g (λ k l. h k (omega arith)), h n (omega arith))

pub sum_add : (n : ℕ) (f g : ℕ → ℕ) → sum_to n (λ k. f k + g k) ≡ sum_to n f + sum_to n g
unfolding sum_to
sum_add zero f g = refl
sum_add (suc n) f g = omega (arith, sum_add n f g)

-- one term less: where f is 0 at j, the sum of f falls short by g j
pub sum_short : (n j : ℕ) (f g : ℕ → ℕ) → ((k : ℕ) → k < n → f k ≤ g k) → f j ≡ 0 → j < n → sum_to n f + g j ≤ sum_to n g
unfolding sum_to
sum_short zero j f g h z l = absurd (omega arith)
sum_short (suc n) j f g h z l = go (ℕ_discrete j n) (λ ne. sum_short n j f g (λ k i. h k (omega arith)) z (omega arith))
  where
    go : Dec (j ≡ n) → (j ≢ n → sum_to n f + g j ≤ sum_to n g) → sum_to n f + f n + g j ≤ sum_to n g + g n
    go (yes e) r =
        let a : f n ≡ 0 = ap f (sym e) ∙ z in
        let b : g j ≡ g n = ap g e in
        omega (arith, sum_le n f g (λ k i. h k (omega arith)))
    go (no ne) r = omega (arith, r ne, h n (omega arith))

-- a number for each that passes a test
pub sum_counted : (n T : ℕ) (t : ℕ → Bool) → sum_to n (λ k. cond (t k) T 0) ≡ count_to n t * T
unfolding sum_to count_to each
sum_counted zero T t = omega arith
sum_counted (suc n) T t = go (t n) (sum_counted n T t)
  where
    go : (b : Bool) → sum_to n (λ k. cond (t k) T 0) ≡ count_to n t * T → sum_to n (λ k. cond (t k) T 0) + cond b T 0 ≡ cond b (count_to n t + 1) (count_to n t) * T
    go true e = omega (arith, e)
    go false e = omega (arith, e)

-- 1 if a test fails
abbrev pub failed : Bool → ℕ
failed b = cond b 0 1

-- where a test of all fails, one of them fails
pub some_failed : (n : ℕ) (t : ℕ → Bool) → failed (all_to n t) ≤ sum_to n (λ k. failed (t k))
unfolding sum_to all_to
some_failed zero t = zero-le
some_failed (suc n) t = go (all_to n t) (t n) (some_failed n t)
  where
    go : (a b : Bool) → failed a ≤ sum_to n (λ k. failed (t k)) → failed (a && b) ≤ sum_to n (λ k. failed (t k)) + failed b
    go true b h = omega arith
    go false b h = omega arith
