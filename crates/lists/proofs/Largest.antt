-- Laws of the largest of some numbers.
use Prim.Native.Nat.{ℕ, zero, suc, ◌<◌, ◌≤◌, max}
use mathlib.Core.Path.{◌≡◌, refl}
use native.Mathlib.Decide.{dec_lt}
use native.Mathlib.Omega.{arith}
use Rattle.lists.specs.Largest.{max_to}

-- no number is above the largest
pub max_least : (n : ℕ) (f : ℕ → ℕ) (k : ℕ) → k < n → f k ≤ max_to n f
unfolding max_to
max_least zero f k h = absurd (omega arith)
max_least (suc n) f k h = go (dec_lt k n) (max_least n f k)
  where
    go : Dec (k < n) → (k < n → f k ≤ max_to n f) → f k ≤ max (max_to n f) (f n)
    go (yes l) r = omega (arith, r l)
    go (no l) r = let e : k ≡ n = omega arith in rw e (omega arith)

-- of the same numbers
pub max_same : (n : ℕ) (f g : ℕ → ℕ) → ((k : ℕ) → k < n → f k ≡ g k) → max_to n f ≡ max_to n g
unfolding max_to
max_same zero f g h = refl
max_same (suc n) f g h = rw (max_same n f g (λ k l. h k (omega arith)), h n (omega arith))
