-- The largest of some numbers.
use Rattle.std.specs.Prelude.{ℕ, zero, suc, max}

-- the largest of f 0, .., f (n - 1), or 0
unfoldable pub max_to : ℕ → (ℕ → ℕ) → ℕ
max_to zero f = 0
max_to (suc n) f = max (max_to n f) (f n)
