-- How many numbers pass a test.
use Rattle.std.specs.Prelude.{Bool, cond, ℕ, ◌+◌}
use Rattle.lists.specs.Fold.{each}

-- the numbers below n at which the test holds, counted
unfoldable pub count_to : ℕ → (ℕ → Bool) → ℕ
count_to n t = each n (λ k c. cond (t k) (c + 1) c) 0
