-- A test of every number: what a loop with an early answer finds.
use Rattle.std.specs.Prelude.{Bool, true, not, ◌&&◌, ℕ, zero, suc}

-- the test holds of every number below n
unfoldable pub all_to : ℕ → (ℕ → Bool) → Bool
all_to zero t = true
all_to (suc n) t = all_to n t && t n

-- the test holds of some number below n
unfoldable pub some_to : ℕ → (ℕ → Bool) → Bool
some_to n t = not (all_to n (λ k. not (t k)))
