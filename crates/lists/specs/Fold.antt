-- A step for each number: what a loop that folds leaves.
use Rattle.std.specs.Prelude.{ℕ, zero, suc}

-- g 0, then g 1, .., then g (n - 1), done to s
unfoldable pub each : {S : Type 0} → ℕ → (ℕ → S → S) → S → S
each zero g s = s
each (suc n) g s = g n (each n g s)
