-- The entries at which a test holds: what a loop that keeps some of them leaves.
use Rattle.std.specs.Prelude.{List, [], ◌∷◌, ◌++◌, Bool, cond, ℕ, zero, suc}

module _ {A : Type 0} where
  -- f i for each i below n at which the test holds, in order
  unfoldable pub where_to : ℕ → (ℕ → Bool) → (ℕ → A) → List A
  where_to zero t f = []
  where_to (suc n) t f = where_to n t f ++ cond (t n) (f n ∷ []) []
