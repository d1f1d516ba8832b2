-- Lists made entry by entry: what a loop that stores leaves.
use Rattle.std.specs.Prelude.{List, [], ◌∷◌, ◌++◌, ℕ, zero, suc, length, drop}

module _ {A : Type 0} where
  -- f 0, f 1, .., f (n - 1)
  unfoldable pub up_to : ℕ → (ℕ → A) → List A
  up_to zero f = []
  up_to (suc n) f = up_to n f ++ (f n ∷ [])

  -- the first n entries are f's, and the others are those of old
  unfoldable pub firsts : ℕ → (ℕ → A) → List A → List A
  firsts n f old = up_to n f ++ drop n old

  -- l laid over the front of old
  unfoldable pub over : List A → List A → List A
  over l old = l ++ drop (length l) old
