-- One of two texts, and a text that may be absent.
use Rattle.std.specs.Prelude.{List, [], ◌∷◌, ℕ, Option, Some, None}
use Rattle.text.specs.declared.rules.Either.{Either}
use Rattle.text.specs.declared.rules.Either.TheVariants.{First, Second}

abbrev pub either : {A B : Type 0} → (A → List ℕ) → (B → List ℕ) → Either A B → List ℕ
either f g (First a) = f a
either f g (Second b) = g b

-- - stands where there is none
abbrev pub or_dash : {A : Type 0} → (A → List ℕ) → Option A → List ℕ
or_dash f (Some a) = f a
or_dash f None = 0x2d ∷ []
