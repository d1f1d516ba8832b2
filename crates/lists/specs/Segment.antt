-- Stretches of the same width in a list, one after the other: what an array holds that stands for a table of small arrays.
use Rattle.std.specs.Prelude.{List, ℕ, ◌+◌, ◌*◌, get_or}
use Rattle.lists.specs.Entries.{up_to}

module _ {A : Type 0} where
  -- stretch k, of w entries; what lies past the end is d
  unfoldable pub segment : ℕ → A → List A → ℕ → List A
  segment w d l k = up_to w (λ i. get_or l (w * k + i) d)
