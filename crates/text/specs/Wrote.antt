-- What a writer leaves in the buffer that was lent to it.
use Rattle.std.specs.Prelude.{◌≡◌, List, ℕ, length}
use Rattle.lists.specs.Entries.{over}

-- the list stands at the front of the buffer, whose other bytes are as they were, and `at` is the place after it
pub record Wrote (list old : List ℕ) (at : ℕ) (new : List ℕ) : Type 0 where
  pub count : at ≡ length list
  pub bytes : new ≡ over list old
