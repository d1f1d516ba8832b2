-- What it is enough to read of an input: `got` is what the last read answered, how many bytes came or `None` where it failed, `size` how many bytes were read,
-- `room` how many there is room for.
use Rattle.std.specs.Prelude.{◌≡◌, List, ℕ, ◌<◌, ◌≤◌, Option, Some, length, take}

-- all was read that matters: the buffer is full, or the last read found the end of the input
abbrev pub Whole : Option ℕ → ℕ → ℕ → Type 0
Whole got size room = size < room → got ≡ Some 0

-- then the rest of what was given, if there is any, changes nothing of what is made of it
abbrev pub EnoughFor : (List ℕ → List ℕ) → ℕ → Type 0
EnoughFor made most =
    (given : List ℕ) (got : Option ℕ) (size room : ℕ) → most < room → Whole got size room → (got ≡ Some 0 → length given ≤ size)
    → made (take size given) ≡ made given
