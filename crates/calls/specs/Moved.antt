-- Which bytes were taken of a text, or came into a buffer, also where a call failed.
use Rattle.std.specs.Prelude.{◌≡◌, IfOk, List, ℕ, ◌+◌, ◌<◌, ◌≤◌, Option, Some, Result, MatchResult, length, take}
use Rattle.std.specs.Io.KnownBytes.{Consumes, IsAtEnd}
use Rattle.calls.specs.Calls.{Whole}
use Rattle.calls.specs.declared.Cut.{Cut}
use Rattle.calls.specs.declared.Filled.{Filled}

-- the last call failed, or moved nothing
abbrev pub MovedNone : Cut → Type 0
MovedNone cut = IfOk cut.last (λ k. k ≡ 0)

-- so many bytes of a text were taken, which are not all: `Holds` says of bytes that they were taken
abbrev pub CutAt : ℕ → List ℕ → (List ℕ → Type 0) → Type 0
CutAt n text Holds = (n < length text) × Holds (take n text)

-- a front of a text was taken, and not all of it
abbrev pub TakenPart : List ℕ → (List ℕ → Type 0) → Type 0
TakenPart text Holds = (n : ℕ) × (n < length text) × Holds (take n text)

-- all of it on `Ok`, on `Err` the front that the cut counts, which is not all of it
abbrev pub TakenTo : {T : Type 0} → Result T Cut → List ℕ → (List ℕ → Type 0) → Type 0
TakenTo result text Holds = MatchResult result (λ _. Holds text) (λ cut. CutAt cut.at text Holds)

-- some bytes were read: all that there were, or more than the most that matter
pub record Read (most : ℕ) (before after : Option (List ℕ)) (bytes : List ℕ) : Type 0 where
  pub consumed : Consumes before after bytes
  pub to_end : length bytes ≤ most → IsAtEnd after

-- so they were, with room for one more than the most that matter. How many they are, and that the last read found the end where there was room for more, holds of
-- every reader.
pub record ReadFilled (most : ℕ) (filled : Filled) (before after : Option (List ℕ)) (bytes : List ℕ) : Type 0 where
  pub size : length bytes ≡ filled.size
  pub bound : filled.size ≤ most + 1
  pub whole : Whole (Some filled.last) filled.size (most + 1)
  pub consumed : Consumes before after bytes
  pub to_end : length bytes ≤ most → IsAtEnd after

-- some bytes were read before a read failed: so many
abbrev pub ReadTo : ℕ → Option (List ℕ) → Option (List ℕ) → Type 0
ReadTo n before after = (bytes : List ℕ) × (length bytes ≡ n) × Consumes before after bytes
