-- What the code has of what is said: a text that was read, and how far what is said was taken. The bytes that came and went are those of a reader and writers whose
-- bytes are known; how many they are, and what the last call answered, holds of every reader and writer.
use Rattle.std.specs.Prelude.{◌≡◌, List, Bool, true, false, ℕ, ◌<◌, ◌≤◌, Option, Some, IfSome, IfErr, IsErr, Result, Ok, Err, length, take}
use Rattle.std.specs.Io.KnownBytes.{Consumes, IsAtEnd, Keeps}
use Rattle.calls.specs.Calls.{Whole}
use Rattle.calls.specs.Moved.{MovedNone, TakenTo}
use Rattle.calls.specs.Streams.{Goes}
use Rattle.calls.specs.declared.Cut.{Cut}
use Rattle.calls.specs.declared.Filled.{Filled}
use Rattle.election.specs.Schedule.{most_bytes}
use Rattle.desk.specs.Said.{most_text, Reading, Read, Unread, reading, Saying, Says}
use Rattle.desk.specs.declared.Failure.{Failure}
use Rattle.desk.specs.declared.Failure.TheVariants as failure
use Rattle.desk.specs.declared.asked.Mode.{Mode}
use Rattle.desk.specs.declared.asked.Mode.TheVariants as mode

-- a text that was read, its bytes at the front of one buffer, or what is wrong with it at the front of the other
abbrev pub meant : Result ℕ ℕ → List ℕ → List ℕ → Reading
meant (Ok n) bytes line = Read (take n bytes)
meant (Err n) bytes line = Unread (take n line)

abbrev pub Inside : Result ℕ ℕ → List ℕ → List ℕ → Type 0
Inside (Ok n) bytes line = n ≤ length bytes
Inside (Err n) bytes line = n ≤ length line

pub record Prepares (given : List ℕ) (r : Result ℕ ℕ) (bytes line : List ℕ) : Type 0 where
  pub is : meant r bytes line ≡ reading given
  pub inside : Inside r bytes line

-- what a mode says went to its descriptor, in order, and nothing to the other: all of it on `Ok`, on `Err` the front that the cut counts, which is not all of it,
-- and the last write failed or took nothing; the contents of standard output before and after, and of standard error
pub record SpokenTo {T : Type 0} (m : Mode) (given : List ℕ) (result : Result T Cut) (out out' err err' : Option (List ℕ)) : Type 0 where
  pub saying : Saying
  pub says : Says m given saying
  pub taken : TakenTo result saying.text (Goes saying.out out out' err err')
  pub last : IfErr result MovedNone

-- bytes are read, and a text is made of them
abbrev pub is_text : Mode → Bool
is_text mode.Rehearse = false
is_text mode.Bytes = false
is_text mode.Text = true
is_text (mode.Figure d) = false

-- the room to read into: a byte more than matters
abbrev pub SpaceFor : Mode → ℕ → Type 0
SpaceFor mode.Rehearse space = most_text < space
SpaceFor mode.Bytes space = most_text < space
SpaceFor mode.Text space = most_bytes < space
SpaceFor (mode.Figure d) space = most_text < space

-- and the room for what is made of it
abbrev pub SpareFor : Mode → ℕ → Type 0
SpareFor mode.Rehearse spare = spare ≡ most_bytes
SpareFor mode.Bytes spare = spare ≡ most_bytes
SpareFor mode.Text spare = spare ≡ most_text
SpareFor (mode.Figure d) spare = spare ≡ most_bytes

-- all was read that matters: so many bytes came to the front of a buffer, which is full, or the last read found the end of the input
pub record ReadAll (before after : Option (List ℕ)) (space : List ℕ) (filled : Filled) : Type 0 where
  pub inside : filled.size ≤ length space
  pub whole : Whole (Some filled.last) filled.size (length space)
  pub bytes : Consumes before after (take filled.size space)
  pub end : filled.size < length space → IsAtEnd after

-- and what is said for it was said, which is what is said for the whole input
pub record SaidFor {T : Type 0} (m : Mode) (filled : Filled) (result : Result T Cut) (before after : Option (List ℕ)) (space : List ℕ) (out out' err err' : Option (List ℕ)) : Type 0 where
  pub read : ReadAll before after space filled
  pub said : SpokenTo m (take filled.size space) result out out' err err'
  pub known : IfSome before (λ given. SpokenTo m given result out out' err err')

-- how the program ended, once it was asked for something: all was read and said; a read failed, before the buffer was full, and nothing was said; or all was read,
-- and a write failed or took none of what was left
abbrev pub Went : Result Filled Failure → Mode → (before after : Option (List ℕ)) (space : List ℕ) (out out' err err' : Option (List ℕ)) → Type 0
Went (Ok filled) m before after space out out' err err' = SaidFor {T = Unit {0}} m filled (Ok tt) before after space out out' err err'
Went (Err (failure.Read cut)) m before after space out out' err err' =
    IsErr cut.last × (cut.at < length space) × Consumes before after (take cut.at space) × Keeps out out' × Keeps err err'
Went (Err (failure.Write filled cut)) m before after space out out' err err' = SaidFor {T = Unit {0}} m filled (Err cut) before after space out out' err err'
