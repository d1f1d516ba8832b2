-- The pieces of a schedule's text, as the code goes through them.
use Rattle.std.specs.Prelude.{◌≡◌, List, [], cond, ℕ, ◌+◌, ltb, length, get_or, take, Result, Ok, Err}
use Rattle.fit.specs.Fit.{within}
use Rattle.election.specs.Commands.{Command, decode, operands, last_command}
use Rattle.script.specs.Entries.{entry}
use Rattle.script.specs.Shown.{entry_of, numbers_of, line_of, is_idle, Showing, Text, NoneAt, showing, none_at}
use Rattle.script.specs.declared.NoText.{NoText}
use Rattle.script.specs.declared.NoText.TheVariants.{NoCommand, MissingOperand, NoTicks, BufferShort}
use Rattle.script.specs.declared.NoTextAt.{NoTextAt}
use Rattle.script.specs.declared.rules.showing.Piece.{Piece}
use Rattle.script.specs.declared.rules.written.Phrase.{Phrase}

-- the entry of a command, and its numbers in front
pub record Phrased (c : Command) (r : Phrase) : Type 0 where
  pub place : r.entry ≡ entry_of c
  pub three : length r.numbers ≡ 3
  pub numbers : take (entry r.entry).numbers r.numbers ≡ numbers_of c

-- room for every line
abbrev pub line_room : ℕ
line_room = 80

-- what is found at one of the commands, with room for so many characters
unfoldable pub found_known : ℕ → List ℕ → Result Piece NoText
found_known left bytes =
    let c : Command = decode bytes in
    cond (ltb (operands c) (length bytes))
    (cond (is_idle c) (Err NoTicks)
    (cond (ltb left (length (line_of c))) (Err BufferShort)
    (Ok (record { width = 1 + operands c; size = length (line_of c) }))))
    (Err MissingOperand)

-- what is found at the front of some bytes
unfoldable pub found : ℕ → List ℕ → Result Piece NoText
found left bytes = cond (within 1 (get_or bytes 0 0) last_command) (found_known left bytes) (Err NoCommand)

-- the text of all the bytes, if they are not too many
abbrev pub whole : ℕ → List ℕ → Showing
whole room bytes = showing (length bytes) 0 0 room bytes

-- the answer for a text, and the text, none where there is none
abbrev pub answer_of : Showing → Result ℕ NoTextAt
answer_of (Text line) = Ok (length line)
answer_of (NoneAt at why) = none_at at why

abbrev pub text_of : Showing → List ℕ
text_of (Text line) = line
text_of (NoneAt at why) = []

abbrev pub HasText : Showing → Type 0
HasText s = s ≡ Text (text_of s)
