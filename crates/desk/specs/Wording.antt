-- What desk says in words: a line that is wrong, bytes that have no text, a command that is refused, how a rehearsal ended.
use Rattle.std.specs.Prelude.{List, ◌++◌, cond, ℕ, eqb, drop}
use Rattle.text.specs.Numbers.{named, newline}
use Rattle.text.specs.Quoted.{text}
use Rattle.election.specs.Commands.{decode}
use Rattle.words.specs.Reasons.{refused}
use Rattle.script.specs.Places.{line_holding}
use Rattle.script.specs.Shown.{line_of}
use Rattle.script.specs.declared.NoText.{NoText}
use Rattle.script.specs.declared.NoText.TheVariants as none
use Rattle.script.specs.declared.Why.{Why}
use Rattle.script.specs.declared.Why.TheVariants.{UnknownWord, NumberMissing, TooManyWords, NumberRange, ScheduleLong, BufferShort}

-- why a line is wrong
unfoldable pub wrongness : Why → List ℕ
wrongness UnknownWord = text "unknown word"
wrongness NumberMissing = text "a number is missing"
wrongness TooManyWords = text "too many words"
wrongness NumberRange = text "a number does not fit its place"
wrongness ScheduleLong = text "the schedule has more than 65,536 bytes"
wrongness BufferShort = text "the buffer is shorter than the schedule"

unfoldable pub wrong_line : ℕ → Why → List ℕ
wrong_line k why = named (text "desk: line ") k ++ text ": " ++ wrongness why ++ newline

-- why bytes have no text
unfoldable pub textless : NoText → List ℕ
textless none.NoCommand = text "no command"
textless none.MissingOperand = text "operands are missing"
textless none.NoTicks = text "a run of no ticks, which has no text"
textless none.ScheduleLong = text "more than 65,536 bytes"
textless none.BufferShort = text "the buffer is shorter than the text"

unfoldable pub no_text : ℕ → NoText → List ℕ
no_text offset why = named (text "desk: byte ") offset ++ text ": " ++ textless why ++ newline

-- a text that is too long
unfoldable pub long_text : List ℕ
long_text = text "desk: the text has more than 524,288 bytes\n"

-- a command that is refused: the number, why, the line of the text that holds it, and the command
unfoldable pub held_in : List ℕ → ℕ → List ℕ → List ℕ
held_in given offset bytes = named (text "; line ") (line_holding given offset) ++ text ": " ++ line_of (decode (drop offset bytes))

unfoldable pub refused_in : ℕ → List ℕ → ℕ → List ℕ → List ℕ
refused_in refusal given offset bytes = refused refusal ++ held_in given offset bytes

-- how a rehearsal ended
unfoldable pub ending : ℕ → List ℕ → ℕ → List ℕ → List ℕ
ending refusal given offset bytes = cond (eqb refusal 0) (text "end\n") (refused_in refusal given offset bytes)

-- the same as a complaint
unfoldable pub complaint : ℕ → List ℕ → ℕ → List ℕ → List ℕ
complaint refusal given offset bytes = text "desk: " ++ refused_in refusal given offset bytes
