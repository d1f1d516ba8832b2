-- What is said for a schedule and a command.
use Rattle.std.specs.Prelude.{List, ◌++◌, cond, ℕ, ◌+◌, eqb, ℤ, pos, take}
use Rattle.text.specs.Hex.{spaced}
use Rattle.text.specs.Numbers.{newline, pair}
use Rattle.text.specs.Quoted.{text}
use Rattle.election.specs.Commands.{Result, decode, operands, command}
use Rattle.election.specs.Listing.{listing}
use Rattle.election.specs.Schedule.{End, schedule}
use Rattle.election.specs.declared.System.{System}
use Rattle.words.specs.Doings.{doing}
use Rattle.words.specs.Reasons.{reason, refused}

-- the listing of a system, or that there is none
abbrev pub no_table : List ℕ
no_table = text "nothing is set up\n"

unfoldable pub table : System → List ℕ
table s = cond s.ready (listing s) no_table

unfoldable pub before : System → List ℕ
before s = text "before:\n" ++ table s

abbrev pub after_word : List ℕ
after_word = text "after:\n"

unfoldable pub after : System → List ℕ
after s = after_word ++ table s

-- the bytes of the command, as far as they are there; where it is none, its first byte
abbrev pub first : List ℕ → List ℕ
first bytes = take (1 + operands (decode bytes)) bytes

unfoldable pub heading : List ℕ → List ℕ
heading bytes = text "command" ++ spaced (first bytes) ++ text ": "

-- what the command would do, or its refusal and why
unfoldable pub would : List ℕ → List ℕ
would bytes = text "would " ++ doing (decode bytes)

unfoldable pub answered : ℕ → List ℕ → List ℕ
answered refusal bytes = cond (eqb refusal 0) (would bytes) (refused refusal)

unfoldable pub command_line : ℕ → List ℕ → List ℕ
command_line refusal bytes = heading bytes ++ answered refusal bytes ++ newline

-- a command tried out: the listing before it, what it would do or why it is refused, the listing after it
unfoldable pub told : System → List ℕ → List ℕ
told s bytes =
    let r : Result = command s bytes in
    before s ++ command_line r.refusal bytes ++ after r.system

-- a schedule that is refused: the number, the offset and why
unfoldable pub because : ℕ → List ℕ
because refusal = text ", " ++ reason refusal ++ newline

unfoldable pub turned_down : ℕ → ℕ → List ℕ
turned_down refusal offset = pair (text "tryout: the schedule is refused: ") refusal (text " at ") offset ++ because refusal

-- all that is said: of a refused schedule, that it is, and nothing is tried out
unfoldable pub said : List ℕ → List ℕ → List ℕ
said given bytes =
    let e : End = schedule given in
    cond (eqb e.refusal 0) (told e.system bytes) (turned_down e.refusal e.offset)

-- where it is said: on standard output, of a refused schedule on standard error
abbrev pub descriptor : List ℕ → ℤ
descriptor given = cond (eqb (schedule given).refusal 0) (pos 1) (pos 2)

-- room that is enough for it
abbrev pub longest_said : ℕ
longest_said = 6000
