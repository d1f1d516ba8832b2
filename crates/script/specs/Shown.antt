-- A schedule as text: a line for each command.
use Rattle.std.specs.Prelude.{List, [], ◌∷◌, ◌++◌, Bool, false, cond, ℕ, zero, suc, ◌+◌, ltb, eqb, length, drop, Result, Ok, Err}
use Rattle.lists.specs.Entries.{over}
use Rattle.fit.specs.Fit.{within}
use Rattle.text.specs.Numbers.{named, newline}
use Rattle.text.specs.Quoted.{text}
use Rattle.election.specs.Commands.{Command, SetUp, Start, Crash, Link, Run, Lose, Report, Rank, decode, operands, last_command}
use Rattle.election.specs.Schedule.{most_bytes}
use Rattle.script.specs.Entries.{entry}
use Rattle.script.specs.declared.NoText.{NoText}
use Rattle.script.specs.declared.NoText.TheVariants.{NoCommand, MissingOperand, NoTicks, ScheduleLong, BufferShort}
use Rattle.script.specs.declared.NoTextAt.{NoTextAt}

-- the entry by which a command is written, and the numbers behind its words; a link with delay 0 is cut
unfoldable pub entry_of : Command → ℕ
entry_of (SetUp clock n period) = cond clock 0 1
entry_of (Start p) = 2
entry_of (Crash p) = 3
entry_of (Link p q d) = cond (eqb d 0) 5 4
entry_of (Run t) = 6
entry_of (Lose p q) = 7
entry_of Report = 8
entry_of (Rank p r) = 9

unfoldable pub numbers_of : Command → List ℕ
numbers_of (SetUp clock n period) = n ∷ period ∷ []
numbers_of (Start p) = p ∷ []
numbers_of (Crash p) = p ∷ []
numbers_of (Link p q d) = p ∷ q ∷ cond (eqb d 0) [] (d ∷ [])
numbers_of (Run t) = t ∷ []
numbers_of (Lose p q) = p ∷ q ∷ []
numbers_of Report = []
numbers_of (Rank p r) = p ∷ r ∷ []

-- numbers, a space before each
unfoldable pub spaced : List ℕ → List ℕ
spaced [] = []
spaced (x ∷ xs) = named (text " ") x ++ spaced xs

-- a command as it is written, and its line
unfoldable pub written : Command → List ℕ
written c = (entry (entry_of c)).name ++ spaced (numbers_of c)

unfoldable pub line_of : Command → List ℕ
line_of c = written c ++ newline

-- a run of no ticks, which no text makes
abbrev pub is_idle : Command → Bool
is_idle (SetUp clock n period) = false
is_idle (Start p) = false
is_idle (Crash p) = false
is_idle (Link p q d) = false
is_idle (Run t) = eqb t 0
is_idle (Lose p q) = false
is_idle Report = false
is_idle (Rank p r) = false

-- a text, or the offset of what has none and why
pub data Showing : Type 0 where
  Text : List ℕ → Showing
  NoneAt : ℕ → NoText → Showing

abbrev pub behind : List ℕ → Showing → Showing
behind line (Text more) = Text (line ++ more)
behind line (NoneAt at why) = NoneAt at why

-- the commands of the bytes from an offset on, with so many characters before them and room for so many in all; there are at most `fuel` commands
unfoldable pub showing : ℕ → ℕ → ℕ → ℕ → List ℕ → Showing
showing zero at size room bytes = Text []
showing (suc fuel) at size room [] = Text []
showing (suc fuel) at size room (b ∷ bytes) =
    let c : Command = decode (b ∷ bytes) in
    let line : List ℕ = line_of c in
    let more : Showing = showing fuel (at + (1 + operands c)) (size + length line) room (drop (1 + operands c) (b ∷ bytes)) in
    cond (within 1 b last_command)
    (cond (ltb (operands c) (length (b ∷ bytes)))
    (cond (is_idle c) (NoneAt at NoTicks)
    (cond (ltb room (size + length line)) (NoneAt at BufferShort)
    (behind line more)))
    (NoneAt at MissingOperand))
    (NoneAt at NoCommand)

-- above 65,536 bytes there is none
unfoldable pub shown_text : ℕ → List ℕ → Showing
shown_text room bytes =
    let all : Showing = showing (length bytes) 0 0 room bytes in
    cond (ltb most_bytes (length bytes)) (NoneAt 0 ScheduleLong) all

-- the answer where there is no text
abbrev pub none_at : ℕ → NoText → Result ℕ NoTextAt
none_at at why = Err (record { at = at; why = why })

-- what show leaves: its answer, and the buffer; refused, the buffer is as it was
pub record Left : Type 0 where
  pub answer : Result ℕ NoTextAt
  pub buffer : List ℕ

abbrev pub leaving : Showing → List ℕ → Left
leaving (Text line) buffer = record { answer = Ok (length line); buffer = over line buffer }
leaving (NoneAt at why) buffer = record { answer = none_at at why; buffer = buffer }

unfoldable pub shown : List ℕ → List ℕ → Left
shown bytes buffer = leaving (shown_text (length buffer) bytes) buffer
