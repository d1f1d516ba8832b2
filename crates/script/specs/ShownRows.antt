-- Schedules as text, computed: a line for each command, each refusal with its offset, and what is left in the buffer.
use Rattle.std.specs.Prelude.{◌≡◌, List, [], ◌∷◌, ◌++◌, ℕ, ◌<◌, length, Ok}
use Rattle.text.specs.Quoted.{text}
use Rattle.election.specs.Schedule.{most_bytes}
use Rattle.script.specs.Shown.{Text, NoneAt, shown_text, none_at, shown}
use Rattle.script.specs.declared.NoText.TheVariants.{NoCommand, MissingOperand, NoTicks, ScheduleLong, BufferShort}

-- every command, a link with a delay and one with none, and the longest run
abbrev pub Lines : Type 0
Lines =
    shown_text 128 (9 ∷ 3 ∷ 16 ∷ 1 ∷ 8 ∷ 255 ∷ 2 ∷ 1 ∷ 3 ∷ 10 ∷ 4 ∷ 1 ∷ 2 ∷ 3 ∷ 4 ∷ 2 ∷ 1 ∷ 0 ∷ 5 ∷ 255 ∷ 255 ∷ 6 ∷ 1 ∷ 2 ∷ 7 ∷ 8 ∷ 1 ∷ 7 ∷ [])
    ≡ Text
    (text "set up clocks 3 16\n"
    ++ text "set up 8 255\n"
    ++ text "start 1\n"
    ++ text "crash 10\n"
    ++ text "link 1 2 3\n"
    ++ text "cut 2 1\n"
    ++ text "run 65535\n"
    ++ text "lose 1 2\n"
    ++ text "report\n"
    ++ text "rank 1 7\n")

abbrev pub Empty : Type 0
Empty = shown_text 0 [] ≡ Text []

-- what has no text, behind a report
abbrev pub NoByte : Type 0
NoByte = (shown_text 99 (7 ∷ 0 ∷ []) ≡ NoneAt 1 NoCommand) × (shown_text 99 (7 ∷ 10 ∷ 1 ∷ []) ≡ NoneAt 1 NoCommand)

abbrev pub Missing : Type 0
Missing = (shown_text 99 (7 ∷ 4 ∷ 1 ∷ 2 ∷ []) ≡ NoneAt 1 MissingOperand) × (shown_text 99 (7 ∷ 5 ∷ 0 ∷ []) ≡ NoneAt 1 MissingOperand)

abbrev pub Idle : Type 0
Idle = (shown_text 99 (7 ∷ 5 ∷ 0 ∷ 0 ∷ []) ≡ NoneAt 1 NoTicks) × (shown_text 0 (5 ∷ 0 ∷ 0 ∷ []) ≡ NoneAt 0 NoTicks)

abbrev pub Short : Type 0
Short = (shown_text 13 (7 ∷ 7 ∷ []) ≡ NoneAt 1 BufferShort) × (shown_text 14 (7 ∷ 7 ∷ []) ≡ Text (text "report\nreport\n"))

abbrev pub Long : Type 0
Long = (room : ℕ) (bytes : List ℕ) → most_bytes < length bytes → shown_text room bytes ≡ NoneAt 0 ScheduleLong

-- the text stands at the front of the buffer; refused, the buffer is as it was
abbrev pub Buffers : Type 0
Buffers =
    (shown (7 ∷ []) (1 ∷ 2 ∷ 3 ∷ 4 ∷ 5 ∷ 6 ∷ 7 ∷ 8 ∷ 9 ∷ []) ≡ record { answer = Ok 7; buffer = text "report\n" ++ (8 ∷ 9 ∷ []) })
    × (shown (7 ∷ 0 ∷ []) (1 ∷ 2 ∷ 3 ∷ 4 ∷ 5 ∷ 6 ∷ 7 ∷ 8 ∷ 9 ∷ []) ≡ record { answer = none_at 1 NoCommand; buffer = 1 ∷ 2 ∷ 3 ∷ 4 ∷ 5 ∷ 6 ∷ 7 ∷ 8 ∷ 9 ∷ [] })
