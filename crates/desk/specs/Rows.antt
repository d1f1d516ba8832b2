-- What is said, computed: lines that are wrong, bytes that have no text, a figure, and how a rehearsal ended.
use Rattle.std.specs.Prelude.{◌≡◌, true, false, List, ◌++◌, ℕ}
use Rattle.text.specs.Quoted.{text}
use Rattle.election.specs.Rows.{set_up, start}
use Rattle.election.specs.Schedule.{End, schedule}
use Rattle.election.specs.declared.System.{System}
use Rattle.figures.specs.declared.Figures.{Figures}
use Rattle.script.specs.declared.NoText.TheVariants as none
use Rattle.script.specs.declared.Why.TheVariants.{UnknownWord, NumberMissing, TooManyWords, NumberRange, ScheduleLong, BufferShort}
use Rattle.desk.specs.Figure.{figure, figure_of}
use Rattle.desk.specs.Said.{Read, reading}
use Rattle.desk.specs.Wording.{wrong_line, no_text, ending}

abbrev pub WrongLines : Type 0
WrongLines =
    (wrong_line 3 UnknownWord ≡ text "desk: line 3: unknown word\n")
    × (wrong_line 3 NumberMissing ≡ text "desk: line 3: a number is missing\n")
    × (wrong_line 3 TooManyWords ≡ text "desk: line 3: too many words\n")
    × (wrong_line 3 NumberRange ≡ text "desk: line 3: a number does not fit its place\n")
    × (wrong_line 3 ScheduleLong ≡ text "desk: line 3: the schedule has more than 65,536 bytes\n")
    × (wrong_line 3 BufferShort ≡ text "desk: line 3: the buffer is shorter than the schedule\n")

abbrev pub NoTexts : Type 0
NoTexts =
    (no_text 12 none.MissingOperand ≡ text "desk: byte 12: operands are missing\n")
    × (no_text 12 none.NoTicks ≡ text "desk: byte 12: a run of no ticks, which has no text\n")

-- the figures of a system, and what is quoted of them where it is set up and its heads have flash
abbrev pub figures : Figures
figures = record { wait = 4; timeout = 17; period = 16; heads = 2; leader = 2 }

abbrev pub Quoted : Type 0
Quoted =
    figure_of 3 true false figures 47
    ≡ text "W 4, the longest start-up wait left\n"
    ++ text "M 17, the longest timeout\n"
    ++ text "B 16, the period\n"
    ++ text "k 2, the heads that are up\n"
    ++ text "L 2, the first of them by starts, rank and number\n"
    ++ text "bound 47 ticks\n"
    ++ text "As long as no head starts or crashes, no message between heads that are up is lost or cut, and each message to one of them, under way or sent later, takes at most 3 ticks more, at most 47 ticks from here on end with a head that is up not trusting station 2, and in all others no head but station 2 sends.\n"

-- where there is nothing to quote
abbrev pub Unquoted : Type 0
Unquoted =
    (d : ℕ) (s : System) (f : Figures)
    → (s.ready ≡ false → figure d s f ≡ text "nothing is set up\n")
    × (s.ready ≡ true → s.clock ≡ true → figure d s f ≡ text "the heads have a running clock, and the bound is for heads with flash\n")
    × (s.ready ≡ true → s.clock ≡ false → f.heads ≡ 0 → figure d s f ≡ text "no head is up\n")

-- a station that is started twice, the second time in the fourth line
abbrev twice : List ℕ
twice = text "set up 2 16\n" ++ text "\n" ++ text "start 1\n" ++ text "start 1 # again\n"

abbrev pub Refused : Type 0
Refused =
    let bytes : List ℕ = set_up 2 16 ++ start 1 ++ start 1 in
    let e : End = schedule bytes in
    (reading twice ≡ Read bytes) × (ending e.refusal twice e.offset bytes ≡ text "refused 8, the station to start is up; line 4: start 1\n")
