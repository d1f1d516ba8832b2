-- Texts assembled, computed: each entry of the table, blanks and comments, each thing that can be wrong with a line, a buffer that is short, and the line that holds a byte.
use Rattle.std.specs.Prelude.{◌≡◌, List, [], ◌∷◌, ◌++◌, ℕ}
use Rattle.text.specs.Quoted.{text}
use Rattle.script.specs.Assembled.{Schedule, WrongAt, script}
use Rattle.script.specs.Places.{line_holding}
use Rattle.script.specs.declared.Why.{Why}
use Rattle.script.specs.declared.Why.TheVariants.{UnknownWord, NumberMissing, TooManyWords, NumberRange, BufferShort}

-- each entry, the last line without a newline
abbrev pub EachEntry : Type 0
EachEntry =
    script 100 (text "set up 3 16\nset up clocks 4 255\nrank 1 5\nstart 1\ncrash 2\nlink 1 2 3\ncut 2 1\nlose 1 2\nrun 20\nreport")
    ≡ Schedule
    (0x01 ∷ 3 ∷ 16 ∷ 0x09 ∷ 4 ∷ 255 ∷ 0x08 ∷ 1 ∷ 5 ∷ 0x02 ∷ 1 ∷ 0x03 ∷ 2 ∷ 0x04 ∷ 1 ∷ 2 ∷ 3 ∷ 0x04 ∷ 2 ∷ 1 ∷ 0 ∷ 0x06 ∷ 1 ∷ 2 ∷ 0x05 ∷ 20 ∷ 0 ∷ 0x07 ∷ [])

-- blank lines, tabs, carriage returns, comments, a comment without a blank before it, bytes above 127 in a comment, leading zeros
abbrev pub Blanks : Type 0
Blanks =
    script 100
    (text "# kiln 2\r\n\n \t set\tup  003 16\r\nstart 1# first\n  # " ++ (0xc3 ∷ 0xbc ∷ []) ++ text "\nreport # the end")
    ≡ Schedule (0x01 ∷ 3 ∷ 16 ∷ 0x02 ∷ 1 ∷ 0x07 ∷ [])

-- no lines, and lines with no command
abbrev pub Empty : Type 0
Empty = (script 0 [] ≡ Schedule []) × (script 0 (text "\n\n# nothing\n") ≡ Schedule [])

-- a run of more ticks than one command has, and the longest
abbrev pub LongRun : Type 0
LongRun =
    (script 6 (text "run 70000\n") ≡ Schedule (0x05 ∷ 255 ∷ 255 ∷ 0x05 ∷ 113 ∷ 17 ∷ []))
    × (script 48 (text "run 1000000\n")
    ≡ Schedule
    (0x05 ∷ 255 ∷ 255 ∷ 0x05 ∷ 255 ∷ 255 ∷ 0x05 ∷ 255 ∷ 255 ∷ 0x05 ∷ 255 ∷ 255 ∷ 0x05 ∷ 255 ∷ 255 ∷
    0x05 ∷ 255 ∷ 255 ∷ 0x05 ∷ 255 ∷ 255 ∷ 0x05 ∷ 255 ∷ 255 ∷ 0x05 ∷ 255 ∷ 255 ∷ 0x05 ∷ 255 ∷ 255 ∷
    0x05 ∷ 255 ∷ 255 ∷ 0x05 ∷ 255 ∷ 255 ∷ 0x05 ∷ 255 ∷ 255 ∷ 0x05 ∷ 255 ∷ 255 ∷ 0x05 ∷ 255 ∷ 255 ∷
    0x05 ∷ 79 ∷ 66 ∷ []))

-- the second line is wrong
abbrev second : List ℕ → Why → Type 0
second line why = script 100 (text "report\n" ++ line ++ text "\nset\n") ≡ WrongAt 2 why

abbrev pub Wrongs : Type 0
Wrongs =
    second (text "stop 1") UnknownWord
    × second (text "set 3 16") UnknownWord
    × second (text "set up clock 3 16") UnknownWord
    × second (text "Start 1") UnknownWord
    × second (text "link 1 x 300") UnknownWord
    × second (text "start -1") UnknownWord
    × second (0xc3 ∷ []) UnknownWord
    × second (text "start") NumberMissing
    × second (text "set up clocks 3") NumberMissing
    × second (text "link 1 2 # 3") NumberMissing
    × second (text "report now") TooManyWords
    × second (text "cut 1 2 0") TooManyWords
    × second (text "start 256") NumberRange
    × second (text "link 300 x") NumberRange
    × second (text "run 0") NumberRange
    × second (text "run 1000001") NumberRange
    × second (text "run 99999999999999999999999999") NumberRange

-- the line for which there is no room, before a line that is wrong
abbrev pub Short : Type 0
Short = (script 4 (text "start 1\nstart 2\nreport\nstop\n") ≡ WrongAt 3 BufferShort) × (script 5 (text "start 1\nstart 2\nreport\nstop\n") ≡ WrongAt 4 UnknownWord)

-- the line that holds a byte of the schedule: of a command, of a long run; 0 for a byte that there is not
abbrev pub Holding : Type 0
Holding =
    let given : List ℕ = text "# a\nset up 2 16\n\nrun 70000\nreport\n" in
    (line_holding given 0 ≡ 2) × (line_holding given 2 ≡ 2) × (line_holding given 3 ≡ 4) × (line_holding given 8 ≡ 4) × (line_holding given 9 ≡ 5) × (line_holding given 10 ≡ 0)
