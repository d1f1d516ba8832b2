-- A text assembled: the commands of its lines, as bytes, or the first line that is wrong and why.
use Rattle.std.specs.Prelude.{List, [], ◌∷◌, ◌++◌, cond, ℕ, ◌+◌, ltb, eqb, length, get_or, drop, Result, Ok, Err}
use Rattle.lists.specs.Entries.{over}
use Rattle.election.specs.Commands.{Command}
use Rattle.election.specs.Schedule.{most_bytes}
use Rattle.script.specs.Decimals.{numbers}
use Rattle.script.specs.Encoded.{encode_all}
use Rattle.script.specs.Entries.{Entry, entries, entry, chosen}
use Rattle.script.specs.Split.{lines, words, inside, lead}
use Rattle.script.specs.declared.Why.{Why}
use Rattle.script.specs.declared.Why.TheVariants.{UnknownWord, ScheduleLong, BufferShort}
use Rattle.script.specs.declared.WrongLine.{WrongLine}
use Rattle.script.specs.declared.rules.words.Part.TheVariants.{Uncommented}

-- what a line means: its commands, or that it is wrong and why
pub data Meant : Type 0 where
  Commands : List Command → Meant
  Wrong : Why → Meant

-- its commands; none where it is wrong
abbrev pub commands_of : Meant → List Command
commands_of (Commands cs) = cs
commands_of (Wrong why) = []

abbrev pub made : Entry → Result (List ℕ) Why → Meant
made e (Ok xs) = Commands (e.makes (get_or xs 0 0) (get_or xs 1 0) (get_or xs 2 0))
made e (Err why) = Wrong why

-- the words of a line: no words are no command; else the entry that they begin with, and its numbers
unfoldable pub of_words : List (List ℕ) → Meant
of_words [] = Commands []
of_words (w ∷ ws) =
    let k : ℕ = chosen (w ∷ ws) in
    let e : Entry = entry k in
    cond (eqb k entries) (Wrong UnknownWord) (made e (numbers e.numbers e.least e.most (drop (length (words e.name)) (w ∷ ws))))

unfoldable pub of_line : List ℕ → Meant
of_line line = of_words (words (lead (inside Uncommented) line))

-- a schedule's bytes, or the first wrong line and why
pub data Script : Type 0 where
  Schedule : List ℕ → Script
  WrongAt : ℕ → Why → Script

abbrev pub behind : List ℕ → Script → Script
behind bytes (Schedule more) = Schedule (bytes ++ more)
behind bytes (WrongAt k why) = WrongAt k why

-- why bytes behind others can't be taken, if they can't: a schedule has at most 65,536, and the buffer has room for so many
abbrev pub fitting : ℕ → ℕ → ℕ → Script → Script
fitting k room size script = cond (ltb most_bytes size) (WrongAt k ScheduleLong) (cond (ltb room size) (WrongAt k BufferShort) script)

-- the lines from line k on, with so many bytes before them and room for so many in all
unfoldable pub of_lines : ℕ → ℕ → ℕ → List (List ℕ) → Script
of_lines k size room [] = Schedule []
of_lines k size room (l ∷ ls) =
    elim (of_line l) [
      | Wrong why ↦ WrongAt k why
      | Commands cs ↦
          let bytes : List ℕ = encode_all cs in
          fitting k room (size + length bytes) (behind bytes (of_lines (k + 1) (size + length bytes) room ls))
    ]

abbrev pub script : ℕ → List ℕ → Script
script room text = of_lines 1 0 room (lines text)

-- the answer where a line is wrong
abbrev pub wrong_at : ℕ → Why → Result ℕ WrongLine
wrong_at k why = Err (record { line = k; why = why })

-- what assemble leaves: its answer, and the buffer; refused, the buffer is as it was
pub record Left : Type 0 where
  pub answer : Result ℕ WrongLine
  pub buffer : List ℕ

abbrev pub leaving : Script → List ℕ → Left
leaving (Schedule bytes) buffer = record { answer = Ok (length bytes); buffer = over bytes buffer }
leaving (WrongAt k why) buffer = record { answer = wrong_at k why; buffer = buffer }

unfoldable pub assembled : List ℕ → List ℕ → Left
assembled text buffer = leaving (script (length buffer) text) buffer
