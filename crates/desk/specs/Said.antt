-- What is said for what was read, and where: on standard output, or on standard error where nothing is rehearsed, assembled, shown or told.
use Rattle.std.specs.Prelude.{◌≡◌, ◌≢◌, ◌⊎◌, List, ◌++◌, cond, ℕ, ltb, ℤ, pos, length}
use Rattle.election.specs.Schedule.{End, most_bytes, schedule}
use Rattle.printing.specs.Listings.{listings}
use Rattle.figures.specs.Figures.{Figured}
use Rattle.figures.specs.declared.Figures.{Figures}
use Rattle.script.specs.Assembled.{Script, Schedule, WrongAt, script}
use Rattle.script.specs.Shown.{Showing, Text, NoneAt, shown_text}
use Rattle.desk.specs.Figure.{figure}
use Rattle.desk.specs.Wording.{wrong_line, no_text, long_text, ending, complaint}
use Rattle.desk.specs.declared.asked.Mode.{Mode}
use Rattle.desk.specs.declared.asked.Mode.TheVariants as mode

-- the longest text that is read, and the room for the text of a schedule
abbrev pub most_text : ℕ
most_text = 524288

-- a text read: its schedule, or what is wrong with it
pub data Reading : Type 0 where
  Read : List ℕ → Reading
  Unread : List ℕ → Reading

abbrev pub of_script : Script → Reading
of_script (Schedule bytes) = Read bytes
of_script (WrongAt k why) = Unread (wrong_line k why)

unfoldable pub reading : List ℕ → Reading
reading given = cond (ltb most_text (length given)) (Unread long_text) (of_script (script most_bytes given))

-- a text, and the descriptor that it goes to
pub record Saying : Type 0 where
  pub out : ℤ
  pub text : List ℕ

abbrev pub on_output : List ℕ → Saying
on_output said = record { out = pos 1; text = said }

abbrev pub on_error : List ℕ → Saying
on_error said = record { out = pos 2; text = said }

-- a rehearsal: the listings, and how it ended
unfoldable pub rehearsed : List ℕ → List ℕ → List ℕ
rehearsed given bytes =
    let e : End = schedule bytes in
    listings bytes ++ ending e.refusal given e.offset bytes

abbrev pub rehearsing : List ℕ → Reading → Saying
rehearsing given (Read bytes) = on_output (rehearsed given bytes)
rehearsing given (Unread why) = on_error why

-- the bytes of a text, and the text of bytes
abbrev pub assembling : Reading → Saying
assembling (Read bytes) = on_output bytes
assembling (Unread why) = on_error why

abbrev pub showing : Showing → Saying
showing (Text line) = on_output line
showing (NoneAt offset why) = on_error (no_text offset why)

-- a figure, where the schedule is accepted, from the figures of the system that it leaves
abbrev pub Figuring : ℕ → List ℕ → Reading → Saying → Type 0
Figuring d given (Read bytes) s =
    (((schedule bytes).refusal ≢ 0) × (s ≡ on_error (complaint (schedule bytes).refusal given (schedule bytes).offset bytes)))
    ⊎ (((schedule bytes).refusal ≡ 0) × ((f : Figures) × Figured (schedule bytes).system f × (s ≡ on_output (figure d (schedule bytes).system f))))
Figuring d given (Unread why) s = s ≡ on_error why

-- what is said in each mode
abbrev pub Says : Mode → List ℕ → Saying → Type 0
Says mode.Rehearse given s = s ≡ rehearsing given (reading given)
Says mode.Bytes given s = s ≡ assembling (reading given)
Says mode.Text given s = s ≡ showing (shown_text most_text given)
Says (mode.Figure d) given s = Figuring d given (reading given) s
