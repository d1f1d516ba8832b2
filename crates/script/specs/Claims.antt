-- What is claimed of texts and schedules; the theorems are in proofs/.
use Rattle.std.specs.Prelude.{◌≡◌, List, [], ◌∷◌, ◌++◌, ℕ, ◌+◌, ◌≤◌, length}
use Rattle.station.specs.Limits.{last_tick}
use Rattle.election.specs.Commands.{Command, SetUp, Start, Crash, Link, Run, Lose, Report, Rank, Bytes}
use Rattle.election.specs.Schedule.{most_bytes}
use Rattle.script.specs.Assembled.{commands_of, of_line, Schedule, script}
use Rattle.script.specs.Encoded.{decode_all}
use Rattle.script.specs.Entries.{runs, most_runs}
use Rattle.script.specs.Shown.{Text, shown_text}
use Rattle.script.specs.Split.{lines}

-- assembling what show wrote restores the bytes, for every schedule that it takes
abbrev pub Restores : Type 0
Restores =
    (room : ℕ) (bytes text : List ℕ) → Bytes bytes → shown_text room bytes ≡ Text text
    → (space : ℕ) → length bytes ≤ space → script space text ≡ Schedule bytes

-- and what show wrote is no longer than the buffer, and of no more bytes than a schedule has
abbrev pub TextFits : Type 0
TextFits = (room : ℕ) (bytes text : List ℕ) → shown_text room bytes ≡ Text text → (length text ≤ room) × (length bytes ≤ most_bytes)

-- the commands of lines, in order
unfoldable pub in_order : List (List ℕ) → List Command
in_order [] = []
in_order (l ∷ ls) = commands_of (of_line l) ++ in_order ls

-- the commands of what assemble gives are those of the lines, in order, by the desk's own decode
abbrev pub SameCommands : Type 0
SameCommands = (space : ℕ) (text bytes : List ℕ) → script space text ≡ Schedule bytes → decode_all bytes ≡ in_order (lines text)

-- it gives bytes, and no more than a schedule has and the buffer holds
pub record Small (space : ℕ) (bytes : List ℕ) : Type 0 where
  pub each : Bytes bytes
  pub few : length bytes ≤ most_bytes
  pub room : length bytes ≤ space

abbrev pub GivesBytes : Type 0
GivesBytes = (space : ℕ) (text bytes : List ℕ) → script space text ≡ Schedule bytes → Small space bytes

-- the ticks of a run are those of its commands
unfoldable pub ticks_of : List Command → ℕ
ticks_of [] = 0
ticks_of (SetUp clock n period ∷ cs) = ticks_of cs
ticks_of (Start p ∷ cs) = ticks_of cs
ticks_of (Crash p ∷ cs) = ticks_of cs
ticks_of (Link p q d ∷ cs) = ticks_of cs
ticks_of (Run t ∷ cs) = t + ticks_of cs
ticks_of (Lose p q ∷ cs) = ticks_of cs
ticks_of (Report ∷ cs) = ticks_of cs
ticks_of (Rank p r ∷ cs) = ticks_of cs

abbrev pub AllTicks : Type 0
AllTicks = (t : ℕ) → t ≤ last_tick → ticks_of (runs most_runs t) ≡ t
