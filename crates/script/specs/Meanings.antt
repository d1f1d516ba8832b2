-- What the code reads of a line, as commands and as bytes.
use Rattle.std.specs.Prelude.{◌≡◌, ◌≢◌, List, [], ◌∷◌, cond, ℕ, ◌<◌, ◌≤◌, eqb, Result, Ok, Err}
use Rattle.station.specs.Limits.{last_tick}
use Rattle.election.specs.Commands.{Command, decode, last_command}
use Rattle.script.specs.Assembled.{Meant, Commands, Wrong, commands_of}
use Rattle.script.specs.Encoded.{encode_all}
use Rattle.script.specs.Entries.{runs, most_runs}
use Rattle.script.specs.Tabled.{run_byte}
use Rattle.script.specs.declared.Why.{Why}
use Rattle.script.specs.declared.rules.lines.Line.{Line}
use Rattle.script.specs.declared.rules.lines.Line.TheVariants as code

-- the commands of a line, and their bytes
abbrev pub commands_in : Line → List Command
commands_in code.Nothing = []
commands_in (code.Command b x y z) = decode (b ∷ x ∷ y ∷ z ∷ []) ∷ []
commands_in (code.Run t) = runs most_runs t

abbrev pub bytes_of : Line → List ℕ
bytes_of line = encode_all (commands_in line)

abbrev pub meaning : Result Line Why → Meant
meaning (Ok line) = Commands (commands_in line)
meaning (Err why) = Wrong why

-- the bytes of its commands; none where it is wrong
abbrev pub line_bytes : Result Line Why → List ℕ
line_bytes line = encode_all (commands_of (meaning line))

-- what the byte of an entry makes of its numbers: of a run many commands, else the one that the desk decodes
abbrev pub made_by : ℕ → ℕ → ℕ → ℕ → Meant
made_by code x y z = Commands (cond (eqb code run_byte) (runs most_runs x) (decode (code ∷ x ∷ y ∷ z ∷ []) ∷ []))

-- numbers that are bytes, unless they are ticks
pub record Suited (code x y z : ℕ) : Type 0 where
  pub known : (1 ≤ code) × (code ≤ last_command)
  pub ticks : x ≤ last_tick
  pub bytes : code ≢ run_byte → (x < 256) × (y < 256) × (z < 256)

-- a command's byte, and the ticks of a run, are in range
abbrev pub ProperLine : Line → Type 0
ProperLine code.Nothing = Unit {0}
ProperLine (code.Command b x y z) = (1 ≤ b) × (b ≤ last_command)
ProperLine (code.Run t) = t ≤ last_tick

abbrev pub Proper : Result Line Why → Type 0
Proper (Ok line) = ProperLine line
Proper (Err why) = Unit {0}

-- the most bytes that a line has
abbrev pub most_line_bytes : ℕ
most_line_bytes = 48

-- what the code reads is what the words mean
pub record Reads (line : Result Line Why) (meant : Meant) : Type 0 where
  pub is : meaning line ≡ meant
  pub proper : Proper line
