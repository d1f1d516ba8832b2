-- What the passes over a text find: the line at a place, how many bytes there are with it, the whole.
use Rattle.std.specs.Prelude.{◌≡◌, List, [], ◌∷◌, cond, ℕ, ◌+◌, ◌<◌, ◌≤◌, ltb, length, drop, Result, Ok, Err}
use Rattle.election.specs.Schedule.{most_bytes}
use Rattle.script.specs.Assembled.{Meant, Commands, Wrong, of_line, Script, Schedule, WrongAt, script, wrong_at}
use Rattle.script.specs.Encoded.{encode_all}
use Rattle.script.specs.Meanings.{Reads}
use Rattle.script.specs.Split.{lines}
use Rattle.script.specs.declared.Why.{Why}
use Rattle.script.specs.declared.Why.TheVariants.{ScheduleLong, BufferShort}
use Rattle.script.specs.declared.WrongLine.{WrongLine}
use Rattle.script.specs.declared.rules.lines.Line.{Line}

-- the line at a place of a text, as it is read, and the place of the next one
pub record LineAt (text : List ℕ) (at : ℕ) (line : Result Line Why) (next : ℕ) : Type 0 where
  pub own : List ℕ
  pub first : lines (drop at text) ≡ own ∷ lines (drop next text)
  pub reads : Reads line (of_line own)
  pub on : at < next
  pub within : next ≤ length text

-- so many bytes, if they fit
abbrev pub fitted : ℕ → ℕ → Result ℕ Why
fitted room all = cond (ltb most_bytes all) (Err ScheduleLong) (cond (ltb room all) (Err BufferShort) (Ok all))

-- how many bytes there are with a line, or what is wrong
abbrev pub stepped : ℕ → ℕ → Meant → Result ℕ Why
stepped room size (Commands cs) = fitted room (size + length (encode_all cs))
stepped room size (Wrong why) = Err why

-- what is answered of a text
abbrev pub measured : Script → Result ℕ WrongLine
measured (Schedule bytes) = Ok (length bytes)
measured (WrongAt k why) = wrong_at k why

-- a text with no wrong line, and its bytes
abbrev pub script_bytes : Script → List ℕ
script_bytes (Schedule bytes) = bytes
script_bytes (WrongAt k why) = []

abbrev pub bytes_in : ℕ → List ℕ → List ℕ
bytes_in room text = script_bytes (script room text)

abbrev pub Accepted : ℕ → List ℕ → Type 0
Accepted room text = script room text ≡ Schedule (bytes_in room text)
