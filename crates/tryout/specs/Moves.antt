-- What is read and written, once the arguments asked for a command. The bytes are those of a reader and writers whose bytes are known; how many were read, that
-- a cut counts fewer than all that was to be said, and that a call failed or moved nothing, holds of every reader and writer.
use Rattle.std.specs.Prelude.{List, ℕ, Option, IfSome, IsErr, Result, Ok, Err}
use Rattle.std.specs.Io.KnownBytes.{Keeps}
use Rattle.calls.specs.Calls.{EnoughFor}
use Rattle.calls.specs.Moved.{CutAt, MovedNone, ReadFilled, ReadTo}
use Rattle.calls.specs.Streams.{Goes}
use Rattle.calls.specs.declared.Filled.{Filled}
use Rattle.election.specs.Schedule.{most_bytes}
use Rattle.tryout.specs.Told.{said, descriptor}
use Rattle.tryout.specs.declared.Failure.{Failure}
use Rattle.tryout.specs.declared.Failure.TheVariants.{NotRead, NotWritten}

-- where all was read that matters, the rest of what was given, if there is any, changes nothing of what is said
abbrev pub Enough : Type 0
Enough = (bytes : List ℕ) → EnoughFor (λ given. said given bytes) most_bytes

-- what went to standard output and to standard error, of what is said for a schedule: all of it, nothing, or a front
abbrev pub SaidFor : Result Filled Failure → List ℕ → (out out' err err' : Option (List ℕ)) → List ℕ → Type 0
SaidFor (Ok filled) bytes out out' err err' given = Goes (descriptor given) out out' err err' (said given bytes)
SaidFor (Err (NotRead cut)) bytes out out' err err' given = Keeps out out' × Keeps err err'
SaidFor (Err (NotWritten filled cut)) bytes out out' err err' given = CutAt cut.at (said given bytes) (Goes (descriptor given) out out' err err')

-- how the program ended: all was read, and all is said; a read failed, and nothing is said; or all was read, and a write failed or took none of what was left
abbrev pub Ended : Result Filled Failure → List ℕ → (before after out out' err err' : Option (List ℕ)) → Type 0
Ended (Ok filled) bytes before after out out' err err' =
    (given : List ℕ) × ReadFilled most_bytes filled before after given × Goes (descriptor given) out out' err err' (said given bytes)
Ended (Err (NotRead cut)) bytes before after out out' err err' = IsErr cut.last × ReadTo cut.at before after × Keeps out out' × Keeps err err'
Ended (Err (NotWritten filled cut)) bytes before after out out' err err' =
    MovedNone cut × ((given : List ℕ) × ReadFilled most_bytes filled before after given × CutAt cut.at (said given bytes) (Goes (descriptor given) out out' err err'))

-- where the whole input is known, what was said for it
abbrev pub Known : Result Filled Failure → List ℕ → (before out out' err err' : Option (List ℕ)) → Type 0
Known result bytes before out out' err err' = IfSome before (SaidFor result bytes out out' err err')
