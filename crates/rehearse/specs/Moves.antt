-- What is read and printed. The bytes are those of a reader and a writer whose bytes are known; how many were read, that a cut counts fewer than all that was
-- to be printed, and that a call failed or moved nothing, holds of every reader and writer.
use Rattle.std.specs.Prelude.{List, ℕ, Option, IfSome, IsErr, Result, Ok, Err}
use Rattle.std.specs.Io.KnownBytes.{Appends, Keeps}
use Rattle.calls.specs.Calls.{EnoughFor}
use Rattle.calls.specs.Moved.{CutAt, MovedNone, ReadFilled, ReadTo}
use Rattle.calls.specs.declared.Filled.{Filled}
use Rattle.election.specs.Listing.{output}
use Rattle.election.specs.Schedule.{most_bytes}
use Rattle.rehearse.specs.declared.Failure.{Failure}
use Rattle.rehearse.specs.declared.Failure.TheVariants.{NotRead, NotPrinted}

-- where all was read that matters, the rest of what was given, if there is any, changes nothing of what is to be printed
abbrev pub Enough : Type 0
Enough = EnoughFor output most_bytes

-- how the program ended: all was read and printed; a read failed, and nothing was printed; or all was read, and a write failed or took none of what was left
abbrev pub Ended : Result Filled Failure → (before after old new : Option (List ℕ)) → Type 0
Ended (Ok filled) before after old new = (bytes : List ℕ) × ReadFilled most_bytes filled before after bytes × Appends old new (output bytes)
Ended (Err (NotRead cut)) before after old new = IsErr cut.last × ReadTo cut.at before after × Keeps old new
Ended (Err (NotPrinted filled cut)) before after old new =
    MovedNone cut × ((bytes : List ℕ) × ReadFilled most_bytes filled before after bytes × CutAt cut.at (output bytes) (Appends old new))

-- where the whole input is known, what was printed for it: all, nothing, or a front
abbrev pub PrintedFor : Result Filled Failure → (old new : Option (List ℕ)) → List ℕ → Type 0
PrintedFor (Ok filled) old new given = Appends old new (output given)
PrintedFor (Err (NotRead cut)) old new given = Keeps old new
PrintedFor (Err (NotPrinted filled cut)) old new given = CutAt cut.at (output given) (Appends old new)

abbrev pub Known : Result Filled Failure → (before old new : Option (List ℕ)) → Type 0
Known result before old new = IfSome before (PrintedFor result old new)
