-- What is read and printed in a run. The bytes are those of a reader and a writer whose bytes are known; that a read failed, or a write failed or took nothing,
-- holds of every reader and writer.
use Rattle.std.specs.Prelude.{List, ℕ, ◌^◌, ◌≤◌, length, Option, IsErr, Result, Ok, Err}
use Rattle.std.specs.Io.KnownBytes.{Appends, Consumes, IsAtEnd}
use Rattle.calls.specs.Moved.{MovedNone, TakenPart}
use Rattle.frames.specs.Explained.{output}
use Rattle.frames.specs.Line.{begin, printed}
use Rattle.frames.specs.declared.Failure.{Failure}
use Rattle.frames.specs.declared.Failure.TheVariants.{Read, Write, TooLong}

-- how often the program reads at most
abbrev pub most_reads : ℕ
most_reads = 2 ^ 50

-- what the writer took for the text that was read: all that is printed for it, at the end of the input; the lines that ended so far, at a read that failed and
-- after as many reads as the program makes, each of which brought something; less than is printed for it, at a write that failed or took none of what was left.
-- Nothing is said here of how many bytes a cut counts: that of a write counts those of the part that was last to be printed (`tell`), that of a read none.
abbrev pub Written : Result (Unit {0}) Failure → List ℕ → Option (List ℕ) → Option (List ℕ) → Option (List ℕ) → Type 0
Written (Ok done) given left old new = IsAtEnd left × Appends old new (output given)
Written (Err (Read cut)) given left old new = IsErr cut.last × Appends old new (printed (begin 1) given)
Written (Err (Write cut)) given left old new = MovedNone cut × TakenPart (output given) (Appends old new)
Written (Err TooLong) given left old new = (most_reads ≤ length given) × Appends old new (printed (begin 1) given)

-- the text that was taken from the reader, and what the writer took for it
pub record Moves (ran : Result (Unit {0}) Failure) (before left old new : Option (List ℕ)) : Type 0 where
  pub given : List ℕ
  pub read : Consumes before left given
  pub written : Written ran given left old new
