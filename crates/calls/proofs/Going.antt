-- Laws of what went to standard output and to standard error.
use Rattle.std.proofs.Common.{◌≡◌, List, ℕ, Option, arith}
use Rattle.std.proofs.KnownBytes.{Keeps-refl}
use Rattle.std.specs.Io.KnownBytes.{Appends}
use Rattle.calls.specs.Streams.{descriptor_of, Goes}
use Rattle.calls.specs.declared.streams.Stream.TheVariants.{Output, Error}

pub goes_output : (out out' err : Option (List ℕ)) (bytes : List ℕ) → Appends out out' bytes → Goes (descriptor_of Output) out out' err err bytes
goes_output out out' err bytes a =
    record {
      to_output = λ e. (a, Keeps-refl err);
      to_error = λ e. let z : ◌≡◌ {A = ℕ} 1 2 = cc in absurd (omega arith);
    }

pub goes_error : (out err err' : Option (List ℕ)) (bytes : List ℕ) → Appends err err' bytes → Goes (descriptor_of Error) out out err err' bytes
goes_error out err err' bytes a =
    record {
      to_output = λ e. let z : ◌≡◌ {A = ℕ} 2 1 = cc in absurd (omega arith);
      to_error = λ e. (Keeps-refl out, a);
    }
