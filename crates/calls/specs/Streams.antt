-- Where a text goes, and what went there.
use Rattle.std.specs.Prelude.{◌≡◌, List, ℕ, ℤ, pos, Option}
use Rattle.std.specs.Io.KnownBytes.{Appends, Keeps}
use Rattle.calls.specs.declared.streams.Stream.{Stream}
use Rattle.calls.specs.declared.streams.Stream.TheVariants.{Output, Error}

-- its descriptor
abbrev pub descriptor_of : Stream → ℤ
descriptor_of Output = pos 1
descriptor_of Error = pos 2

-- some bytes went to a descriptor, and none to the other: what standard output held before and holds after, and what standard error held and holds
pub record Goes (descriptor : ℤ) (out out' err err' : Option (List ℕ)) (bytes : List ℕ) : Type 0 where
  pub to_output : descriptor ≡ pos 1 → Appends out out' bytes × Keeps err err'
  pub to_error : descriptor ≡ pos 2 → Keeps out out' × Appends err err' bytes
