-- What is claimed of what desk says; the theorems are in proofs/.
use Rattle.std.specs.Prelude.{◌≡◌, List, ℕ, ◌≤◌, Option, Some, length, take}
use Rattle.calls.specs.Calls.{Whole}
use Rattle.election.specs.Commands.{Bytes as Octets}
use Rattle.desk.specs.Said.{Saying, on_output, Says}
use Rattle.desk.specs.Spoken.{SpaceFor}
use Rattle.desk.specs.declared.asked.Mode.{Mode}
use Rattle.desk.specs.declared.asked.Mode.TheVariants as mode

-- where all was read that matters, the rest of what was given, if there is any, changes nothing of what is said
abbrev pub Enough : Type 0
Enough =
    (m : Mode) (given : List ℕ) (got : Option ℕ) (size room : ℕ) → SpaceFor m room → Whole got size room → (got ≡ Some 0 → length given ≤ size)
    → (s : Saying) → Says m (take size given) s → Says m given s

-- what `desk text` writes of some bytes, `desk bytes` makes these bytes of again
abbrev pub BytesAgain : Type 0
BytesAgain = (bytes said : List ℕ) → Octets bytes → Says mode.Text bytes (on_output said) → Says mode.Bytes said (on_output bytes)
