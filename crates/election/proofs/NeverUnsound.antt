-- A schedule never meets an unsound system.
use mathlib.Core.Path.{◌≡◌}
use mathlib.Core.Logic.{◌≢◌}
use mathlib.Core.List.{List}
use mathlib.Core.Bool.{true, false}
use Prim.Native.Nat.{ℕ}
use native.Mathlib.Omega.{arith}
use lib.ListN.{length}
use lib.Dec.{ltb}
use Rattle.lists.specs.Every.{All}
use Rattle.lists.proofs.Bools.{cond_elim}
use Rattle.election.specs.Claims.{NeverUnsound}
use Rattle.election.specs.Commands.{Command, SetUp, Start, Crash, Link, Run, Lose, Report, Rank, decode, tests, refusal, command}
use Rattle.election.specs.Schedule.{End, most_bytes, schedule}
use Rattle.election.specs.Sound.{sound}
use Rattle.election.specs.System.{fresh}
use Rattle.election.specs.declared.System.{System}
use Rattle.election.proofs.Follow.{ruling-is, follow-refusal}
use Rattle.election.proofs.InitialSound.{fresh-sound}
use Rattle.election.proofs.KeepsSound.{keeps_sound}

-- the tests of a command have other numbers
tests-other : (s : System) (c : Command) → All (λ t. t.0 ≡ false → t.1 ≢ 15) (tests s c)
tests-other s (SetUp clock n period) = omega arith
tests-other s (Start p) = omega arith
tests-other s (Crash p) = omega arith
tests-other s (Link p q d) = omega arith
tests-other s (Run t) = omega arith
tests-other s (Lose p q) = omega arith
tests-other s Report = omega arith
tests-other s (Rank p r) = omega arith

-- a sound system turns a command down for another reason
sound-other : (s : System) (bytes : List ℕ) → sound s ≡ true → (command s bytes).refusal ≢ 15
unfolding command refusal
sound-other s bytes e =
    rw e (ruling-is (λ k. k ≢ 15) (omega arith) (omega arith) (omega arith) s bytes (tests-other s (decode bytes)))

pub never_unsound : NeverUnsound
unfolding schedule
never_unsound bytes =
    cond_elim (λ (x : End). x.refusal ≢ 15) (ltb most_bytes (length bytes)) (λ t. omega arith)
    (λ t. follow-refusal (λ k. k ≢ 15) (λ s rest. sound s ≡ true) (omega arith) sound-other (λ s rest e t. keeps_sound s rest e) (length bytes) fresh 0 bytes fresh-sound)
