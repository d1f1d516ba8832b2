-- How long what is said can be.
use mathlib.Core.Path.{◌≡◌}
use mathlib.Core.List.{List}
use mathlib.Core.Bool.{true}
use Prim.Native.Nat.{ℕ, ◌+◌, ◌≤◌, min}
use native.Mathlib.Omega.{arith}
use lib.Dec.{eqb}
use lib.ListN.{length, length-append, length-take}
use borrow.Author.Tests.{eqb-true}
use Rattle.lists.proofs.Bools.{cond_elim}
use Rattle.text.specs.Quoted.{text}
use Rattle.text.proofs.Digits.{length-decimal}
use Rattle.text.proofs.HexText.{length-spaced}
use Rattle.text.proofs.Room.{either}
use Rattle.election.specs.Commands.{Command, SetUp, Start, Crash, Link, Run, Lose, Report, Rank, decode, operands, command}
use Rattle.election.specs.Schedule.{schedule}
use Rattle.election.specs.Sound.{sound}
use Rattle.election.specs.declared.System.{System}
use Rattle.election.proofs.Followed.{accepted-schedule}
use Rattle.election.proofs.KeepsSound.{keeps_sound}
use Rattle.election.proofs.Soundness.{sound-of}
use Rattle.listing.proofs.Room.{listing-room}
use Rattle.words.proofs.Room.{reason-room, refused-room, doing-room}
use Rattle.tryout.specs.Told.{table, before, after, first, heading, would, answered, command_line, told, because, turned_down, said, longest_said}

table-room : (s : System) → sound s ≡ true → length (table s) ≤ 2700
unfolding text table
table-room s e = cond_elim (λ (l : List ℕ). length l ≤ 2700) s.ready (λ r. listing-room s (sound-of s e r).n-high) (λ r. omega arith)

pub few-operands : (c : Command) → operands c ≤ 3
few-operands (SetUp clock n period) = omega arith
few-operands (Start p) = omega arith
few-operands (Crash p) = omega arith
few-operands (Link p q d) = omega arith
few-operands (Run t) = omega arith
few-operands (Lose p q) = omega arith
few-operands Report = omega arith
few-operands (Rank p r) = omega arith

-- the bytes of a command, as far as they are there
pub first-length : (bytes : List ℕ) → length (first bytes) ≡ min (1 + operands (decode bytes)) (length bytes)
first-length bytes = length-take (1 + operands (decode bytes)) bytes

heading-room : (bytes : List ℕ) → length (heading bytes) ≤ 21
unfolding text heading
heading-room bytes =
    simp length-append
    (omega (arith, length-spaced (first bytes), first-length bytes, few-operands (decode bytes)))

answered-room : (refusal : ℕ) (bytes : List ℕ) → length (answered refusal bytes) ≤ 106
unfolding text answered would
answered-room refusal bytes = either (eqb refusal 0) _ _ 106 (omega (arith, doing-room (decode bytes))) (omega (arith, refused-room refusal))

told-room : (s : System) (bytes : List ℕ) → sound s ≡ true → length (told s bytes) ≤ longest_said
unfolding text told before after command_line
told-room s bytes e =
    simp length-append
    (omega (arith, table-room s e, table-room (command s bytes).system (keeps_sound s bytes e), heading-room bytes, answered-room (command s bytes).refusal bytes))

turned_room : (refusal offset : ℕ) → length (turned_down refusal offset) ≤ longest_said
unfolding text turned_down because
turned_room refusal offset = simp length-append (omega (arith, length-decimal refusal, length-decimal offset, reason-room refusal))

pub said-room : (given bytes : List ℕ) → length (said given bytes) ≤ longest_said
unfolding said
said-room given bytes =
    cond_elim (λ (l : List ℕ). length l ≤ longest_said) (eqb (schedule given).refusal 0)
    (λ e. told-room (schedule given).system bytes (accepted-schedule given (eqb-true _ _ e)).is-sound)
    (λ e. turned_room (schedule given).refusal (schedule given).offset)
