-- No byte is too long a delay: refusal 12 never occurs.
use mathlib.Core.Path.{◌≡◌, sym, ◌∙◌}
use mathlib.Core.Logic.{◌≢◌}
use mathlib.Core.List.{List}
use mathlib.Core.Bool.{false, true≢false}
use Prim.Native.Nat.{ℕ, ◌<◌, ◌≤◌}
use native.Mathlib.Omega.{arith}
use lib.ListN.{length, get_or}
use lib.Dec.{ltb, eqb}
use borrow.Author.Tests.{le-leb}
use Rattle.lists.specs.Every.{All}
use Rattle.lists.proofs.Bools.{cond_elim}
use Rattle.lists.proofs.Every.{all_drop, all_get}
use Rattle.fit.specs.Fit.{longest_delay}
use Rattle.election.specs.Claims.{NoTwelve}
use Rattle.election.specs.Commands.{Command, SetUp, Start, Crash, Link, Run, Lose, Report, Rank, Bytes, decode, tests, refusal, command}
use Rattle.election.specs.Schedule.{End, most_bytes, schedule}
use Rattle.election.specs.Sound.{sound}
use Rattle.election.specs.System.{fresh}
use Rattle.election.specs.declared.System.{System}
use Rattle.election.proofs.Follow.{ruling-is, follow-refusal}

-- the delay of a link setting is not too long
abbrev Short : Command → Type 0
Short (SetUp clock n period) = Unit {0}
Short (Start p) = Unit {0}
Short (Crash p) = Unit {0}
Short (Link p q d) = d ≤ longest_delay
Short (Run t) = Unit {0}
Short (Lose p q) = Unit {0}
Short Report = Unit {0}
Short (Rank p r) = Unit {0}

short : (bytes : List ℕ) → Bytes bytes → Short (decode bytes)
unfolding decode
short bytes all =
    let b : ℕ = get_or bytes 0 0 in
    let byte = all_get (λ b. b < 256) bytes 3 0 (omega arith) all in
    cond_elim Short (eqb b 1) (λ e. tt)
    (λ e. cond_elim Short (eqb b 2) (λ e. tt)
    (λ e. cond_elim Short (eqb b 3) (λ e. tt)
    (λ e. cond_elim Short (eqb b 4) (λ e. omega (arith, byte))
    (λ e. cond_elim Short (eqb b 5) (λ e. tt)
    (λ e. cond_elim Short (eqb b 6) (λ e. tt)
    (λ e. cond_elim Short (eqb b 8) (λ e. tt)
    (λ e. cond_elim Short (eqb b 9) (λ e. tt) (λ e. tt))))))))

tests-other : (s : System) (c : Command) → Short c → All (λ t. t.0 ≡ false → t.1 ≢ 12) (tests s c)
tests-other s (SetUp clock n period) h = omega arith
tests-other s (Start p) h = omega arith
tests-other s (Crash p) h = omega arith
tests-other s (Link p q d) h = (λ e. omega arith, (λ e. omega arith, (λ e. omega arith, (λ e. absurd (true≢false (sym (le-leb d longest_delay h) ∙ e)), tt))))
tests-other s (Run t) h = omega arith
tests-other s (Lose p q) h = omega arith
tests-other s Report h = omega arith
tests-other s (Rank p r) h = omega arith

command-other : (s : System) (bytes : List ℕ) → Bytes bytes → (command s bytes).refusal ≢ 12
unfolding command refusal
command-other s bytes all =
    cond_elim (λ (k : ℕ). k ≢ 12) (sound s)
    (λ e. ruling-is (λ k. k ≢ 12) (omega arith) (omega arith) (omega arith) s bytes (tests-other s (decode bytes) (short bytes all)))
    (λ e. omega arith)

schedule-other : (bytes : List ℕ) → Bytes bytes → (schedule bytes).refusal ≢ 12
unfolding schedule
schedule-other bytes all =
    cond_elim (λ (x : End). x.refusal ≢ 12) (ltb most_bytes (length bytes)) (λ t. omega arith)
    (λ t. follow-refusal (λ k. k ≢ 12) (λ s rest. Bytes rest) (omega arith) command-other (λ s rest h e. all_drop (λ b. b < 256) (command s rest).length rest h) (length bytes) fresh 0 bytes all)

pub no_twelve : NoTwelve
no_twelve = (command-other, schedule-other)
