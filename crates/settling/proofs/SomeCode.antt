-- Functions that meet the contracts of Command and Schedule: each refusal that bytes can meet has a name.
use mathlib.Core.Path.{◌≡◌, refl, ◌∙◌}
use mathlib.Core.Logic.{◌≢◌}
use mathlib.Core.List.{List}
use mathlib.Core.Bool.{Bool, true, false, cond}
use Prim.Native.Nat.{ℕ, ◌+◌}
use lib.Dec.{eqb, ltb}
use lib.ListN.{length}
use Rattle.std.specs.Prelude.{Result, Ok, Err}
use Rattle.lists.specs.Every.{All}
use Rattle.lists.proofs.Bools.{cond_elim}
use Rattle.election.specs.Commands.{Command, SetUp, Start, Crash, Link, Run, Lose, Report, Rank, decode, operands, tests, refusal, command, number_of, refusal_of, length_of}
use Rattle.settling.specs.OfCode.{Octets, Commanding, CodeExists}
use Rattle.election.specs.Schedule.{End, most_bytes, schedule, refusal_of as refusalIn, offset_of}
use Rattle.election.specs.Sound.{sound}
use Rattle.election.specs.System.{fresh}
use Rattle.election.specs.declared.Refusal.{Refusal}
use Rattle.election.specs.declared.Refusal.TheVariants.{UnknownCommand, MissingOperand, NotSetUp, SetUpTwice, StationsRange, PeriodRange, StationRange, StationUp, StationDown, WornOut, SameStation, NoTicks, PastLastTick, Unsound, ScheduleLong, RankRange, AlreadyStarted, ClockHeads}
use Rattle.election.specs.declared.Scheduled.{Scheduled}
use Rattle.election.specs.declared.Stopped.{Stopped}
use Rattle.election.specs.declared.System.{System}
use Rattle.election.proofs.Follow.{ruling-is, follow-refusal}
use Rattle.election.proofs.NoTwelve.{no_twelve}

-- the refusal with a number
unfoldable named : ℕ → Refusal
named k =
    cond (eqb k 1) UnknownCommand
    (cond (eqb k 2) MissingOperand
    (cond (eqb k 3) NotSetUp
    (cond (eqb k 4) SetUpTwice
    (cond (eqb k 5) StationsRange
    (cond (eqb k 6) PeriodRange
    (cond (eqb k 7) StationRange
    (cond (eqb k 8) StationUp
    (cond (eqb k 9) StationDown
    (cond (eqb k 10) WornOut
    (cond (eqb k 11) SameStation
    (cond (eqb k 13) NoTicks
    (cond (eqb k 14) PastLastTick
    (cond (eqb k 15) Unsound
    (cond (eqb k 21) ScheduleLong
    (cond (eqb k 22) RankRange
    (cond (eqb k 23) AlreadyStarted ClockHeads))))))))))))))))

-- 0, the number of a refusal, or 12
abbrev Known : ℕ → Type 0
Known k = k ≢ 12 → cond (eqb k 0) 0 (number_of (named k)) ≡ k

-- where a test fails, its number is known
abbrev Named : Bool × ℕ → Type 0
Named t = t.0 ≡ false → Known t.1

tests-known : (s : System) (c : Command) → All Named (tests s c)
unfolding named
tests-known s (SetUp clock n period) = (λ f ne. refl, (λ f ne. refl, (λ f ne. refl, tt)))
tests-known s (Start p) = (λ f ne. refl, (λ f ne. refl, (λ f ne. refl, (λ f ne. refl, tt))))
tests-known s (Crash p) = (λ f ne. refl, (λ f ne. refl, (λ f ne. refl, tt)))
tests-known s (Link p q d) = (λ f ne. refl, (λ f ne. refl, (λ f ne. refl, (λ f ne. absurd (ne refl), tt))))
tests-known s (Run t) = (λ f ne. refl, (λ f ne. refl, (λ f ne. refl, tt)))
tests-known s (Lose p q) = (λ f ne. refl, (λ f ne. refl, (λ f ne. refl, tt)))
tests-known s Report = (λ f ne. refl, tt)
tests-known s (Rank p r) = (λ f ne. refl, (λ f ne. refl, (λ f ne. refl, (λ f ne. refl, (λ f ne. refl, tt)))))

command-known : (s : System) (bytes : List ℕ) → Known (command s bytes).refusal
unfolding command refusal named
command-known s bytes =
    cond_elim Known (sound s) {y = 15}
    (λ e. ruling-is Known (λ ne. refl) (λ ne. refl) (λ ne. refl) s bytes (tests-known s (decode bytes)))
    (λ e ne. refl)

schedule-known : (bytes : List ℕ) → Known (schedule bytes).refusal
unfolding schedule named
schedule-known bytes =
    cond_elim (λ (e : End). Known e.refusal) (ltb most_bytes (length bytes)) {x = record { refusal = 21; offset = 0; system = fresh }} (λ t ne. refl)
    (λ t. follow-refusal Known (λ s rest. Unit {0}) (λ ne. refl) (λ s rest m. command-known s rest) (λ s rest m e. tt) (length bytes) fresh 0 bytes tt)

-- the answers that say what is to be said
abbrev answer : ℕ → ℕ → Result ℕ Refusal
answer refusal size = cond (eqb refusal 0) (Ok size) (Err (named refusal))

abbrev stopped : ℕ → Refusal → Stopped
stopped at why = record { at = at; refusal = why }

abbrev ended : ℕ → ℕ → Result ℕ Stopped
ended refusal at = cond (eqb refusal 0) (Ok at) (Err (stopped at (named refusal)))

answer-refusal : (b : Bool) (size : ℕ) (r : Refusal) → refusal_of (cond b (Ok size) (Err r)) ≡ cond b 0 (number_of r)
answer-refusal true size r = refl
answer-refusal false size r = refl

answer-length : (b : Bool) (size : ℕ) (r : Refusal) → length_of (cond b (Ok (cond b size 0)) (Err r)) ≡ cond b size 0
answer-length true size r = refl
answer-length false size r = refl

ended-refusal : (b : Bool) (at : ℕ) (r : Refusal) → refusalIn (cond b (Ok at) (Err (stopped at r))) ≡ cond b 0 (number_of r)
ended-refusal true at r = refl
ended-refusal false at r = refl

ended-offset : (b : Bool) (at : ℕ) (r : Refusal) → offset_of (cond b (Ok at) (Err (stopped at r))) ≡ at
ended-offset true at r = refl
ended-offset false at r = refl

obeys : Commanding
obeys s bytes = (answer (command s bytes).refusal (command s bytes).length, (command s bytes).system)

runs : List ℕ → Scheduled
runs bytes = record { ended = ended (schedule bytes).refusal (schedule bytes).offset; system = (schedule bytes).system }

obeys_length : (s : System) (bytes : List ℕ) → length_of (obeys s bytes).0 ≡ (command s bytes).length
unfolding obeys command
obeys_length s bytes = answer-length (eqb (refusal s bytes) 0) (1 + operands (decode bytes)) (named (refusal s bytes))

obeys_refusal : (s : System) (bytes : List ℕ) → Octets bytes → refusal_of (obeys s bytes).0 ≡ (command s bytes).refusal
unfolding obeys
obeys_refusal s bytes o = answer-refusal (eqb (command s bytes).refusal 0) (command s bytes).length (named (command s bytes).refusal) ∙ command-known s bytes (no_twelve.0 s bytes o.bytes-each)

runs-refusal : (bytes : List ℕ) → Octets bytes → refusalIn (runs bytes).ended ≡ (schedule bytes).refusal
unfolding runs
runs-refusal bytes o = ended-refusal (eqb (schedule bytes).refusal 0) (schedule bytes).offset (named (schedule bytes).refusal) ∙ schedule-known bytes (no_twelve.1 bytes o.bytes-each)

runs-offset : (bytes : List ℕ) → offset_of (runs bytes).ended ≡ (schedule bytes).offset
unfolding runs
runs-offset bytes = ended-offset (eqb (schedule bytes).refusal 0) (schedule bytes).offset (named (schedule bytes).refusal)

pub code-exists : CodeExists
unfolding obeys runs
code-exists =
    ((obeys, λ s bytes r o. rw (obeys_refusal s bytes o, obeys_length s bytes)), (runs, λ bytes o. rw (runs-refusal bytes o, runs-offset bytes)))
