-- What is claimed of every system and every schedule; the theorems are in proofs/.
use Rattle.std.specs.Prelude.{◌≡◌, ◌≢◌, List, true, false, ℕ, ◌<◌, ◌≤◌, length}
use Rattle.lists.specs.First.{first_failed}
use Rattle.station.specs.Limits.{last_tick}
use Rattle.station.specs.Order.{entry}
use Rattle.election.specs.Commands.{Bytes, Rank, tests, command}
use Rattle.election.specs.Schedule.{schedule}
use Rattle.election.specs.History.{commands, starts, is_up_after, rank_of}
use Rattle.election.specs.Sound.{sound}
use Rattle.election.specs.System.{places, station, fresh}
use Rattle.election.specs.Tick.{underway_after}
use Rattle.election.specs.declared.System.{System}

-- the fresh system is sound
abbrev pub FreshSound : Type 0
FreshSound = sound fresh ≡ true

-- every command keeps soundness, from every sound system
abbrev pub KeepsSound : Type 0
KeepsSound = (s : System) (bytes : List ℕ) → sound s ≡ true → sound (command s bytes).system ≡ true

-- a link never carries more messages than it has places
abbrev pub LinkRoom : Type 0
LinkRoom =
    (s : System) → sound s ≡ true → s.ready ≡ true → s.tick < last_tick
    → (p q : ℕ) → 1 ≤ p → p ≤ s.n → 1 ≤ q → q ≤ s.n → p ≢ q → length (underway_after s p q) ≤ places

-- a refused command changes nothing, and its length is 0
abbrev pub RefusedChangesNothing : Type 0
RefusedChangesNothing =
    (s : System) (bytes : List ℕ) → (command s bytes).refusal ≢ 0 → ((command s bytes).system ≡ s) × ((command s bytes).length ≡ 0)

-- a schedule never meets an unsound system
abbrev pub NeverUnsound : Type 0
NeverUnsound = (bytes : List ℕ) → (schedule bytes).refusal ≢ 15

-- no byte is too long a delay: refusal 12 never occurs
abbrev pub NoTwelve : Type 0
NoTwelve =
    ((s : System) (bytes : List ℕ) → Bytes bytes → (command s bytes).refusal ≢ 12)
    × ((bytes : List ℕ) → Bytes bytes → (schedule bytes).refusal ≢ 12)

-- accepted, a schedule answers its length
abbrev pub AcceptedWhole : Type 0
AcceptedWhole = (bytes : List ℕ) → (schedule bytes).refusal ≡ 0 → (schedule bytes).offset ≡ length bytes

-- refused, it answers the offset of one of its bytes, unless it is too long: then nothing is done
abbrev pub RefusedInside : Type 0
RefusedInside = (bytes : List ℕ) → (schedule bytes).refusal ≢ 0 → (schedule bytes).refusal ≢ 21 → (schedule bytes).offset < length bytes

-- after an accepted schedule of a flash table a head's count is the number of its accepted starts: a worn-out head never looks young
abbrev pub CountsStarts : Type 0
CountsStarts =
    (bytes : List ℕ) → (schedule bytes).refusal ≡ 0 → (schedule bytes).system.clock ≡ false → (p : ℕ) → 1 ≤ p → p ≤ (schedule bytes).system.n
    → (station (schedule bytes).system p).incarnation ≡ starts p (commands bytes)

-- and it is up exactly if the latest accepted of its starts and crashes is a start
abbrev pub UpIsLatest : Type 0
UpIsLatest =
    (bytes : List ℕ) → (schedule bytes).refusal ≡ 0 → (p : ℕ) → 1 ≤ p → p ≤ (schedule bytes).system.n
    → (station (schedule bytes).system p).up ≡ is_up_after false p (commands bytes)

-- and its rank in the table is the latest accepted one, 0 if there is none: nothing but a rank command sets it
abbrev pub RankIsLatest : Type 0
RankIsLatest =
    (bytes : List ℕ) → (schedule bytes).refusal ≡ 0 → (p : ℕ) → 1 ≤ p → p ≤ (schedule bytes).system.n
    → entry (schedule bytes).system.ranks p ≡ rank_of 0 p (commands bytes)

-- a table has one kind of head: no command changes it once it is set up, on every system, sound or not
abbrev pub KindStays : Type 0
KindStays = (s : System) (bytes : List ℕ) → s.ready ≡ true → (command s bytes).system.clock ≡ s.clock

-- counts and ranks of clock heads are zero, and each keeps itself
abbrev pub ClockZeros : Type 0
ClockZeros =
    (s : System) → sound s ≡ true → s.ready ≡ true → s.clock ≡ true → (p : ℕ) → 1 ≤ p → p ≤ s.n
    → ((station s p).incarnation ≡ 0) × ((station s p).stable ≡ p) × (entry s.ranks p ≡ 0)

-- 10 is not given on them, to a command or in a schedule, and no rank is accepted
abbrev pub ClockNeverWorn : Type 0
ClockNeverWorn =
    ((s : System) (bytes : List ℕ) → s.clock ≡ true → (command s bytes).refusal ≢ 10)
    × ((bytes : List ℕ) → (schedule bytes).system.clock ≡ true → (schedule bytes).refusal ≢ 10)

abbrev pub ClockNoRank : Type 0
ClockNoRank = (s : System) → s.clock ≡ true → (p r : ℕ) → first_failed (tests s (Rank p r)) ≢ 0

-- no rank is accepted while a head is up
abbrev pub RankRefusedWhileUp : Type 0
RankRefusedWhileUp =
    (s : System) → sound s ≡ true → s.ready ≡ true → (q : ℕ) → 1 ≤ q → q ≤ s.n → (station s q).up ≡ true
    → (p r : ℕ) → first_failed (tests s (Rank p r)) ≢ 0

-- no command lowers a count, from every sound system that is set up
abbrev pub CountsNeverFall : Type 0
CountsNeverFall =
    (s : System) (bytes : List ℕ) → sound s ≡ true → s.ready ≡ true → (p : ℕ) → 1 ≤ p → p ≤ s.n
    → (station s p).incarnation ≤ (station (command s bytes).system p).incarnation
