-- Demand 3 and Paper 7 of the code: of any two functions that meet the contracts of the operations Command and Schedule.
use Rattle.std.specs.Prelude.{◌≡◌, List, [], ◌∷◌, Bool, false, ℕ, ◌^◌, ◌<◌, Result, length, take}
use Rattle.lists.specs.Every.{All}
use Rattle.election.specs.Commands.{Bytes, command, said as saidCommand}
use Rattle.election.specs.Schedule.{schedule, said as saidSchedule}
use Rattle.settling.specs.Settling.{First, Quiet, given, Settles}
use Rattle.settling.specs.Steady.{FirstAmong, SteadyStretch, SettlesAmong}
use Rattle.election.specs.History.{commands, reached}
use Rattle.election.specs.System.{fresh}
use Rattle.election.specs.declared.Refusal.{Refusal}
use Rattle.election.specs.declared.Scheduled.{Scheduled}
use Rattle.election.specs.declared.System.{System}

-- what a slice of bytes can hold
pub record Octets (bytes : List ℕ) : Type 0 where
  pub bytes-each : Bytes bytes
  pub slice : length bytes < 2 ^ 64

-- the fresh system, and what Command leaves of a reachable one
pub data Reachable : System → Type 0 where
  at_first : Reachable fresh
  after-command : {s : System} (bytes : List ℕ) → Reachable s → Octets bytes → Reachable (command s bytes).system

-- what is lent a system and handed bytes: its answer, and the system that it leaves
abbrev pub Commanding : Type 0
Commanding = System → List ℕ → Result ℕ Refusal × System

-- the contract of Command, of reachable systems and bytes
abbrev pub ObeysAs : Commanding → Type 0
ObeysAs f = (s : System) (bytes : List ℕ) → Reachable s → Octets bytes → saidCommand (f s bytes).0 (f s bytes).1 ≡ command s bytes

-- the contract of Schedule
abbrev pub RunsAs : (List ℕ → Scheduled) → Type 0
RunsAs g = (bytes : List ℕ) → Octets bytes → saidSchedule (g bytes) ≡ schedule bytes

-- the system that f leaves after a list of entries, each given the one before
unfoldable pub obeyed : Commanding → List (List ℕ) → System → System
obeyed f [] s = s
obeyed f (e ∷ es) s = obeyed f es (f s e).1

-- from the last system that g answers for an accepted schedule, of flash heads: the heads settle, it is the system that the rules give,
-- and so is the one that f leaves after every prefix of the stretch
abbrev pub SettlingOfCode : Type 0
SettlingOfCode =
    (f : Commanding) (g : List ℕ → Scheduled) → ObeysAs f → RunsAs g
    → (bytes : List ℕ) (stretch : List (List ℕ)) (d L : ℕ) → Octets bytes → All Octets stretch
    → (saidSchedule (g bytes)).refusal ≡ 0
    → (g bytes).system.clock ≡ false
    → First (g bytes).system.n (commands bytes) L
    → Quiet d stretch (g bytes).system
    → Settles d L stretch (g bytes).system
    × ((g bytes).system ≡ reached (commands bytes) fresh)
    × ((k : ℕ) → obeyed f (take k stretch) (g bytes).system ≡ given (take k stretch) (g bytes).system)

-- and the same of the heads of S, while the others start and crash
abbrev pub SteadySettlingOfCode : Type 0
SteadySettlingOfCode =
    (f : Commanding) (g : List ℕ → Scheduled) → ObeysAs f → RunsAs g
    → (bytes : List ℕ) (stretch : List (List ℕ)) (S : ℕ → Bool) (d L : ℕ) → Octets bytes → All Octets stretch
    → (saidSchedule (g bytes)).refusal ≡ 0
    → (g bytes).system.clock ≡ false
    → FirstAmong S (g bytes).system.n (commands bytes) L
    → SteadyStretch S d L (commands bytes) stretch (g bytes).system
    → SettlesAmong S d L stretch (g bytes).system
    × ((g bytes).system ≡ reached (commands bytes) fresh)
    × ((k : ℕ) → obeyed f (take k stretch) (g bytes).system ≡ given (take k stretch) (g bytes).system)

-- there are such functions
abbrev pub CodeExists : Type 0
CodeExists = ((f : Commanding) × ObeysAs f) × ((g : List ℕ → Scheduled) × RunsAs g)
