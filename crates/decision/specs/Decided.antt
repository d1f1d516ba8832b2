-- What is decided of a command, as the definitions have it.
use Rattle.std.specs.Prelude.{◌≡◌, Result, Ok, Err, List, true, false, cond, ℕ, ◌≤◌, ◌<◌, eqb, length, ⊤}
use Rattle.fit.specs.Fit.{within}
use Rattle.lists.specs.First.{first_failed}
use Rattle.station.specs.Limits.{most_rank}
use Rattle.election.specs.Commands.{Command, SetUp, Start, Crash, Link, Run, Lose, Report, Rank, decode, none_started, number_of, operands, tests}
use Rattle.election.specs.System.{station, station_of}
use Rattle.election.specs.declared.Refusal.{Refusal}
use Rattle.election.specs.declared.System.{System}
use Rattle.decision.specs.declared.Command as declared
use Rattle.decision.specs.declared.Command.TheVariants as code
use Rattle.decision.specs.declared.Seen.{Seen}

-- turned down with a number, or taken
pub data Decided : Type 0 where
  Turned : ℕ → Decided
  Taken : Command → Decided

-- by the number of its refusal, 0 for none
abbrev pub decided : ℕ → Command → Decided
decided refusal c = cond (eqb refusal 0) (Taken c) (Turned refusal)

-- the command of the code's
abbrev pub command_of : declared.Command → Command
command_of (code.SetUp clock n period) = SetUp clock n period
command_of (code.Start p) = Start p
command_of (code.Crash p) = Crash p
command_of (code.Link p q d) = Link p q d
command_of (code.Run t) = Run t
command_of (code.Lose p q) = Lose p q
command_of code.Report = Report
command_of (code.Rank p r) = Rank p r

-- what the code's decision says
abbrev pub meaning : Result declared.Command Refusal → Decided
meaning (Ok c) = Taken (command_of c)
meaning (Err why) = Turned (number_of why)

-- the values that are seen are the system's
pub record Values (s : System) (seen : Seen) : Type 0 where
  pub is-ready : s.ready ≡ seen.ready
  pub is-clock : s.clock ≡ seen.clock
  pub is-n : s.n ≡ seen.n
  pub is-tick : s.tick ≡ seen.tick

-- so are the stations, as far as a command looks: at the one that it names, a rank at whether one was ever started, else at none
abbrev pub Looks : System → Seen → Command → Type 0
Looks s seen (Start p) = p ≤ 8 → station s p ≡ station_of seen.stations.now p
Looks s seen (Crash p) = p ≤ 8 → station s p ≡ station_of seen.stations.now p
Looks s seen (Rank p r) = none_started s.stations ≡ none_started seen.stations.now
Looks s seen _ = ⊤

-- what is seen is of the system, as far as the command looks
abbrev pub Sees : System → Seen → Command → Type 0
Sees s seen c = Values s seen × Looks s seen c

-- a decision needs no more than that: of a start or a crash the station that it names; of a rank that no other test turns down whether one was ever started; of
-- any other command none
abbrev pub Needs : System → Seen → Command → Type 0
Needs s seen (Start p) = p ≤ 8 → station s p ≡ station_of seen.stations.now p
Needs s seen (Crash p) = p ≤ 8 → station s p ≡ station_of seen.stations.now p
Needs s seen (Rank p r) =
    s.ready ≡ true → s.clock ≡ false → within 1 p s.n ≡ true → r ≤ most_rank → none_started s.stations ≡ none_started seen.stations.now
Needs s seen _ = ⊤

-- what is seen is of the system, as far as the decision needs it
abbrev pub SeesEnough : System → Seen → Command → Type 0
SeesEnough s seen c = Values s seen × Needs s seen c

-- and of the command of the bytes, if its operands are there
abbrev pub SeesFor : System → Seen → List ℕ → Type 0
SeesFor s seen bytes = Values s seen × (operands (decode bytes) < length bytes → Needs s seen (decode bytes))

-- what is seen is of the system, all of it
abbrev pub SeesAll : System → Seen → Type 0
SeesAll s seen = Values s seen × (s.stations ≡ seen.stations.now)

-- it is not set up, or has at most eight stations
abbrev pub Few : Seen → Type 0
Few seen = seen.ready ≡ true → seen.n ≤ 8

-- what is decided of a command, of every system of which enough is seen
abbrev pub Decides : Seen → Command → Result declared.Command Refusal → Type 0
Decides seen c d = (s : System) → SeesEnough s seen c → Few seen → meaning d ≡ decided (first_failed (tests s c)) c
