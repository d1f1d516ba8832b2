-- Commands of one byte, and what is turned down.
use Rattle.std.specs.Prelude as std
use Rattle.std.specs.Prelude.{List, [], ◌∷◌, Bool, true, false, cond, not, ◌&&◌, ℕ, ◌+◌, ◌*◌, ◌<◌, Ok, Err, length, get_or, leb, ltb, eqb}
use Rattle.lists.specs.Every.{All}
use Rattle.lists.specs.First.{first_failed}
use Rattle.lists.specs.Test.{all_to}
use Rattle.fit.specs.Fit.{within, longest_delay}
use Rattle.station.specs.Limits.{last_tick, most_starts, most_rank}
use Rattle.station.specs.Rules.{crashed}
use Rattle.station.specs.declared.Station.{Station}
use Rattle.election.specs.Heads.{starting}
use Rattle.election.specs.Sound.{sound}
use Rattle.election.specs.System.{no_station, station, initial, with_station, with_delay, without_messages, with_rank}
use Rattle.election.specs.Tick.{ticks}
use Rattle.election.specs.declared.Refusal.{Refusal}
use Rattle.election.specs.declared.Refusal.TheVariants.{UnknownCommand, MissingOperand, NotSetUp, SetUpTwice, StationsRange, PeriodRange, StationRange, StationUp, StationDown, WornOut, SameStation, NoTicks, PastLastTick, Unsound, BufferShort, ScheduleLong, RankRange, AlreadyStarted, ClockHeads}
use Rattle.election.specs.declared.System.{System}

-- numbers that are bytes
abbrev pub Bytes : List ℕ → Type 0
Bytes xs = All (λ b. b < 256) xs

-- a command with its operands
pub data Command : Type 0 where
  -- clock heads or not, stations, period
  SetUp : Bool → ℕ → ℕ → Command
  Start Crash : ℕ → Command
  Link : ℕ → ℕ → ℕ → Command
  Run : ℕ → Command
  Lose : ℕ → ℕ → Command
  Report : Command
  Rank : ℕ → ℕ → Command

-- 01 set up, 02 start, 03 crash, 04 link, 05 run (low byte first), 06 lose, 07 report, 08 rank, 09 set up clock heads
unfoldable pub decode : List ℕ → Command
decode bytes =
    let b : ℕ = get_or bytes 0 0 in
    let x : ℕ = get_or bytes 1 0 in
    let y : ℕ = get_or bytes 2 0 in
    let z : ℕ = get_or bytes 3 0 in
    cond (eqb b 1) (SetUp false x y)
    (cond (eqb b 2) (Start x)
    (cond (eqb b 3) (Crash x)
    (cond (eqb b 4) (Link x y z)
    (cond (eqb b 5) (Run (x + 256 * y))
    (cond (eqb b 6) (Lose x y)
    (cond (eqb b 8) (Rank x y)
    (cond (eqb b 9) (SetUp true x y)
    Report)))))))

-- the last of the command bytes
abbrev pub last_command : ℕ
last_command = 9

-- the bytes of its operands
abbrev pub operands : Command → ℕ
operands (SetUp clock n period) = 2
operands (Start p) = 1
operands (Crash p) = 1
operands (Link p q d) = 3
operands (Run t) = 2
operands (Lose p q) = 2
operands Report = 0
operands (Rank p r) = 2

-- no kept start count is above 0: no station was ever started, be it up or down now
abbrev pub none_started : List Station → Bool
none_started stations = all_to 8 (λ k. eqb (get_or stations k no_station).incarnation 0)

-- what turns a command down, in order
abbrev pub tests : System → Command → List (Bool × ℕ)
tests s (SetUp clock n period) = (not s.ready, 4) ∷ (within 2 n 8, 5) ∷ (within 16 period 255, 6) ∷ []
tests s (Start p) =
    (s.ready, 3) ∷ (within 1 p s.n, 7) ∷ (not (station s p).up, 8) ∷ (ltb (station s p).incarnation most_starts, 10) ∷ []
tests s (Crash p) = (s.ready, 3) ∷ (within 1 p s.n, 7) ∷ ((station s p).up, 9) ∷ []
-- (the longest delay is the largest byte, so 12 is for lists of numbers that are no bytes: Claims.antt, NoTwelve)
tests s (Link p q d) =
    (s.ready, 3) ∷ (within 1 p s.n && within 1 q s.n, 7) ∷ (not (eqb p q), 11) ∷ (leb d longest_delay, 12) ∷ []
tests s (Run t) = (s.ready, 3) ∷ (ltb 0 t, 13) ∷ (leb (s.tick + t) last_tick, 14) ∷ []
tests s (Lose p q) = (s.ready, 3) ∷ (within 1 p s.n && within 1 q s.n, 7) ∷ (not (eqb p q), 11) ∷ []
tests s Report = (s.ready, 3) ∷ []
tests s (Rank p r) =
    (s.ready, 3) ∷ (not s.clock, 25) ∷ (within 1 p s.n, 7) ∷ (leb r most_rank, 22) ∷ (none_started s.stations, 23) ∷ []

-- the refusal that the rules give to the first command of the bytes, 0 for none
abbrev pub ruling : System → List ℕ → ℕ
ruling s bytes =
    first_failed
    ((ltb 0 (length bytes), 2)
    ∷ (within 1 (get_or bytes 0 0) last_command, 1)
    ∷ (ltb (operands (decode bytes)) (length bytes), 2)
    ∷ tests s (decode bytes))

-- 15 before all else
unfoldable pub refusal : System → List ℕ → ℕ
refusal s bytes = cond (sound s) (ruling s bytes) 15

-- what an accepted command does
unfoldable pub perform : Command → System → System
perform (SetUp clock n period) s = initial clock n period
perform (Start p) s = with_station p (starting s p (station s p)) s
perform (Crash p) s = with_station p (crashed (station s p)) s
perform (Link p q d) s = with_delay p q d s
perform (Run t) s = ticks t s
perform (Lose p q) s = without_messages p q s
perform Report s = s
perform (Rank p r) s = with_rank p r s

-- what Command answers: the refusal, 0 for none; the length of the command; the system
pub record Result : Type 0 where
  pub refusal : ℕ
  pub length : ℕ
  pub system : System

-- the outcome of a command with its refusal; refused, the system comes back unchanged and the length is 0
abbrev pub outcome : ℕ → Command → System → Result
outcome refusal c s =
    record {
      refusal = refusal;
      length = cond (eqb refusal 0) (1 + operands c) 0;
      system = cond (eqb refusal 0) (perform c s) s;
    }

unfoldable pub command : System → List ℕ → Result
command s bytes = outcome (refusal s bytes) (decode bytes) s

-- the papers' number of a refusal
abbrev pub number_of : Refusal → ℕ
number_of UnknownCommand = 1
number_of MissingOperand = 2
number_of NotSetUp = 3
number_of SetUpTwice = 4
number_of StationsRange = 5
number_of PeriodRange = 6
number_of StationRange = 7
number_of StationUp = 8
number_of StationDown = 9
number_of WornOut = 10
number_of SameStation = 11
number_of NoTicks = 13
number_of PastLastTick = 14
number_of Unsound = 15
number_of BufferShort = 16
number_of ScheduleLong = 21
number_of RankRange = 22
number_of AlreadyStarted = 23
number_of ClockHeads = 25

-- number and length of an answer
abbrev pub refusal_of : std.Result ℕ Refusal → ℕ
refusal_of (Ok size) = 0
refusal_of (Err r) = number_of r

abbrev pub length_of : std.Result ℕ Refusal → ℕ
length_of (Ok size) = size
length_of (Err r) = 0

-- an answer, with the system as it is then
abbrev pub said : std.Result ℕ Refusal → System → Result
said r s = record { refusal = refusal_of r; length = length_of r; system = s }
