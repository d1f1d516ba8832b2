-- Demand 3 computed: one instance that meets every condition, each no better than it has to be, one with the longest delays, one whose leader
-- is told by its rank, and for each condition one that misses it alone and passes the bound.
use Rattle.std.specs.Prelude.{◌≡◌, List, [], ◌∷◌, ◌++◌, map, true, false, ℕ, ◌+◌, ◌<◌, length, take}
use Rattle.election.specs.Commands.{ruling}
use Rattle.election.specs.Rows.{set_up, set_up_clocks, start, crash, link, run, lose, report, rank, started, at20, started_slow}
use Rattle.election.specs.Schedule.{schedule}
use Rattle.settling.specs.Settling.{First, befores, divided_ticks, Only, NoneLost, NoneCut, NoneSentLate, Arriving, Quiet, up_heads, bound, given}
use Rattle.election.specs.History.{commands, starts, rank_of}
use Rattle.election.specs.System.{station, sent_by, underway}
use Rattle.election.specs.declared.Message.{Message}
use Rattle.election.specs.declared.System.{System}

-- Three stations, η 16. Stations 1 and 2 start, and at tick 20 both trust 1; what 2 sent to 1 at tick 17 is due at 81. Then 3 starts. At
-- tick 33 station 1 sends, with delay 3 to 2 and 3, and crashes. At tick 35 the timer of 2 has ended, and the messages of the dead 1
-- are still under way.
abbrev pub bytes : List ℕ
bytes = set_up 3 16 ++ link 2 1 64 ++ start 1 ++ start 2 ++ run 20 ++ start 3 ++ link 1 2 3 ++ link 1 3 3 ++ run 13 ++ crash 1 ++ run 2

-- The dead 1's message to 3 is lost, and the one to it; then the ways to 1 are cut and slow. At tick 36 station 2 trusts the dead 1 again. At 65 it trusts
-- itself and sends, and from 68 on 3 trusts it too.
abbrev pub stretch : List (List ℕ)
stretch = lose 1 3 ∷ lose 2 1 ∷ link 2 3 3 ∷ link 2 1 0 ∷ link 3 1 64 ∷ report ∷ run 20 ∷ start 2 ∷ lose 2 3 ∷ run 18 ∷ []

abbrev pub d : ℕ
d = 3

-- 2 and 3 are up, with one start each
abbrev pub L : ℕ
L = 2

abbrev pub begin : System
begin = (schedule bytes).system

-- the conditions of demand 3 hold after a schedule: of so many ticks so many are divided, where the bound is so high
pub record Meets (bytes : List ℕ) (stretch : List (List ℕ)) (d L ticks unsettled limit : ℕ) : Type 0 where
  pub accepted : (schedule bytes).refusal ≡ 0
  pub first : First (schedule bytes).system.n (commands bytes) L
  pub quiet : Quiet d stretch (schedule bytes).system
  pub all_ticks : length (befores stretch (schedule bytes).system) ≡ ticks
  pub divided : divided_ticks L (befores stretch (schedule bytes).system) ≡ unsettled
  pub bounded : bound d (schedule bytes).system ≡ limit

-- so it is here: of 38 ticks 32 are divided, where the bound is 46
pub record Instance : Type 0 where
  pub meets : Meets bytes stretch d L 38 32 46
  -- two heads are up
  pub heads : up_heads begin ≡ 2
  pub dead : (station begin 1).up ≡ false
  pub alive : (station begin 2).up ≡ true
  -- one message is under way from the dead 1 to 2, which is up, and one to 3, which the stretch loses
  pub old : length (underway begin 1 2) ≡ 1
  pub lost : length (underway begin 1 3) ≡ 1
  -- one is under way to the dead 1, needs more than d ticks, and is lost too
  pub late : map (λ (m : Message). m.due) (underway begin 2 1) ≡ (begin.tick + 46) ∷ []
  -- 2 and 3 send in the stretch, to the dead 1 at delay 0 and at delay 64
  pub sent : sent_by (given stretch begin) 2 ≡ sent_by begin 2 + 2
  pub sent-slowly : sent_by (given stretch begin) 3 ≡ sent_by begin 3 + 4
  -- the start in the stretch is refused
  pub refused : ruling (given (take 7 stretch) begin) (start 2) ≡ 8

-- Two stations that start at once, with every delay 255: what 1 sends at tick 17 is heard at 272, and from then on both trust 1. Of 290 ticks 271 are
-- divided.
abbrev pub slow_stretch : List (List ℕ)
slow_stretch = run 255 ∷ run 35 ∷ []

abbrev pub SlowLinks : Type 0
SlowLinks = Meets started_slow slow_stretch 255 1 290 271 32946

-- after an accepted schedule some of the conditions hold, and the divided ticks pass the bound
pub record Passes (bytes : List ℕ) (stretch : List (List ℕ)) (d L : ℕ) (Conditions : System → Type 0) : Type 0 where
  pub accepted : (schedule bytes).refusal ≡ 0
  pub conditions : Conditions (schedule bytes).system
  pub passed : bound d (schedule bytes).system < divided_ticks L (befores stretch (schedule bytes).system)

-- L is the first of the up heads
abbrev pub IsFirst : List ℕ → ℕ → System → Type 0
IsFirst bytes L s = First s.n (commands bytes) L

-- a crash of L in the stretch, and all else holds: 38 ticks are divided where the bound is 36
abbrev pub before_crash : List ℕ
before_crash = started ++ run 32

abbrev pub with_crash : List (List ℕ)
with_crash = crash 1 ∷ run 40 ∷ []

abbrev pub CrashOfL : Type 0
CrashOfL = Passes before_crash with_crash 1 1 (λ s. IsFirst before_crash 1 s × NoneLost with_crash s × NoneCut with_crash s × Arriving 1 s × NoneSentLate 1 with_crash s)

-- L's messages to an up head are lost, one after the other: 41 where the bound is 36
abbrev pub with_losses : List (List ℕ)
with_losses = run 13 ∷ lose 1 2 ∷ run 16 ∷ lose 1 2 ∷ run 16 ∷ lose 1 2 ∷ run 10 ∷ []

abbrev pub LostToUp : Type 0
LostToUp = Passes at20 with_losses 1 1 (λ s. IsFirst at20 1 s × Only with_losses s × NoneCut with_losses s × Arriving 1 s × NoneSentLate 1 with_losses s)

-- L's link to an up head is cut: 41 where the bound is 36
abbrev pub with_cut : List (List ℕ)
with_cut = link 1 2 0 ∷ run 55 ∷ []

abbrev pub CutToUp : Type 0
CutToUp = Passes at20 with_cut 1 1 (λ s. IsFirst at20 1 s × Only with_cut s × NoneLost with_cut s × Arriving 1 s × NoneSentLate 1 with_cut s)

-- L's messages to an up head are sent with more than d ticks to go: 41 where the bound is 36
abbrev pub with_delay : List (List ℕ)
with_delay = link 1 2 64 ∷ run 55 ∷ []

abbrev pub SentLate : Type 0
SentLate = Passes at20 with_delay 1 1 (λ s. IsFirst at20 1 s × Only with_delay s × NoneLost with_delay s × NoneCut with_delay s × Arriving 1 s)

-- messages of a dead head are under way to an up one with more than d ticks to go: 41 where the bound is 36
abbrev pub before_late : List ℕ
before_late = set_up 2 16 ++ link 1 2 64 ++ start 1 ++ start 2 ++ run 66 ++ crash 1

abbrev pub after_late : List (List ℕ)
after_late = run 55 ∷ []

abbrev pub LateUnderWay : Type 0
LateUnderWay = Passes before_late after_late 1 2 (λ s. IsFirst before_late 2 s × Only after_late s × NoneLost after_late s × NoneCut after_late s × NoneSentLate 1 after_late s)

-- L is the up head with the lowest number, and not the one with fewest starts, and all else holds: 40 where the bound is 37
abbrev pub before_lowest : List ℕ
before_lowest = at20 ++ crash 1 ++ start 1 ++ run 19

abbrev pub after_lowest : List (List ℕ)
after_lowest = run 40 ∷ []

abbrev pub LowestNumber : Type 0
LowestNumber =
    Passes before_lowest after_lowest 1 1
    (λ s. ((station s 1).up ≡ true) × (starts 2 (commands before_lowest) < starts 1 (commands before_lowest)) × Quiet 1 after_lowest s)

-- Two stations that start at once, 1 with rank 1: L is 2. Up to tick 17 station 1 trusts itself, and from 18 on both trust 2.
abbrev pub before_ranked : List ℕ
before_ranked = set_up 2 16 ++ rank 1 1 ++ start 1 ++ start 2

abbrev pub after_ranked : List (List ℕ)
after_ranked = run 80 ∷ []

abbrev pub Preferred : Type 0
Preferred = Meets before_ranked after_ranked 1 2 80 17 53

-- with 1 for L, which has as many starts, the lower number and the higher rank, and all else holds: all 80 ticks are divided where the bound is 53
abbrev pub RankLeftOut : Type 0
RankLeftOut =
    Passes before_ranked after_ranked 1 1
    (λ s.
    ((station s 1).up ≡ true) × (starts 1 (commands before_ranked) ≡ starts 2 (commands before_ranked))
    × (rank_of 0 2 (commands before_ranked) < rank_of 0 1 (commands before_ranked)) × Quiet 1 after_ranked s)

-- all these tables are of flash heads
abbrev pub OfFlash : List ℕ → Type 0
OfFlash b = (schedule b).system.clock ≡ false

abbrev pub FlashTables : Type 0
FlashTables = OfFlash bytes × OfFlash started_slow × OfFlash before_crash × OfFlash at20 × OfFlash before_late × OfFlash before_lowest × OfFlash before_ranked

-- A table of two clock heads, and all else holds. They start at tick 20, when their clocks read 36; at tick 57 both trust 1, and it crashes. 2 waits 36
-- ticks for it, where M, which counts the timeouts of flash heads, is 0: 35 ticks are divided where the bound is 19.
abbrev pub before_clock : List ℕ
before_clock = set_up_clocks 2 16 ++ run 20 ++ start 1 ++ start 2 ++ run 37 ++ crash 1

abbrev pub after_clock : List (List ℕ)
after_clock = run 40 ∷ []

abbrev pub ClockHeads : Type 0
ClockHeads = Passes before_clock after_clock 1 2 (λ s. IsFirst before_clock 2 s × Quiet 1 after_clock s)
