-- The words of demand 3, and the claim: nobody who sets link delays can keep the heads divided.
use Rattle.std.specs.Prelude.{◌≡◌, ◌≢◌, List, [], ◌∷◌, ◌++◌, Bool, true, false, cond, not, ◌&&◌, ℕ, zero, suc, ◌+◌, ◌-◌, ◌*◌, ◌/◌, ◌≤◌, take, eqb}
use Rattle.lists.specs.Count.{count_to}
use Rattle.lists.specs.Every.{All}
use Rattle.lists.specs.Largest.{max_to}
use Rattle.station.specs.Order.{entry, before}
use Rattle.election.specs.Commands.{Command, SetUp, Start, Crash, Link, Run, Lose, Report, Rank, decode, command}
use Rattle.election.specs.Listing.{all_trust}
use Rattle.election.specs.History.{accepted, after, commands, starts, is_up_after, rank_of, reached}
use Rattle.election.specs.Schedule.{schedule}
use Rattle.election.specs.System.{fresh, station, delay, underway}
use Rattle.election.specs.Tick.{sending, tick}
use Rattle.election.specs.declared.Message.{Message}
use Rattle.election.specs.declared.System.{System}

-- L is before p by (starts, rank, number), counted from the accepted commands
abbrev pub ahead : List Command → ℕ → ℕ → Bool
ahead cs L p = before (starts L cs) (rank_of 0 L cs) L (starts p cs) (rank_of 0 p cs) p

-- L is the first of the up heads
pub record First (n : ℕ) (cs : List Command) (L : ℕ) : Type 0 where
  pub low : 1 ≤ L
  pub high : L ≤ n
  pub is_up : is_up_after false L cs ≡ true
  pub least : (p : ℕ) → 1 ≤ p → p ≤ n → is_up_after false p cs ≡ true → p ≢ L → ahead cs L p ≡ true

-- the systems before each of t ticks
unfoldable pub moments : ℕ → System → List System
moments zero s = []
moments (suc t) s = s ∷ moments t (tick s)

-- the ticks of an entry of the stretch, if it is accepted: those of a run
abbrev pub ticks_of : Command → System → List System
ticks_of (SetUp clock n period) s = []
ticks_of (Start p) s = []
ticks_of (Crash p) s = []
ticks_of (Link p q d) s = []
ticks_of (Run t) s = moments t s
ticks_of (Lose p q) s = []
ticks_of Report s = []
ticks_of (Rank p r) s = []

-- the systems before each tick of the stretch, in order, each entry from the system that the last one left
unfoldable pub befores : List (List ℕ) → System → List System
befores [] s = []
befores (e ∷ es) s = cond (accepted s e) (ticks_of (decode e) s) [] ++ befores es (after s e)

-- at the end of a tick some up head doesn't trust L
abbrev pub divided : ℕ → System → Bool
divided L s = not (all_trust s.n s.stations L)

-- how many ticks end divided, from the systems before them
unfoldable pub divided_ticks : ℕ → List System → ℕ
divided_ticks L [] = 0
divided_ticks L (s ∷ ss) = cond (divided L (tick s)) 1 0 + divided_ticks L ss

-- an entry of the stretch is refused, or a run, a link setting, a loss or a report. A rank is refused while a head is up (RankRefusedWhileUp
-- of the election's claims), so that none can be accepted in a stretch.
abbrev pub Permitted : Command → Type 0
Permitted (SetUp clock n period) = ⊥
Permitted (Start p) = ⊥
Permitted (Crash p) = ⊥
Permitted (Link p q d) = Unit {0}
Permitted (Run t) = Unit {0}
Permitted (Lose p q) = Unit {0}
Permitted Report = Unit {0}
Permitted (Rank p r) = ⊥

-- a loss between two up heads finds no message
abbrev pub LosesNone : Command → System → Type 0
LosesNone (SetUp clock n period) s = Unit {0}
LosesNone (Start p) s = Unit {0}
LosesNone (Crash p) s = Unit {0}
LosesNone (Link p q d) s = Unit {0}
LosesNone (Run t) s = Unit {0}
LosesNone (Lose p q) s = (station s p).up ≡ true → (station s q).up ≡ true → underway s p q ≡ []
LosesNone Report s = Unit {0}
LosesNone (Rank p r) s = Unit {0}

-- of each entry, where it is accepted
abbrev pub Each : (Command → System → Type 0) → List (List ℕ) → System → Type 0
Each P [] s = Unit {0}
Each P (e ∷ es) s = (accepted s e ≡ true → P (decode e) s) × Each P es (after s e)

-- a message that p sends in the tick after s to another up head q
abbrev pub Sent : (ℕ → Type 0) → System → Type 0
Sent P s =
    (p q : ℕ) → 1 ≤ p → p ≤ s.n → 1 ≤ q → q ≤ s.n → p ≢ q → sending s p ≡ true → (station s q).up ≡ true → P (delay s p q)

-- each message under way to an up head needs at most d more ticks
abbrev pub Arriving : ℕ → System → Type 0
Arriving d s =
    (p q : ℕ) → 1 ≤ p → p ≤ s.n → 1 ≤ q → q ≤ s.n → p ≢ q → (station s q).up ≡ true → All (λ (m : Message). m.due ≤ s.tick + d) (underway s p q)

-- the conditions on a stretch: nothing but runs, links, losses, reports and refusals
abbrev pub Only : List (List ℕ) → System → Type 0
Only es s = Each (λ c x. Permitted c) es s

-- no message between up heads is lost
abbrev pub NoneLost : List (List ℕ) → System → Type 0
NoneLost es s = Each LosesNone es s

-- none that is sent to an up head is cut
abbrev pub NoneCut : List (List ℕ) → System → Type 0
NoneCut es s = All (Sent (λ x. x ≢ 0)) (befores es s)

-- none that is sent to an up head needs more than d ticks
abbrev pub NoneSentLate : ℕ → List (List ℕ) → System → Type 0
NoneSentLate d es s = All (Sent (λ x. x ≤ d)) (befores es s)

-- what demand 3 asks of a stretch: nothing but runs, links, losses, reports and refusals; no message between up heads lost or cut;
-- each message to an up head, under way or sent later, needs at most d more ticks
pub record Quiet (d : ℕ) (es : List (List ℕ)) (s : System) : Type 0 where
  pub permitted : Only es s
  pub none-lost : NoneLost es s
  pub none-cut : NoneCut es s
  pub arriving : Arriving d s
  pub within : NoneSentLate d es s

-- W: the longest start-up wait left
unfoldable pub longest_wait : System → ℕ
longest_wait s = max_to s.n (λ k. cond ((station s (k + 1)).up && (station s (k + 1)).recovering) ((station s (k + 1)).slot - s.tick) 0)

-- M: the longest timeout that an up head holds, for any other station
unfoldable pub longest_timeout : System → ℕ
longest_timeout s =
    max_to s.n
    (λ k. cond (station s (k + 1)).up (max_to s.n (λ i. cond (eqb i k) 0 (entry (station s (k + 1)).timeouts (i + 1)))) 0)

-- k: the number of up heads
unfoldable pub up_heads : System → ℕ
up_heads s = count_to s.n (λ k. (station s (k + 1)).up)

abbrev pub bound : ℕ → System → ℕ
bound d s = longest_wait s + longest_timeout s + 3 * d + s.period + (up_heads s - 1) * (d - 1) * (d - 2) / 2

-- the system that Command answers after a list of entries, each given the one before; and the one that the rules give
unfoldable pub answered : List (List ℕ) → System → System
answered [] s = s
answered (e ∷ es) s = answered es (command s e).system

unfoldable pub given : List (List ℕ) → System → System
given [] s = s
given (e ∷ es) s = given es (after s e)

-- what holds of the stretch from the system s
pub record Settles (d L : ℕ) (es : List (List ℕ)) (s : System) : Type 0 where
  -- the divided ticks, however long the stretch is
  pub few : divided_ticks L (befores es s) ≤ bound d s
  -- at all others no head but L sends
  pub silent : All (λ x. divided L (tick x) ≡ false → (p : ℕ) → 1 ≤ p → p ≤ x.n → sending x p ≡ true → p ≡ L) (befores es s)
  -- after every prefix of the stretch the system that Command answers is the one that the rules give
  pub answers : (k : ℕ) → answered (take k es) s ≡ given (take k es) s

-- Demand 3 of a leader: from the last system of an accepted schedule, which is the one that the rules give for its commands. The bound is for
-- flash heads.
abbrev pub SettlingOf : (ℕ → List Command → ℕ → Type 0) → Type 0
SettlingOf Leads =
    (bytes : List ℕ) (stretch : List (List ℕ)) (d L : ℕ)
    → (schedule bytes).refusal ≡ 0
    → (schedule bytes).system.clock ≡ false
    → Leads (schedule bytes).system.n (commands bytes) L
    → Quiet d stretch (schedule bytes).system
    → Settles d L stretch (schedule bytes).system × ((schedule bytes).system ≡ reached (commands bytes) fresh)

-- Demand 3
abbrev pub Settling : Type 0
Settling = SettlingOf First
