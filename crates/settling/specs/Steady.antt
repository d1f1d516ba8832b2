-- The words of Paper 7, and the claim: the bound holds for steady heads, which are up for the whole stretch, while the others start and crash. S is the
-- set of heads that is meant; the ticks of a stretch and what Command answers are told as for demand 3.
use Rattle.std.specs.Prelude.{◌≡◌, ◌≢◌, ◌↔◌, List, [], ◌∷◌, ◌++◌, Bool, true, false, cond, not, ◌&&◌, ℕ, ◌+◌, ◌-◌, ◌*◌, ◌/◌, ◌<◌, ◌≤◌, take, eqb}
use Rattle.lists.specs.Count.{count_to}
use Rattle.lists.specs.Every.{All}
use Rattle.lists.specs.Largest.{max_to}
use Rattle.lists.specs.Test.{all_to}
use Rattle.station.specs.Order.{entry}
use Rattle.election.specs.Commands.{Command, SetUp, Start, Crash, Link, Run, Lose, Report, Rank, decode}
use Rattle.election.specs.History.{accepted, after, commands, starts, is_up_after, reached}
use Rattle.election.specs.Schedule.{schedule}
use Rattle.election.specs.System.{fresh, station, delay, underway}
use Rattle.election.specs.Tick.{sending, tick}
use Rattle.election.specs.declared.Message.{Message}
use Rattle.election.specs.declared.System.{System}
use Rattle.settling.specs.Settling.{ahead, First, befores, divided, Each, Quiet, longest_wait, longest_timeout, up_heads, answered, given, Settles}

-- the accepted commands, with this entry if it is accepted
abbrev pub with_entry : List Command → System → List ℕ → List Command
with_entry cs s e = cs ++ cond (accepted s e) (decode e ∷ []) []

-- P holds of the accepted commands before the first entry of a stretch, and after each entry
abbrev pub Throughout : (List Command → Type 0) → List Command → List (List ℕ) → System → Type 0
Throughout P cs [] s = P cs
Throughout P cs (e ∷ es) s = P cs × Throughout P (with_entry cs s e) es (after s e)

-- whether a head is steady: up for the whole stretch
unfoldable pub is_steady : List Command → List (List ℕ) → System → ℕ → Bool
is_steady cs [] s p = is_up_after false p cs
is_steady cs (e ∷ es) s p = is_up_after false p cs && is_steady (with_entry cs s e) es (after s e) p

-- at one moment: every head of S is up
abbrev pub AllUp : (ℕ → Bool) → ℕ → List Command → Type 0
AllUp S n cs = (p : ℕ) → 1 ≤ p → p ≤ n → S p ≡ true → is_up_after false p cs ≡ true

-- at one moment: every other head that is up has strictly more starts than L
abbrev pub OthersMoreNow : (ℕ → Bool) → ℕ → ℕ → List Command → Type 0
OthersMoreNow S n L cs = (p : ℕ) → 1 ≤ p → p ≤ n → S p ≡ false → is_up_after false p cs ≡ true → starts L cs < starts p cs

-- L is the first of the heads of S, by starts, rank and number
pub record FirstAmong (S : ℕ → Bool) (n : ℕ) (cs : List Command) (L : ℕ) : Type 0 where
  pub low : 1 ≤ L
  pub high : L ≤ n
  pub in_set : S L ≡ true
  pub least : (p : ℕ) → 1 ≤ p → p ≤ n → S p ≡ true → p ≢ L → ahead cs L p ≡ true

-- at the end of a tick some head of S doesn't trust L
abbrev pub divided_among : (ℕ → Bool) → ℕ → System → Bool
divided_among S L s = not (all_to s.n (λ k. cond (S (k + 1)) (eqb (station s (k + 1)).leader L) true))

-- how many ticks end so, from the systems before them
unfoldable pub divided_ticks_among : (ℕ → Bool) → ℕ → List System → ℕ
divided_ticks_among S L [] = 0
divided_ticks_among S L (s ∷ ss) = cond (divided_among S L (tick s)) 1 0 + divided_ticks_among S L ss

-- a loss between two heads of S finds no message
abbrev pub LosesNoneAmong : (ℕ → Bool) → Command → System → Type 0
LosesNoneAmong S (SetUp clock n period) s = Unit {0}
LosesNoneAmong S (Start p) s = Unit {0}
LosesNoneAmong S (Crash p) s = Unit {0}
LosesNoneAmong S (Link p q d) s = Unit {0}
LosesNoneAmong S (Run t) s = Unit {0}
LosesNoneAmong S (Lose p q) s = S p ≡ true → S q ≡ true → underway s p q ≡ []
LosesNoneAmong S Report s = Unit {0}
LosesNoneAmong S (Rank p r) s = Unit {0}

-- a message that one head of S sends to another in the tick after s
abbrev pub SentAmong : (ℕ → Bool) → (ℕ → Type 0) → System → Type 0
SentAmong S P s =
    (p q : ℕ) → 1 ≤ p → p ≤ s.n → 1 ≤ q → q ≤ s.n → p ≢ q → S p ≡ true → S q ≡ true → sending s p ≡ true → P (delay s p q)

-- each message under way to a head of S, from whomever, needs at most d more ticks
abbrev pub ArrivingTo : (ℕ → Bool) → ℕ → System → Type 0
ArrivingTo S d s =
    (p q : ℕ) → 1 ≤ p → p ≤ s.n → 1 ≤ q → q ≤ s.n → p ≢ q → S q ≡ true → All (λ (m : Message). m.due ≤ s.tick + d) (underway s p q)

-- every head of S is steady in the stretch that begins with s, after the accepted commands cs
abbrev pub AllSteady : (ℕ → Bool) → List Command → List (List ℕ) → System → Type 0
AllSteady S cs es s = Throughout (AllUp S s.n) cs es s

-- every other head has strictly more starts than L whenever it is up in it
abbrev pub OthersMore : (ℕ → Bool) → ℕ → List Command → List (List ℕ) → System → Type 0
OthersMore S L cs es s = Throughout (OthersMoreNow S s.n L) cs es s

-- no message between heads of S is lost
abbrev pub NoneLostAmong : (ℕ → Bool) → List (List ℕ) → System → Type 0
NoneLostAmong S es s = Each (LosesNoneAmong S) es s

-- none that one of them sends to another is cut
abbrev pub NoneCutAmong : (ℕ → Bool) → List (List ℕ) → System → Type 0
NoneCutAmong S es s = All (SentAmong S (λ x. x ≢ 0)) (befores es s)

-- none that one of them sends to another needs more than d ticks
abbrev pub NoneLateAmong : (ℕ → Bool) → ℕ → List (List ℕ) → System → Type 0
NoneLateAmong S d es s = All (SentAmong S (λ x. x ≤ d)) (befores es s)

-- what Paper 7 asks of messages: none between heads of S is lost, cut or sent with more than d ticks to go, and each under way to one of them at the
-- beginning needs at most d more ticks
pub record MessagesAmong (S : ℕ → Bool) (d : ℕ) (es : List (List ℕ)) (s : System) : Type 0 where
  pub none-lost : NoneLostAmong S es s
  pub none-cut : NoneCutAmong S es s
  pub arriving : ArrivingTo S d s
  pub within : NoneLateAmong S d es s

-- what it asks of a stretch: every head of S is steady, the others have more starts than L, and the messages are as above
pub record SteadyStretch (S : ℕ → Bool) (d L : ℕ) (cs : List Command) (es : List (List ℕ)) (s : System) : Type 0 where
  pub steady : AllSteady S cs es s
  pub others : OthersMore S L cs es s
  pub messages : MessagesAmong S d es s

-- W: the longest start-up wait left to a head of S
unfoldable pub longest_wait_among : (ℕ → Bool) → System → ℕ
longest_wait_among S s = max_to s.n (λ k. cond (S (k + 1) && (station s (k + 1)).recovering) ((station s (k + 1)).slot - s.tick) 0)

-- M: the longest timeout that a head of S holds, for any other station
unfoldable pub longest_timeout_among : (ℕ → Bool) → System → ℕ
longest_timeout_among S s =
    max_to s.n
    (λ k. cond (S (k + 1)) (max_to s.n (λ i. cond (eqb i k) 0 (entry (station s (k + 1)).timeouts (i + 1)))) 0)

-- k: the number of heads of S
unfoldable pub heads_among : (ℕ → Bool) → ℕ → ℕ
heads_among S n = count_to n (λ k. S (k + 1))

abbrev pub bound_among : (ℕ → Bool) → ℕ → System → ℕ
bound_among S d s = longest_wait_among S s + longest_timeout_among S s + 3 * d + s.period + (heads_among S s.n - 1) * (d - 1) * (d - 2) / 2

-- what holds of the stretch from the system s
pub record SettlesAmong (S : ℕ → Bool) (d L : ℕ) (es : List (List ℕ)) (s : System) : Type 0 where
  -- the ticks at whose end some head of S doesn't trust L, however long the stretch is
  pub few : divided_ticks_among S L (befores es s) ≤ bound_among S d s
  -- at all others no head of S but L sends
  pub silent : All (λ x. divided_among S L (tick x) ≡ false → (p : ℕ) → 1 ≤ p → p ≤ x.n → S p ≡ true → sending x p ≡ true → p ≡ L) (befores es s)
  -- after every prefix of the stretch the system that Command answers is the one that the rules give
  pub answers : (k : ℕ) → answered (take k es) s ≡ given (take k es) s

-- Paper 7, of flash heads, for every set of steady heads with L in it
abbrev pub SteadySettling : Type 0
SteadySettling =
    (bytes : List ℕ) (stretch : List (List ℕ)) (S : ℕ → Bool) (d L : ℕ)
    → (schedule bytes).refusal ≡ 0
    → (schedule bytes).system.clock ≡ false
    → FirstAmong S (schedule bytes).system.n (commands bytes) L
    → SteadyStretch S d L (commands bytes) stretch (schedule bytes).system
    → SettlesAmong S d L stretch (schedule bytes).system × ((schedule bytes).system ≡ reached (commands bytes) fresh)

-- the heads that are steady in a stretch after a schedule
abbrev pub steady_heads : List ℕ → List (List ℕ) → ℕ → Bool
steady_heads bytes stretch = is_steady (commands bytes) stretch (schedule bytes).system

-- so it is for all of them together, as the request has it
abbrev pub AllSteadySettling : Type 0
AllSteadySettling =
    (bytes : List ℕ) (stretch : List (List ℕ)) (d L : ℕ)
    → (schedule bytes).refusal ≡ 0
    → (schedule bytes).system.clock ≡ false
    → FirstAmong (steady_heads bytes stretch) (schedule bytes).system.n (commands bytes) L
    → OthersMore (steady_heads bytes stretch) L (commands bytes) stretch (schedule bytes).system
    → MessagesAmong (steady_heads bytes stretch) d stretch (schedule bytes).system
    → SettlesAmong (steady_heads bytes stretch) d L stretch (schedule bytes).system × ((schedule bytes).system ≡ reached (commands bytes) fresh)

-- the sets in question are those of steady heads
abbrev pub SteadyOnes : Type 0
SteadyOnes =
    (S : ℕ → Bool) (cs : List Command) (es : List (List ℕ)) (s : System)
    → AllSteady S cs es s ↔ ((p : ℕ) → 1 ≤ p → p ≤ s.n → S p ≡ true → is_steady cs es s p ≡ true)

-- the heads that are up after a schedule
abbrev pub up_after : List ℕ → ℕ → Bool
up_after bytes p = is_up_after false p (commands bytes)

-- Demand 3 is the case in which nobody starts or crashes: its conditions give Paper 7's for the heads that are up at the beginning, and what Paper 7 then
-- says of these gives what demand 3 says
pub record DemandOf (bytes : List ℕ) (stretch : List (List ℕ)) (d L : ℕ) : Type 0 where
  pub first : FirstAmong (up_after bytes) (schedule bytes).system.n (commands bytes) L
  pub steady : SteadyStretch (up_after bytes) d L (commands bytes) stretch (schedule bytes).system
  pub settles : SettlesAmong (up_after bytes) d L stretch (schedule bytes).system → Settles d L stretch (schedule bytes).system

abbrev pub DemandFollows : Type 0
DemandFollows =
    (bytes : List ℕ) (stretch : List (List ℕ)) (d L : ℕ)
    → (schedule bytes).refusal ≡ 0
    → (schedule bytes).system.clock ≡ false
    → First (schedule bytes).system.n (commands bytes) L
    → Quiet d stretch (schedule bytes).system
    → DemandOf bytes stretch d L

-- where S says who is up, the words are demand 3's
pub record SameWords (S : ℕ → Bool) (L : ℕ) (s : System) : Type 0 where
  pub of_divided : divided_among S L s ≡ divided L s
  pub of_wait : longest_wait_among S s ≡ longest_wait s
  pub of_timeout : longest_timeout_among S s ≡ longest_timeout s
  pub of_heads : heads_among S s.n ≡ up_heads s

abbrev pub UpHeadsWords : Type 0
UpHeadsWords = (S : ℕ → Bool) (L : ℕ) (s : System) → ((p : ℕ) → 1 ≤ p → p ≤ s.n → S p ≡ (station s p).up) → SameWords S L s
