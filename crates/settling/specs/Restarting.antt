-- Paper 7 computed: an instance in which an unsteady head restarts twice over a cut link and its messages are lost, each condition met no better than it
-- has to be; one with an unsteady head that is up at the beginning; and for each condition that speaks of unsteady heads one that misses it alone and
-- passes the bound.
use Rattle.std.specs.Prelude.{◌≡◌, ◌≢◌, List, [], ◌∷◌, ◌++◌, map, Bool, true, false, ◌||◌, ℕ, ◌+◌, ◌<◌, ◌≤◌, length, take, eqb}
use Rattle.lists.specs.Every.{All}
use Rattle.station.specs.Order.{entry}
use Rattle.election.specs.Commands.{Command, ruling}
use Rattle.election.specs.History.{after, commands, starts, is_up_after}
use Rattle.election.specs.Rows.{set_up, start, crash, link, run, lose}
use Rattle.election.specs.Schedule.{schedule}
use Rattle.election.specs.System.{station, sent_by, underway}
use Rattle.election.specs.declared.Message.{Message}
use Rattle.election.specs.declared.System.{System}
use Rattle.settling.specs.Instance.{before_late}
use Rattle.settling.specs.Settling.{befores, given}
use Rattle.settling.specs.Steady.{with_entry, Throughout, steady_heads, FirstAmong, divided_ticks_among, AllSteady, OthersMore, NoneLostAmong, NoneCutAmong, ArrivingTo, NoneLateAmong, SteadyStretch, bound_among}

-- the conditions of Paper 7 hold after a schedule of flash heads: of so many ticks so many end divided, where the bound is so high
pub record MeetsAmong (S : ℕ → Bool) (bytes : List ℕ) (stretch : List (List ℕ)) (d L ticks unsettled limit : ℕ) : Type 0 where
  pub accepted : (schedule bytes).refusal ≡ 0
  pub flash : (schedule bytes).system.clock ≡ false
  pub first : FirstAmong S (schedule bytes).system.n (commands bytes) L
  pub steady : SteadyStretch S d L (commands bytes) stretch (schedule bytes).system
  pub all_ticks : length (befores stretch (schedule bytes).system) ≡ ticks
  pub divided : divided_ticks_among S L (befores stretch (schedule bytes).system) ≡ unsettled
  pub bounded : bound_among S d (schedule bytes).system ≡ limit

-- the accepted commands after some entries
unfoldable pub with_entries : List Command → List (List ℕ) → System → List Command
with_entries cs [] s = cs
with_entries cs (e ∷ es) s = with_entries (with_entry cs s e) es (after s e)

-- when messages are due
abbrev pub dues : List Message → List ℕ
dues ms = map (λ (m : Message). m.due) ms

-- Three stations, η 16. Stations 1 and 2 start, and at tick 20 both trust 1; what 2 sent to 1 at tick 17 is due at 81. Then 3 starts. At tick 33
-- station 1 sends, with delay 3 to 2 and 3, and crashes.
abbrev pub before_restarts : List ℕ
before_restarts = set_up 3 16 ++ link 2 1 64 ++ start 1 ++ start 2 ++ run 20 ++ start 3 ++ link 1 2 3 ++ link 1 3 3 ++ run 13 ++ crash 1

-- The message of 1 to 3 is lost, and 2's to 1; the links from 1 to 2 and from 3 to 1 are cut, the one from 1 to 3 is slow. 1 starts, sends at tick
-- 51 and crashes at 55; its message to 3 is lost too. It starts again and sends at 74 and 90; 3 hears the first of these at 94. A start of 2, which is
-- up, is refused, and a loss from 2 to 3 finds nothing. 2 trusts 1, by its old message, but for tick 35, until its timer ends at 54; then itself. It sends at 65,
-- and from 68 on 3 trusts it too. 1 trusts itself to the end.
abbrev pub restarts : List (List ℕ)
restarts =
    lose 1 3 ∷ lose 2 1 ∷ link 2 3 3 ∷ link 1 2 0 ∷ link 3 1 0 ∷ link 1 3 20 ∷ start 1 ∷ run 22 ∷ crash 1 ∷ lose 1 3 ∷ start 1 ∷ start 2 ∷ lose 2 3 ∷ run 40 ∷ []

abbrev pub two_and_three : ℕ → Bool
two_and_three p = eqb p 2 || eqb p 3

abbrev pub begin : System
begin = (schedule before_restarts).system

-- of 62 ticks 34 are divided, where the bound is 47
pub record Restarting : Type 0 where
  pub meets : MeetsAmong two_and_three before_restarts restarts 3 2 62 34 47
  -- 2 and 3 are the steady heads
  pub steady : map (steady_heads before_restarts restarts) (1 ∷ 2 ∷ 3 ∷ []) ≡ false ∷ true ∷ true ∷ []
  -- 1 starts twice and then has 2 and 3 starts, where L has one; at the end it is up and trusts itself
  pub of_L : starts 2 (with_entries (commands before_restarts) restarts begin) ≡ 1
  pub first-start : starts 1 (with_entries (commands before_restarts) (take 7 restarts) begin) ≡ 2
  pub second-start : starts 1 (with_entries (commands before_restarts) (take 11 restarts) begin) ≡ 3
  pub up-again : is_up_after false 1 (with_entries (commands before_restarts) restarts begin) ≡ true
  pub apart : (station (given restarts begin) 1).leader ≡ 1
  -- it sends three times in the stretch, to 2 over the cut link and to 3, which hears the second, 20 ticks later; and 3 sends twice, to 1 over the cut link and to 2
  pub sent : sent_by (given restarts begin) 1 ≡ sent_by begin 1 + 6
  pub heard : entry (station (given restarts begin) 3).recovered 1 ≡ 3
  pub sent_to-it : sent_by (given restarts begin) 3 ≡ sent_by begin 3 + 4
  -- the message of the dead 1 to 2 needs d ticks; the one to 3 is lost; 2's to 1 needs more than d and is lost
  pub old : dues (underway begin 1 2) ≡ (begin.tick + 3) ∷ []
  pub lost : dues (underway begin 1 3) ≡ (begin.tick + 3) ∷ []
  pub late : dues (underway begin 2 1) ≡ (begin.tick + 48) ∷ []
  -- the third loss finds the message of tick 51
  pub lost-then : dues (underway (given (take 9 restarts) begin) 1 3) ≡ 71 ∷ []
  pub refused : ruling (given (take 11 restarts) begin) (start 2) ≡ 8

-- Three stations start, 1 for the second time; it is up when the stretch begins, with a longer wait and longer timeouts than 2 and 3. It hears nobody
-- and sends at tick 18. In tick 20 station 3 hears 2; after it 1 crashes.
abbrev pub before_crashing : List ℕ
before_crashing = set_up 3 16 ++ link 2 3 3 ++ link 3 2 3 ++ link 2 1 0 ++ link 3 1 0 ++ start 2 ++ start 3 ++ start 1 ++ crash 1 ++ start 1

abbrev pub crashing : List (List ℕ)
crashing = run 20 ∷ crash 1 ∷ run 20 ∷ []

-- of 40 ticks 19 are divided, where the bound is 60
pub record UpAtFirst : Type 0 where
  pub meets : MeetsAmong two_and_three before_crashing crashing 3 2 40 19 60
  pub steady : map (steady_heads before_crashing crashing) (1 ∷ 2 ∷ 3 ∷ []) ≡ false ∷ true ∷ true ∷ []
  -- the wait of each, and the timeout of 1 for 2, of 2 for 1 and of 3 for 1
  pub waits : map (λ p. (station (schedule before_crashing).system p).slot) (1 ∷ 2 ∷ 3 ∷ []) ≡ 18 ∷ 17 ∷ 17 ∷ []
  pub timeout_of-1 : entry (station (schedule before_crashing).system 1).timeouts 2 ≡ 18
  pub timeouts : map (λ p. entry (station (schedule before_crashing).system p).timeouts 1) (2 ∷ 3 ∷ []) ≡ 17 ∷ 17 ∷ []
  -- 2 hears 1 before it crashes
  pub heard : entry (station (given (take 1 crashing) (schedule before_crashing).system) 2).recovered 1 ≡ 2

-- after an accepted schedule of flash heads L is the first of S, some conditions hold, and the divided ticks pass the bound
pub record PassesAmong (S : ℕ → Bool) (bytes : List ℕ) (stretch : List (List ℕ)) (d L : ℕ) (Conditions : System → Type 0) : Type 0 where
  pub accepted : (schedule bytes).refusal ≡ 0
  pub flash : (schedule bytes).system.clock ≡ false
  pub first : FirstAmong S (schedule bytes).system.n (commands bytes) L
  pub conditions : Conditions (schedule bytes).system
  pub passed : bound_among S d (schedule bytes).system < divided_ticks_among S L (befores stretch (schedule bytes).system)

-- one of two heads is steady
abbrev pub only_two : ℕ → Bool
only_two p = eqb p 2

abbrev pub OnlyTwoSteady : List ℕ → List (List ℕ) → Type 0
OnlyTwoSteady bytes stretch = map (steady_heads bytes stretch) (1 ∷ 2 ∷ []) ≡ false ∷ true ∷ []

-- every other head has as many starts as L, or more, whenever it is up
abbrev pub OthersAsMany : (ℕ → Bool) → ℕ → List Command → List (List ℕ) → System → Type 0
OthersAsMany S L cs es s =
    Throughout (λ ds. (p : ℕ) → 1 ≤ p → p ≤ s.n → S p ≡ false → is_up_after false p ds ≡ true → starts L ds ≤ starts p ds) cs es s

-- 2 is up alone; then 1 starts, and has as many starts as 2, and all else holds: 2 trusts 1 from its first message on. 43 ticks are divided where the
-- bound is 36.
abbrev pub before_equal : List ℕ
before_equal = set_up 2 16 ++ start 2 ++ run 40

abbrev pub with_equal : List (List ℕ)
with_equal = start 1 ∷ run 60 ∷ []

abbrev pub AsManyStarts : Type 0
AsManyStarts =
    OnlyTwoSteady before_equal with_equal
    × PassesAmong only_two before_equal with_equal 1 2
    (λ s.
    AllSteady only_two (commands before_equal) with_equal s × OthersAsMany only_two 2 (commands before_equal) with_equal s × NoneLostAmong only_two with_equal s
    × NoneCutAmong only_two with_equal s × ArrivingTo only_two 1 s × NoneLateAmong only_two 1 with_equal s)

-- each message under way from one head of S to another needs at most d more ticks
abbrev pub ArrivingAmong : (ℕ → Bool) → ℕ → System → Type 0
ArrivingAmong S d s =
    (p q : ℕ) → 1 ≤ p → p ≤ s.n → 1 ≤ q → q ≤ s.n → p ≢ q → S p ≡ true → S q ≡ true → All (λ (m : Message). m.due ≤ s.tick + d) (underway s p q)

-- 1 has crashed at tick 66, and messages that it sent with delay 64 are under way to 2. It starts again over a cut link, with two starts to the one of
-- 2, and all else holds: 2 trusts 1 with each old message. 41 ticks are divided where the bound is 36.
abbrev pub with_old : List (List ℕ)
with_old = link 1 2 0 ∷ start 1 ∷ run 55 ∷ []

abbrev pub LateFromUnsteady : Type 0
LateFromUnsteady =
    OnlyTwoSteady before_late with_old
    × (dues (underway (schedule before_late).system 1 2) ≡ 81 ∷ 97 ∷ 113 ∷ 129 ∷ [])
    × PassesAmong only_two before_late with_old 1 2
    (λ s.
    AllSteady only_two (commands before_late) with_old s × OthersMore only_two 2 (commands before_late) with_old s × NoneLostAmong only_two with_old s
    × NoneCutAmong only_two with_old s × ArrivingAmong only_two 1 s × NoneLateAmong only_two 1 with_old s)
