-- The conditions of Paper 7 as tests, so that they can be computed for a given schedule, stretch and set of heads.
use mathlib.Core.Path.{◌≡◌, refl, ap, ◌∙◌}
use mathlib.Core.Logic.{◌≢◌}
use mathlib.Core.List.{List}
use mathlib.Core.Bool.{Bool, true, false, not, ◌&&◌}
use Prim.Native.Nat.{ℕ, ◌+◌, ◌<◌, ◌≤◌}
use native.Mathlib.Omega.{arith}
use lib.Dec.{leb, ltb, eqb}
use lib.ListN.{length}
use borrow.Author.Tests.{leb-true, ltb-true, eqb-false, eq-eqb, not-true}
use Rattle.lists.proofs.Bools.{four}
use Rattle.election.specs.Commands.{Command, SetUp, Start, Crash, Link, Run, Lose, Report, Rank}
use Rattle.election.specs.History.{commands, starts, is_up_after}
use Rattle.election.specs.Schedule.{End, most_bytes, schedule}
use Rattle.election.specs.System.{delay, underway}
use Rattle.election.specs.Tick.{sending}
use Rattle.election.specs.declared.System.{System}
use Rattle.election.proofs.Ruled.{by_rules}
use Rattle.election.proofs.Tables.{schedule-ruled}
use Rattle.settling.specs.Settling.{ahead, befores}
use Rattle.settling.specs.Steady.{AllUp, OthersMoreNow, FirstAmong, divided_ticks_among, LosesNoneAmong, SentAmong, ArrivingTo, AllSteady, OthersMore, NoneLostAmong, NoneCutAmong, NoneLateAmong, bound_among}
use Rattle.settling.proofs.Tests.{every, every_all, empty_of, implies, implied, pairs, pairs_at, heads, heads-at, each_test, each_of, throughout_test, throughout_of}

module _ (S : ℕ → Bool) where
  -- every head of S is up; every other one that is up has more starts than L; L is the first of S
  unfoldable pub all_up_test : ℕ → List Command → Bool
  all_up_test n cs = heads n (λ p. implies (S p) (is_up_after false p cs))

  all_up_of : (n : ℕ) (cs : List Command) → all_up_test n cs ≡ true → AllUp S n cs
  unfolding all_up_test
  all_up_of n cs e p low high s = implied (S p) _ (heads-at n _ e p low high) s

  unfoldable pub more_test : ℕ → ℕ → List Command → Bool
  more_test n L cs = heads n (λ p. implies (not (S p)) (implies (is_up_after false p cs) (ltb (starts L cs) (starts p cs))))

  more_of : (n L : ℕ) (cs : List Command) → more_test n L cs ≡ true → OthersMoreNow S n L cs
  unfolding more_test
  more_of n L cs e p low high s u =
      let more : starts L cs < starts p cs = ltb-true _ _ (implied (is_up_after false p cs) _ (implied (not (S p)) _ (heads-at n _ e p low high) (ap not s)) u) in
      omega arith

  unfoldable pub first_among_test : ℕ → List Command → ℕ → Bool
  first_among_test n cs L = leb 1 L && leb L n && S L && pairs n (λ p q. implies (eqb q L) (implies (S p) (ahead cs L p)))

  pub first_among_of : (n : ℕ) (cs : List Command) (L : ℕ) → first_among_test n cs L ≡ true → FirstAmong S n cs L
  unfolding first_among_test
  first_among_of n cs L e =
      let (a, b, one, all) = four (leb 1 L) (leb L n) (S L) _ e in
      let low : 1 ≤ L = leb-true 1 L a in
      let high : L ≤ n = leb-true L n b in
      record {
        low = low;
        high = high;
        in_set = one;
        least = λ p lp hp s ne. implied (S p) _ (implied (eqb L L) _ (pairs_at n _ all p L lp hp low high ne) (eq-eqb L L refl)) s;
      }

  -- what is asked of a message from one head of S to another, and of one under way to a head of S
  unfoldable pub sent_among_test : (ℕ → Bool) → System → Bool
  sent_among_test t s = pairs s.n (λ p q. implies (S p) (implies (S q) (implies (sending s p) (t (delay s p q)))))

  sent_among_of : (P : ℕ → Type 0) (t : ℕ → Bool) → ((x : ℕ) → t x ≡ true → P x) → (s : System) → sent_among_test t s ≡ true → SentAmong S P s
  unfolding sent_among_test
  sent_among_of P t f s e p q lp hp lq hq ne sp sq sends =
      f (delay s p q) (implied (sending s p) _ (implied (S q) _ (implied (S p) _ (pairs_at s.n _ e p q lp hp lq hq ne) sp) sq) sends)

  unfoldable pub arriving_to_test : ℕ → System → Bool
  arriving_to_test d s = pairs s.n (λ p q. implies (S q) (every (λ m. leb m.due (s.tick + d)) (underway s p q)))

  pub arriving_to_of : (d : ℕ) (s : System) → arriving_to_test d s ≡ true → ArrivingTo S d s
  unfolding arriving_to_test
  arriving_to_of d s e p q lp hp lq hq ne sq =
      every_all _ _ (λ m g. leb-true m.due (s.tick + d) g) (underway s p q) (implied (S q) _ (pairs_at s.n _ e p q lp hp lq hq ne) sq)

  unfoldable pub loses_none_among_test : Command → System → Bool
  loses_none_among_test (SetUp clock n period) s = true
  loses_none_among_test (Start p) s = true
  loses_none_among_test (Crash p) s = true
  loses_none_among_test (Link p q d) s = true
  loses_none_among_test (Run t) s = true
  loses_none_among_test (Lose p q) s = implies (S p) (implies (S q) (every (λ m. false) (underway s p q)))
  loses_none_among_test Report s = true
  loses_none_among_test (Rank p r) s = true

  pub loses_none_among_of : (c : Command) (s : System) → loses_none_among_test c s ≡ true → LosesNoneAmong S c s
  unfolding loses_none_among_test
  loses_none_among_of (SetUp clock n period) s e = tt
  loses_none_among_of (Start p) s e = tt
  loses_none_among_of (Crash p) s e = tt
  loses_none_among_of (Link p q d) s e = tt
  loses_none_among_of (Run t) s e = tt
  loses_none_among_of (Lose p q) s e = λ sp sq. empty_of (underway s p q) (implied (S q) _ (implied (S p) _ e sp) sq)
  loses_none_among_of Report s e = tt
  loses_none_among_of (Rank p r) s e = tt

-- the test of each condition, and the numbers; all at once, so that the systems are computed once
pub record FoundAmong : Type 0 where
  pub refusal : ℕ
  pub flash : Bool
  pub first : Bool
  pub steady : Bool
  pub others : Bool
  pub none-lost : Bool
  pub none-cut : Bool
  pub arriving : Bool
  pub within : Bool
  pub all_ticks : ℕ
  pub divided : ℕ
  pub bound : ℕ

-- from the end of a schedule with these commands
unfoldable pub found_among : (ℕ → Bool) → End → List Command → List (List ℕ) → ℕ → ℕ → FoundAmong
found_among S end cs stretch d L =
    let begin : System = end.system in
    let systems : List System = befores stretch begin in
    record {
      refusal = end.refusal;
      flash = not begin.clock;
      first = first_among_test S begin.n cs L;
      steady = throughout_test (all_up_test S begin.n) cs stretch begin;
      others = throughout_test (more_test S begin.n L) cs stretch begin;
      none-lost = each_test (loses_none_among_test S) stretch begin;
      none-cut = every (sent_among_test S (λ x. not (eqb x 0))) systems;
      arriving = arriving_to_test S d begin;
      within = every (sent_among_test S (λ x. leb x d)) systems;
      all_ticks = length systems;
      divided = divided_ticks_among S L systems;
      bound = bound_among S d begin;
    }

-- what the tests say, once they are computed
pub record SaysAmong (S : ℕ → Bool) (bytes : List ℕ) (stretch : List (List ℕ)) (d L : ℕ) (y : FoundAmong) : Type 0 where
  pub accepted : (schedule bytes).refusal ≡ y.refusal
  pub flash : y.flash ≡ true → (schedule bytes).system.clock ≡ false
  pub first : y.first ≡ true → FirstAmong S (schedule bytes).system.n (commands bytes) L
  pub steady : y.steady ≡ true → AllSteady S (commands bytes) stretch (schedule bytes).system
  pub others : y.others ≡ true → OthersMore S L (commands bytes) stretch (schedule bytes).system
  pub none-lost : y.none-lost ≡ true → NoneLostAmong S stretch (schedule bytes).system
  pub none-cut : y.none-cut ≡ true → NoneCutAmong S stretch (schedule bytes).system
  pub arriving : y.arriving ≡ true → ArrivingTo S d (schedule bytes).system
  pub within : y.within ≡ true → NoneLateAmong S d stretch (schedule bytes).system
  pub all_ticks : length (befores stretch (schedule bytes).system) ≡ y.all_ticks
  pub divided : divided_ticks_among S L (befores stretch (schedule bytes).system) ≡ y.divided
  pub bounded : bound_among S d (schedule bytes).system ≡ y.bound

pub says_among : (S : ℕ → Bool) (bytes : List ℕ) (stretch : List (List ℕ)) (d L : ℕ) (y : FoundAmong) → ltb most_bytes (length bytes) ≡ false → found_among S (by_rules bytes).end (commands bytes) stretch d L ≡ y → SaysAmong S bytes stretch d L y
unfolding found_among
says_among S bytes stretch d L y fits same =
    let e : found_among S (schedule bytes) (commands bytes) stretch d L ≡ y = ap (λ (x : End). found_among S x (commands bytes) stretch d L) (schedule-ruled bytes fits) ∙ same in
    let begin : System = (schedule bytes).system in
    let cs : List Command = commands bytes in
    let all : List System = befores stretch begin in
    record {
      accepted = ap (λ (x : FoundAmong). x.refusal) e;
      flash = λ t. not-true begin.clock (ap (λ (x : FoundAmong). x.flash) e ∙ t);
      first = λ t. first_among_of S begin.n cs L (ap (λ (x : FoundAmong). x.first) e ∙ t);
      steady = λ t. throughout_of (AllUp S begin.n) (all_up_test S begin.n) (all_up_of S begin.n) cs stretch begin (ap (λ (x : FoundAmong). x.steady) e ∙ t);
      others = λ t. throughout_of (OthersMoreNow S begin.n L) (more_test S begin.n L) (more_of S begin.n L) cs stretch begin (ap (λ (x : FoundAmong). x.others) e ∙ t);
      none-lost = λ t. each_of (LosesNoneAmong S) (loses_none_among_test S) (loses_none_among_of S) stretch begin (ap (λ (x : FoundAmong). x.none-lost) e ∙ t);
      none-cut = λ t.
          every_all (SentAmong S (λ x. x ≢ 0)) (sent_among_test S (λ x. not (eqb x 0)))
          (sent_among_of S (λ x. x ≢ 0) (λ x. not (eqb x 0)) (λ x g. eqb-false x 0 (not-true (eqb x 0) g))) all (ap (λ (x : FoundAmong). x.none-cut) e ∙ t);
      arriving = λ t. arriving_to_of S d begin (ap (λ (x : FoundAmong). x.arriving) e ∙ t);
      within = λ t.
          every_all (SentAmong S (λ x. x ≤ d)) (sent_among_test S (λ x. leb x d)) (sent_among_of S (λ x. x ≤ d) (λ x. leb x d) (λ x. leb-true x d)) all
          (ap (λ (x : FoundAmong). x.within) e ∙ t);
      all_ticks = ap (λ (x : FoundAmong). x.all_ticks) e;
      divided = ap (λ (x : FoundAmong). x.divided) e;
      bounded = ap (λ (x : FoundAmong). x.bound) e;
    }
