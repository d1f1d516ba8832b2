-- The conditions of demand 3 as tests, so that they can be computed for a given schedule and stretch.
use mathlib.Core.Path.{◌≡◌, sym, ap, ◌∙◌}
use mathlib.Core.Logic.{◌≢◌}
use mathlib.Core.List.{List}
use mathlib.Core.Bool.{Bool, true, false, not, true≢false}
use Prim.Native.Nat.{ℕ, ◌<◌, ◌≤◌}
use native.Mathlib.Omega.{arith}
use lib.Dec.{leb, ltb, eqb}
use lib.ListN.{length}
use borrow.Author.Tests.{leb-true, eqb-false, not-true}
use Rattle.election.specs.Commands.{Command, SetUp, Start, Crash, Link, Run, Lose, Report, Rank}
use Rattle.election.specs.Schedule.{End, most_bytes, schedule}
use Rattle.settling.specs.Settling.{First, befores, divided_ticks, Permitted, LosesNone, Sent, Only, NoneLost, NoneCut, NoneSentLate, Arriving, Quiet, bound}
use Rattle.election.specs.History.{commands, is_up_after}
use Rattle.election.specs.System.{station, delay}
use Rattle.election.specs.Tick.{sending}
use Rattle.election.specs.declared.System.{System}
use Rattle.election.proofs.Ruled.{by_rules}
use Rattle.election.proofs.Tables.{schedule-ruled}
use Rattle.settling.proofs.IDemand.{first-up}
use Rattle.settling.proofs.Tests.{every, every_all, implies, implied, pairs, pairs_at, each_test, each_of}
use Rattle.settling.proofs.TestedAmong.{first_among_test, first_among_of, arriving_to_test, arriving_to_of, loses_none_among_test, loses_none_among_of}

-- what is asked of a message that is sent in the tick after s to an up head
unfoldable pub sent_test : (ℕ → Bool) → System → Bool
sent_test t s = pairs s.n (λ p q. implies (sending s p) (implies (station s q).up (t (delay s p q))))

sent-of : (P : ℕ → Type 0) (t : ℕ → Bool) → ((x : ℕ) → t x ≡ true → P x) → (s : System) → sent_test t s ≡ true → Sent P s
unfolding sent_test
sent-of P t f s e p q lp hp lq hq ne sends up =
    f (delay s p q) (implied (station s q).up _ (implied (sending s p) _ (pairs_at s.n _ e p q lp hp lq hq ne) sends) up)

unfoldable pub permitted_test : Command → Bool
permitted_test (SetUp clock n period) = false
permitted_test (Start p) = false
permitted_test (Crash p) = false
permitted_test (Link p q d) = true
permitted_test (Run t) = true
permitted_test (Lose p q) = true
permitted_test Report = true
permitted_test (Rank p r) = false

permitted-of : (c : Command) → permitted_test c ≡ true → Permitted c
unfolding permitted_test
permitted-of (SetUp clock n period) e = true≢false (sym e)
permitted-of (Start p) e = true≢false (sym e)
permitted-of (Crash p) e = true≢false (sym e)
permitted-of (Link p q d) e = tt
permitted-of (Run t) e = tt
permitted-of (Lose p q) e = tt
permitted-of Report e = tt
permitted-of (Rank p r) e = true≢false (sym e)

-- a loss is asked as Paper 7 asks it of the up heads
loses_none_of : (c : Command) (s : System) → loses_none_among_test (λ p. (station s p).up) c s ≡ true → LosesNone c s
loses_none_of (SetUp clock n period) s e = tt
loses_none_of (Start p) s e = tt
loses_none_of (Crash p) s e = tt
loses_none_of (Link p q d) s e = tt
loses_none_of (Run t) s e = tt
loses_none_of (Lose p q) s e = loses_none_among_of (λ r. (station s r).up) (Lose p q) s e
loses_none_of Report s e = tt
loses_none_of (Rank p r) s e = tt

-- the test of each condition, and the numbers; all at once, so that the systems are computed once
pub record Found : Type 0 where
  pub refusal : ℕ
  pub flash : Bool
  pub first : Bool
  pub permitted : Bool
  pub none-lost : Bool
  pub none-cut : Bool
  pub arriving : Bool
  pub within : Bool
  pub all_ticks : ℕ
  pub divided : ℕ
  pub bound : ℕ

-- from the end of a schedule with these commands
unfoldable pub found : End → List Command → List (List ℕ) → ℕ → ℕ → Found
found end cs stretch d L =
    let systems : List System = befores stretch end.system in
    record {
      refusal = end.refusal;
      flash = not end.system.clock;
      first = first_among_test (λ p. is_up_after false p cs) end.system.n cs L;
      permitted = each_test (λ c x. permitted_test c) stretch end.system;
      none-lost = each_test (λ c s. loses_none_among_test (λ p. (station s p).up) c s) stretch end.system;
      none-cut = every (sent_test (λ x. not (eqb x 0))) systems;
      arriving = arriving_to_test (λ p. (station end.system p).up) d end.system;
      within = every (sent_test (λ x. leb x d)) systems;
      all_ticks = length systems;
      divided = divided_ticks L systems;
      bound = bound d end.system;
    }

-- what the tests say, once they are computed
pub record Says (bytes : List ℕ) (stretch : List (List ℕ)) (d L : ℕ) (y : Found) : Type 0 where
  pub accepted : (schedule bytes).refusal ≡ y.refusal
  pub flash : y.flash ≡ true → (schedule bytes).system.clock ≡ false
  pub first : y.first ≡ true → First (schedule bytes).system.n (commands bytes) L
  pub permitted : y.permitted ≡ true → Only stretch (schedule bytes).system
  pub none-lost : y.none-lost ≡ true → NoneLost stretch (schedule bytes).system
  pub none-cut : y.none-cut ≡ true → NoneCut stretch (schedule bytes).system
  pub arriving : y.arriving ≡ true → Arriving d (schedule bytes).system
  pub within : y.within ≡ true → NoneSentLate d stretch (schedule bytes).system
  pub all_ticks : length (befores stretch (schedule bytes).system) ≡ y.all_ticks
  pub divided : divided_ticks L (befores stretch (schedule bytes).system) ≡ y.divided
  pub bounded : bound d (schedule bytes).system ≡ y.bound
  pub passed : y.bound < y.divided → bound d (schedule bytes).system < divided_ticks L (befores stretch (schedule bytes).system)

pub says : (bytes : List ℕ) (stretch : List (List ℕ)) (d L : ℕ) (y : Found) → ltb most_bytes (length bytes) ≡ false → found (by_rules bytes).end (commands bytes) stretch d L ≡ y → Says bytes stretch d L y
unfolding found
says bytes stretch d L y fits same =
    let e : found (schedule bytes) (commands bytes) stretch d L ≡ y = ap (λ (x : End). found x (commands bytes) stretch d L) (schedule-ruled bytes fits) ∙ same in
    let begin : System = (schedule bytes).system in
    let all : List System = befores stretch begin in
    let divided : divided_ticks L all ≡ y.divided = ap (λ (x : Found). x.divided) e in
    let bounded : bound d begin ≡ y.bound = ap (λ (x : Found). x.bound) e in
    record {
      accepted = ap (λ (x : Found). x.refusal) e;
      flash = λ t. not-true begin.clock (ap (λ (x : Found). x.flash) e ∙ t);
      first = λ t. (first-up begin.n (commands bytes) L).1 (first_among_of (λ p. is_up_after false p (commands bytes)) begin.n (commands bytes) L (ap (λ (x : Found). x.first) e ∙ t));
      permitted = λ t. each_of (λ c x. Permitted c) (λ c x. permitted_test c) (λ c x. permitted-of c) stretch begin (ap (λ (x : Found). x.permitted) e ∙ t);
      none-lost = λ t. each_of LosesNone (λ c s. loses_none_among_test (λ p. (station s p).up) c s) loses_none_of stretch begin (ap (λ (x : Found). x.none-lost) e ∙ t);
      none-cut = λ t.
          every_all (Sent (λ x. x ≢ 0)) (sent_test (λ x. not (eqb x 0)))
          (sent-of (λ x. x ≢ 0) (λ x. not (eqb x 0)) (λ x g. eqb-false x 0 (not-true (eqb x 0) g))) all (ap (λ (x : Found). x.none-cut) e ∙ t);
      arriving = λ t. arriving_to_of (λ p. (station begin p).up) d begin (ap (λ (x : Found). x.arriving) e ∙ t);
      within = λ t.
          every_all (Sent (λ x. x ≤ d)) (sent_test (λ x. leb x d)) (sent-of (λ x. x ≤ d) (λ x. leb x d) (λ x. leb-true x d)) all
          (ap (λ (x : Found). x.within) e ∙ t);
      all_ticks = ap (λ (x : Found). x.all_ticks) e;
      divided = divided;
      bounded = bounded;
      passed = λ l. omega (arith, divided, bounded);
    }

-- all conditions on the stretch
pub quiet_of : {bytes : List ℕ} {stretch : List (List ℕ)} {d L : ℕ} {y : Found} → Says bytes stretch d L y
    → y.permitted ≡ true → y.none-lost ≡ true → y.none-cut ≡ true → y.arriving ≡ true → y.within ≡ true → Quiet d stretch (schedule bytes).system
quiet_of s a b c f g = record { permitted = s.permitted a; none-lost = s.none-lost b; none-cut = s.none-cut c; arriving = s.arriving f; within = s.within g }
