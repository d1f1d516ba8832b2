-- The claims of specs/Restarting.antt, computed.
use mathlib.Core.Path.{◌≡◌, refl, sym, ap, ◌∙◌}
use mathlib.Core.List.{List, [], ◌∷◌, map}
use mathlib.Core.Bool.{Bool, true, false, not}
use Prim.Native.Nat.{ℕ, ◌+◌, ◌≤◌}
use native.Mathlib.Omega.{arith}
use lib.Dec.{leb, ltb}
use lib.ListN.{length, take}
use borrow.Author.Tests.{leb-true, eqb-true}
use Rattle.lists.specs.Largest.{max_to}
use Rattle.station.specs.Order.{entry}
use Rattle.election.specs.Commands.{Command, ruling}
use Rattle.election.specs.History.{after, history, commands, starts, is_up_after, rank_of}
use Rattle.election.specs.Rows.{start}
use Rattle.election.specs.Schedule.{End, most_bytes, schedule}
use Rattle.election.specs.System.{station, sent_by, underway}
use Rattle.election.specs.declared.System.{System}
use Rattle.election.proofs.Opened.{rules}
use Rattle.election.proofs.Ruled.{ruled, by_rules}
use Rattle.election.proofs.Tables.{schedule-ruled}
use Rattle.settling.specs.Instance.{before_late}
use Rattle.settling.specs.Restarting.{MeetsAmong, with_entries, dues, before_restarts, restarts, two_and_three, begin, Restarting, before_crashing, crashing, UpAtFirst, only_two, before_equal, with_equal, AsManyStarts, with_old, LateFromUnsteady}
use Rattle.settling.specs.Settling.{moments, befores, given}
use Rattle.settling.specs.Steady.{is_steady, divided_ticks_among, longest_wait_among, longest_timeout_among, heads_among}
use Rattle.settling.proofs.Tests.{every, implies, implied, pairs, heads, heads-at, each_test, throughout_test, throughout_of}
use Rattle.settling.proofs.TestedAmong.{all_up_test, more_test, first_among_test, sent_among_test, arriving_to_test, loses_none_among_test, FoundAmong, found_among, SaysAmong, says_among}

-- every definition that is computed with: what unfolds this name unfolds them
computing : Unit {0}
unfolding rules ruled max_to after history starts is_up_after rank_of moments befores is_steady with_entries divided_ticks_among longest_wait_among longest_timeout_among heads_among given every implies pairs each_test heads throughout_test all_up_test more_test first_among_test sent_among_test arriving_to_test loses_none_among_test found_among
computing = tt

-- what is found: the conditions, the ticks, how many are divided, the bound
abbrev finding : Bool → Bool → Bool → Bool → Bool → Bool → Bool → ℕ → ℕ → ℕ → FoundAmong
finding first steady others none-lost none-cut arriving within all_ticks divided bound =
    record { refusal = 0; flash = true; first = first; steady = steady; others = others; none-lost = none-lost; none-cut = none-cut; arriving = arriving; within = within; all_ticks = all_ticks; divided = divided; bound = bound }

meets-of : {S : ℕ → Bool} {bytes : List ℕ} {stretch : List (List ℕ)} {d L ticks unsettled limit : ℕ} → SaysAmong S bytes stretch d L (finding true true true true true true true ticks unsettled limit) → MeetsAmong S bytes stretch d L ticks unsettled limit
meets-of s =
    record {
      accepted = s.accepted;
      flash = s.flash refl;
      first = s.first refl;
      steady = record { steady = s.steady refl; others = s.others refl; messages = record { none-lost = s.none-lost refl; none-cut = s.none-cut refl; arriving = s.arriving refl; within = s.within refl } };
      all_ticks = s.all_ticks;
      divided = s.divided;
      bounded = s.bounded;
    }

-- what is seen of the last system of a schedule is computed by the rules alone
seen_of : {A : Type 0} (look : System → A) (bytes : List ℕ) → ltb most_bytes (length bytes) ≡ false → look (schedule bytes).system ≡ look (by_rules bytes).end.system
seen_of look bytes fits = ap (λ (e : End). look e.system) (schedule-ruled bytes fits)

-- a head that restarts twice
restarting_found : found_among two_and_three (by_rules before_restarts).end (commands before_restarts) restarts 3 2 ≡ finding true true true true true true true 62 34 47
unfolding computing
restarting_found = refl

record Seen : Type 0 where
  tick : ℕ
  steady : List Bool
  of_L : ℕ
  first : ℕ
  second : ℕ
  up : Bool
  apart : ℕ
  sent1 : ℕ
  sent3 : ℕ
  more1 : ℕ
  more3 : ℕ
  heard : ℕ
  old : List ℕ
  lost : List ℕ
  late : List ℕ
  lost-then : List ℕ
  refused : ℕ

unfoldable seen : System → Seen
seen s =
    let cs : List Command = commands before_restarts in
    record {
      tick = s.tick;
      steady = map (is_steady cs restarts s) (1 ∷ 2 ∷ 3 ∷ []);
      of_L = starts 2 (with_entries cs restarts s);
      first = starts 1 (with_entries cs (take 7 restarts) s);
      second = starts 1 (with_entries cs (take 11 restarts) s);
      up = is_up_after false 1 (with_entries cs restarts s);
      apart = (station (given restarts s) 1).leader;
      sent1 = sent_by s 1;
      sent3 = sent_by s 3;
      more1 = sent_by (given restarts s) 1;
      more3 = sent_by (given restarts s) 3;
      heard = entry (station (given restarts s) 3).recovered 1;
      old = dues (underway s 1 2);
      lost = dues (underway s 1 3);
      late = dues (underway s 2 1);
      lost-then = dues (underway (given (take 9 restarts) s) 1 3);
      refused = ruling (given (take 11 restarts) s) (start 2);
    }

restarting_ruled : seen (by_rules before_restarts).end.system
    ≡ record { tick = 33; steady = false ∷ true ∷ true ∷ []; of_L = 1; first = 2; second = 3; up = true; apart = 1; sent1 = 4; sent3 = 0; more1 = 10; more3 = 4; heard = 3; old = 36 ∷ []; lost = 36 ∷ []; late = 81 ∷ []; lost-then = 71 ∷ []; refused = 8 }
unfolding computing seen
restarting_ruled = refl

pub restarting : Restarting
unfolding seen
restarting =
    let all : seen begin ≡ _ = seen_of seen before_restarts refl ∙ restarting_ruled in
    let later : (k : ℕ) → 33 + k ≡ begin.tick + k = λ k. ap (λ t. t + k) (sym (ap (λ (x : Seen). x.tick) all)) in
    record {
      meets = meets-of (says_among two_and_three before_restarts restarts 3 2 _ refl restarting_found);
      steady = ap (λ (x : Seen). x.steady) all;
      of_L = ap (λ (x : Seen). x.of_L) all;
      first-start = ap (λ (x : Seen). x.first) all;
      second-start = ap (λ (x : Seen). x.second) all;
      up-again = ap (λ (x : Seen). x.up) all;
      apart = ap (λ (x : Seen). x.apart) all;
      sent = ap (λ (x : Seen). x.more1) all ∙ ap (λ c. c + 6) (sym (ap (λ (x : Seen). x.sent1) all));
      heard = ap (λ (x : Seen). x.heard) all;
      sent_to-it = ap (λ (x : Seen). x.more3) all ∙ ap (λ c. c + 4) (sym (ap (λ (x : Seen). x.sent3) all));
      old = ap (λ (x : Seen). x.old) all ∙ ap (λ t. t ∷ []) (later 3);
      lost = ap (λ (x : Seen). x.lost) all ∙ ap (λ t. t ∷ []) (later 3);
      late = ap (λ (x : Seen). x.late) all ∙ ap (λ t. t ∷ []) (later 48);
      lost-then = ap (λ (x : Seen). x.lost-then) all;
      refused = ap (λ (x : Seen). x.refused) all;
    }

-- one that is up at first
crashing-found : found_among two_and_three (by_rules before_crashing).end (commands before_crashing) crashing 3 2 ≡ finding true true true true true true true 40 19 60
unfolding computing
crashing-found = refl

record SeenUp : Type 0 where
  steady : List Bool
  waits : List ℕ
  timeout_of-1 : ℕ
  timeouts : List ℕ
  heard : ℕ

unfoldable seen_up : System → SeenUp
seen_up s =
    record {
      steady = map (is_steady (commands before_crashing) crashing s) (1 ∷ 2 ∷ 3 ∷ []);
      waits = map (λ p. (station s p).slot) (1 ∷ 2 ∷ 3 ∷ []);
      timeout_of-1 = entry (station s 1).timeouts 2;
      timeouts = map (λ p. entry (station s p).timeouts 1) (2 ∷ 3 ∷ []);
      heard = entry (station (given (take 1 crashing) s) 2).recovered 1;
    }

crashing-ruled : seen_up (by_rules before_crashing).end.system
    ≡ record { steady = false ∷ true ∷ true ∷ []; waits = 18 ∷ 17 ∷ 17 ∷ []; timeout_of-1 = 18; timeouts = 17 ∷ 17 ∷ []; heard = 2 }
unfolding computing seen_up
crashing-ruled = refl

pub up-at_first : UpAtFirst
unfolding seen_up
up-at_first =
    let all : seen_up (schedule before_crashing).system ≡ _ = seen_of seen_up before_crashing refl ∙ crashing-ruled in
    record {
      meets = meets-of (says_among two_and_three before_crashing crashing 3 2 _ refl crashing-found);
      steady = ap (λ (x : SeenUp). x.steady) all;
      waits = ap (λ (x : SeenUp). x.waits) all;
      timeout_of-1 = ap (λ (x : SeenUp). x.timeout_of-1) all;
      timeouts = ap (λ (x : SeenUp). x.timeouts) all;
      heard = ap (λ (x : SeenUp). x.heard) all;
    }

-- as many starts as L
equal_found : found_among only_two (by_rules before_equal).end (commands before_equal) with_equal 1 2 ≡ finding true true false true true true true 60 43 36
unfolding computing
equal_found = refl

-- the weaker condition as a test
unfoldable as_many_test : ℕ → List Command → Bool
as_many_test n cs = heads n (λ p. implies (not (only_two p)) (implies (is_up_after false p cs) (leb (starts 2 cs) (starts p cs))))

as_many_of : (n : ℕ) (cs : List Command) → as_many_test n cs ≡ true → (p : ℕ) → 1 ≤ p → p ≤ n → only_two p ≡ false → is_up_after false p cs ≡ true → starts 2 cs ≤ starts p cs
unfolding as_many_test
as_many_of n cs e p low high s u =
    leb-true _ _ (implied (is_up_after false p cs) _ (implied (not (only_two p)) _ (heads-at n _ e p low high) (ap not s)) u)

record SeenEqual : Type 0 where
  steady : List Bool
  others : Bool

unfoldable seen_equal : System → SeenEqual
seen_equal s =
    record { steady = map (is_steady (commands before_equal) with_equal s) (1 ∷ 2 ∷ []); others = throughout_test (as_many_test s.n) (commands before_equal) with_equal s }

equal_ruled : seen_equal (by_rules before_equal).end.system ≡ record { steady = false ∷ true ∷ []; others = true }
unfolding computing seen_equal as_many_test
equal_ruled = refl

pub as_many_starts : AsManyStarts
unfolding seen_equal
as_many_starts =
    let s = says_among only_two before_equal with_equal 1 2 _ refl equal_found in
    let all : seen_equal (schedule before_equal).system ≡ _ = seen_of seen_equal before_equal refl ∙ equal_ruled in
    let n : ℕ = (schedule before_equal).system.n in (
      ap (λ (x : SeenEqual). x.steady) all,
      record {
        accepted = s.accepted;
        flash = s.flash refl;
        first = s.first refl;
        conditions = (
          s.steady refl,
          throughout_of _ (as_many_test n) (as_many_of n) (commands before_equal) with_equal (schedule before_equal).system (ap (λ (x : SeenEqual). x.others) all),
          s.none-lost refl,
          s.none-cut refl,
          s.arriving refl,
          s.within refl,
        );
        passed = omega (arith, s.divided, s.bounded);
      },
    )

-- an unsteady head's message that comes later than d
old-found : found_among only_two (by_rules before_late).end (commands before_late) with_old 1 2 ≡ finding true true true true true false true 55 41 36
unfolding computing
old-found = refl

record SeenOld : Type 0 where
  steady : List Bool
  old : List ℕ

unfoldable seen_old : System → SeenOld
seen_old s = record { steady = map (is_steady (commands before_late) with_old s) (1 ∷ 2 ∷ []); old = dues (underway s 1 2) }

old-ruled : seen_old (by_rules before_late).end.system ≡ record { steady = false ∷ true ∷ []; old = 81 ∷ 97 ∷ 113 ∷ 129 ∷ [] }
unfolding computing seen_old
old-ruled = refl

pub late-from_unsteady : LateFromUnsteady
unfolding seen_old
late-from_unsteady =
    let s = says_among only_two before_late with_old 1 2 _ refl old-found in
    let all : seen_old (schedule before_late).system ≡ _ = seen_of seen_old before_late refl ∙ old-ruled in (
      ap (λ (x : SeenOld). x.steady) all,
      ap (λ (x : SeenOld). x.old) all,
      record {
        accepted = s.accepted;
        flash = s.flash refl;
        first = s.first refl;
        conditions = (
          s.steady refl,
          s.others refl,
          s.none-lost refl,
          s.none-cut refl,
          λ p q lp hp lq hq ne sp sq. absurd (ne (eqb-true p 2 sp ∙ sym (eqb-true q 2 sq))),
          s.within refl,
        );
        passed = omega (arith, s.divided, s.bounded);
      },
    )
