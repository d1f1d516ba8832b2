-- The claims of specs/Instance.antt, computed.
use mathlib.Core.Path.{◌≡◌, refl, sym, ap, ◌∙◌}
use mathlib.Core.List.{List, [], ◌∷◌, map}
use mathlib.Core.Bool.{Bool, true, false}
use Prim.Native.Nat.{ℕ, ◌+◌}
use native.Mathlib.Omega.{arith}
use lib.Dec.{ltb}
use lib.ListN.{length, take}
use borrow.Author.Tests.{ltb-true}
use Rattle.lists.specs.Largest.{max_to}
use Rattle.election.specs.System.{station, sent_by, underway}
use Rattle.election.specs.Commands.{ruling}
use Rattle.election.specs.Listing.{all_trust}
use Rattle.election.specs.Rows.{start, at20, started_slow}
use Rattle.settling.specs.Settling.{moments, befores, divided_ticks, longest_wait, longest_timeout, up_heads, given}
use Rattle.election.specs.History.{after, history, commands, starts, is_up_after, rank_of}
use Rattle.election.specs.Schedule.{End, schedule}
use Rattle.election.proofs.Opened.{rules}
use Rattle.election.proofs.Ruled.{ruled, by_rules}
use Rattle.election.proofs.Tables.{schedule-ruled}
use Rattle.settling.specs.Instance.{bytes, stretch, d, L, begin, Meets, Instance, slow_stretch, SlowLinks, before_crash, with_crash, CrashOfL, with_losses, LostToUp, with_cut, CutToUp, with_delay, SentLate, before_late, after_late, LateUnderWay, before_lowest, after_lowest, LowestNumber, before_ranked, after_ranked, Preferred, RankLeftOut, FlashTables, before_clock, after_clock, ClockHeads}
use Rattle.election.specs.declared.Message.{Message}
use Rattle.election.specs.declared.System.{System}
use Rattle.settling.proofs.Tests.{every, implies, pairs, each_test}
use Rattle.settling.proofs.TestedAmong.{first_among_test, arriving_to_test, loses_none_among_test}
use Rattle.settling.proofs.Tested.{sent_test, permitted_test, Found, found, Says, says, quiet_of}

-- every definition that is computed with: what unfolds this name unfolds them
computing : Unit {0}
unfolding rules ruled max_to all_trust after history starts is_up_after rank_of moments befores divided_ticks longest_wait longest_timeout up_heads given every implies pairs sent_test arriving_to_test each_test permitted_test loses_none_among_test first_among_test found
computing = tt

-- what is found: the conditions, the ticks, how many are divided, the bound
abbrev finding : Bool → Bool → Bool → Bool → Bool → Bool → Bool → ℕ → ℕ → ℕ → Found
finding flash first permitted none-lost none-cut arriving within all_ticks divided bound =
    record { refusal = 0; flash = flash; first = first; permitted = permitted; none-lost = none-lost; none-cut = none-cut; arriving = arriving; within = within; all_ticks = all_ticks; divided = divided; bound = bound }

-- all conditions hold
abbrev holding : ℕ → ℕ → ℕ → Found
holding all_ticks divided bound = finding true true true true true true true all_ticks divided bound

meets-of : {bytes : List ℕ} {stretch : List (List ℕ)} {d L ticks unsettled limit : ℕ} → Says bytes stretch d L (holding ticks unsettled limit) → Meets bytes stretch d L ticks unsettled limit
meets-of s = record { accepted = s.accepted; first = s.first refl; quiet = quiet_of s refl refl refl refl refl; all_ticks = s.all_ticks; divided = s.divided; bounded = s.bounded }

-- the instance
instance_found : found (by_rules bytes).end (commands bytes) stretch d L ≡ holding 38 32 46
unfolding computing
instance_found = refl

record Seen : Type 0 where
  tick : ℕ
  heads : ℕ
  up1 : Bool
  up2 : Bool
  old : ℕ
  lost : ℕ
  late : List ℕ
  refused : ℕ
  sent2 : ℕ
  sent3 : ℕ
  more2 : ℕ
  more3 : ℕ

unfoldable seen : System → Seen
seen s =
    record {
      tick = s.tick;
      heads = up_heads s;
      up1 = (station s 1).up;
      up2 = (station s 2).up;
      old = length (underway s 1 2);
      lost = length (underway s 1 3);
      late = map (λ (m : Message). m.due) (underway s 2 1);
      refused = ruling (given (take 7 stretch) s) (start 2);
      sent2 = sent_by s 2;
      sent3 = sent_by s 3;
      more2 = sent_by (given stretch s) 2;
      more3 = sent_by (given stretch s) 3;
    }

instance_ruled : seen (by_rules bytes).end.system
    ≡ record { tick = 35; heads = 2; up1 = false; up2 = true; old = 1; lost = 1; late = 81 ∷ []; refused = 8; sent2 = 2; sent3 = 0; more2 = 4; more3 = 4 }
unfolding computing seen
instance_ruled = refl

instance_seen : seen begin ≡ seen (by_rules bytes).end.system
instance_seen = ap (λ (e : End). seen e.system) (schedule-ruled bytes refl)

pub the_instance : Instance
unfolding seen
the_instance =
    let all = instance_seen ∙ instance_ruled in
    record {
      meets = meets-of (says bytes stretch d L _ refl instance_found);
      heads = ap (λ (x : Seen). x.heads) all;
      dead = ap (λ (x : Seen). x.up1) all;
      alive = ap (λ (x : Seen). x.up2) all;
      old = ap (λ (x : Seen). x.old) all;
      lost = ap (λ (x : Seen). x.lost) all;
      late = ap (λ (x : Seen). x.late) all ∙ ap (λ t. (t + 46) ∷ []) (sym (ap (λ (x : Seen). x.tick) all));
      sent = ap (λ (x : Seen). x.more2) all ∙ ap (λ c. c + 2) (sym (ap (λ (x : Seen). x.sent2) all));
      sent-slowly = ap (λ (x : Seen). x.more3) all ∙ ap (λ c. c + 4) (sym (ap (λ (x : Seen). x.sent3) all));
      refused = ap (λ (x : Seen). x.refused) all;
    }

-- the longest delays
slow_found : found (by_rules started_slow).end (commands started_slow) slow_stretch 255 1 ≡ holding 290 271 32946
unfolding computing
slow_found = refl

pub slow_links : SlowLinks
slow_links = meets-of (says started_slow slow_stretch 255 1 _ refl slow_found)

-- a crash of L
crash-found : found (by_rules before_crash).end (commands before_crash) with_crash 1 1 ≡ finding true true false true true true true 40 38 36
unfolding computing
crash-found = refl

pub crash-of_L : CrashOfL
crash-of_L =
    let s = says before_crash with_crash 1 1 _ refl crash-found in
    record { accepted = s.accepted; conditions = (s.first refl, s.none-lost refl, s.none-cut refl, s.arriving refl, s.within refl); passed = s.passed (omega arith) }

-- messages to an up head that are lost, cut, sent late, and late when the stretch begins
losses_found : found (by_rules at20).end (commands at20) with_losses 1 1 ≡ finding true true true false true true true 55 41 36
unfolding computing
losses_found = refl

pub lost-to_up : LostToUp
lost-to_up =
    let s = says at20 with_losses 1 1 _ refl losses_found in
    record { accepted = s.accepted; conditions = (s.first refl, s.permitted refl, s.none-cut refl, s.arriving refl, s.within refl); passed = s.passed (omega arith) }

cut_found : found (by_rules at20).end (commands at20) with_cut 1 1 ≡ finding true true true true false true true 55 41 36
unfolding computing
cut_found = refl

pub cut_to_up : CutToUp
cut_to_up =
    let s = says at20 with_cut 1 1 _ refl cut_found in
    record { accepted = s.accepted; conditions = (s.first refl, s.permitted refl, s.none-lost refl, s.arriving refl, s.within refl); passed = s.passed (omega arith) }

delay-found : found (by_rules at20).end (commands at20) with_delay 1 1 ≡ finding true true true true true true false 55 41 36
unfolding computing
delay-found = refl

pub sent-late : SentLate
sent-late =
    let s = says at20 with_delay 1 1 _ refl delay-found in
    record { accepted = s.accepted; conditions = (s.first refl, s.permitted refl, s.none-lost refl, s.none-cut refl, s.arriving refl); passed = s.passed (omega arith) }

late-found : found (by_rules before_late).end (commands before_late) after_late 1 2 ≡ finding true true true true true false true 55 41 36
unfolding computing
late-found = refl

pub late-under_way : LateUnderWay
late-under_way =
    let s = says before_late after_late 1 2 _ refl late-found in
    record { accepted = s.accepted; conditions = (s.first refl, s.permitted refl, s.none-lost refl, s.none-cut refl, s.within refl); passed = s.passed (omega arith) }

-- L the lowest number
lowest_found : found (by_rules before_lowest).end (commands before_lowest) after_lowest 1 1 ≡ finding true false true true true true true 40 40 37
unfolding computing
lowest_found = refl

lowest_ruled : (station (by_rules before_lowest).end.system 1).up ≡ true
unfolding computing
lowest_ruled = refl

lowest_up : (station (schedule before_lowest).system 1).up ≡ true
lowest_up = ap (λ (e : End). (station e.system 1).up) (schedule-ruled before_lowest refl) ∙ lowest_ruled

fewer_starts : ltb (starts 2 (commands before_lowest)) (starts 1 (commands before_lowest)) ≡ true
unfolding computing
fewer_starts = refl

pub lowest_number : LowestNumber
lowest_number =
    let s = says before_lowest after_lowest 1 1 _ refl lowest_found in
    record {
      accepted = s.accepted;
      conditions = (lowest_up, ltb-true _ _ fewer_starts, quiet_of s refl refl refl refl refl);
      passed = s.passed (omega arith);
    }

-- L by its rank, and the other head in its place
preferred_found : found (by_rules before_ranked).end (commands before_ranked) after_ranked 1 2 ≡ holding 80 17 53
unfolding computing
preferred_found = refl

pub preferred : Preferred
preferred = meets-of (says before_ranked after_ranked 1 2 _ refl preferred_found)

left-out_found : found (by_rules before_ranked).end (commands before_ranked) after_ranked 1 1 ≡ finding true false true true true true true 80 80 53
unfolding computing
left-out_found = refl

left-out_ruled : (station (by_rules before_ranked).end.system 1).up ≡ true
unfolding computing
left-out_ruled = refl

as_many_starts : starts 1 (commands before_ranked) ≡ starts 2 (commands before_ranked)
unfolding computing
as_many_starts = refl

lower_rank : ltb (rank_of 0 2 (commands before_ranked)) (rank_of 0 1 (commands before_ranked)) ≡ true
unfolding computing
lower_rank = refl

pub rank-left_out : RankLeftOut
rank-left_out =
    let s = says before_ranked after_ranked 1 1 _ refl left-out_found in
    record {
      accepted = s.accepted;
      conditions = (ap (λ (e : End). (station e.system 1).up) (schedule-ruled before_ranked refl) ∙ left-out_ruled, as_many_starts, ltb-true _ _ lower_rank, quiet_of s refl refl refl refl refl);
      passed = s.passed (omega arith);
    }

-- the kind of head: flash heads, and clock heads in the last one
pub flash-tables : FlashTables
flash-tables = (
  (says bytes stretch d L _ refl instance_found).flash refl,
  (says started_slow slow_stretch 255 1 _ refl slow_found).flash refl,
  (says before_crash with_crash 1 1 _ refl crash-found).flash refl,
  (says at20 with_cut 1 1 _ refl cut_found).flash refl,
  (says before_late after_late 1 2 _ refl late-found).flash refl,
  (says before_lowest after_lowest 1 1 _ refl lowest_found).flash refl,
  (says before_ranked after_ranked 1 2 _ refl preferred_found).flash refl,
)

clock_found : found (by_rules before_clock).end (commands before_clock) after_clock 1 2 ≡ finding false true true true true true true 40 35 19
unfolding computing
clock_found = refl

pub clock_heads : ClockHeads
clock_heads =
    let s = says before_clock after_clock 1 2 _ refl clock_found in
    record { accepted = s.accepted; conditions = (s.first refl, quiet_of s refl refl refl refl refl); passed = s.passed (omega arith) }
