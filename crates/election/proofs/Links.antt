-- What the tests of a link say, as facts in arithmetic, both ways; and its messages as a list.
use mathlib.Core.Path.{◌≡◌, refl, sym, ap, ◌∙◌}
use mathlib.Core.List.{List, ◌++◌}
use mathlib.Core.Bool.{Bool, true, false, cond, ◌&&◌}
use Prim.Native.Nat.{ℕ, suc, ◌+◌, ◌-◌, ◌<◌, ◌≤◌}
use native.Mathlib.Numerals.{add-one}
use native.Mathlib.Decide.{dec_lt}
use native.Mathlib.Omega.{arith}
use lib.ListN.{length, get_or, drop, replicate, get_or-append, get_or-replicate}
use lib.Seq.{get_or-append-add, get_or-drop}
use lib.Dec.{leb, ltb}
use borrow.Author.Tests.{ltb-true, leb-true, lt-ltb, le-ltb, le-leb}
use Rattle.lists.specs.Entries.{over}
use Rattle.lists.proofs.Bools.{both, three, four}
use Rattle.lists.proofs.Sets.{within-list}
use Rattle.lists.proofs.Test.{all_at, all_of}
use Rattle.fit.specs.Fit.{longest_delay}
use Rattle.station.specs.declared.Station.{Station}
use Rattle.fit.proofs.Tests.{Counts, of_counts}
use Rattle.station.proofs.Vectors.{zeros-at}
use Rattle.election.specs.Heads.{content_in}
use Rattle.election.specs.System.{places, no_message, unused, messages, holding}
use Rattle.election.specs.Sound.{empty_message, message_in, before_slot, message_at, message_place, spaced, places_in, ordered, link_in}
use Rattle.election.specs.declared.Link.{Link}
use Rattle.election.specs.declared.Message.{Message}
use Rattle.election.proofs.Spaced.{Spaced, spaced-at, spaced-apart, spaced-take}

-- a message under way from a sender
pub record Posted (clock : Bool) (n period tick : ℕ) (sender : Station) (m : Message) : Type 0 where
  pub sent-by : m.sent ≤ tick
  pub due_after : tick < m.due
  pub due_by : m.due ≤ m.sent + longest_delay
  pub content : content_in clock n period tick m ≡ true
  pub before : sender.up ≡ true → m.sent + period ≤ sender.slot

module _ (clock : Bool) (n period tick : ℕ) (sender : Station) (m : Message) where
  pub posted_of : (message_in clock n period tick m && before_slot period sender m) ≡ true → Posted clock n period tick sender m
  unfolding message_in before_slot
  posted_of e =
      let (i, b) = both (message_in clock n period tick m) (before_slot period sender m) e in
      let (s, d, l, c) = four (leb m.sent tick) (ltb tick m.due) (leb m.due (m.sent + longest_delay)) (content_in clock n period tick m) i in
      record {
        sent-by = leb-true m.sent tick s;
        due_after = ltb-true tick m.due d;
        due_by = leb-true m.due (m.sent + longest_delay) l;
        content = c;
        before = λ u. leb-true (m.sent + period) sender.slot (ap (λ x. cond x (leb (m.sent + period) sender.slot) true) (sym u) ∙ b);
      }

  of_before_slot : Posted clock n period tick sender m → (b : Bool) → sender.up ≡ b → cond b (leb (m.sent + period) sender.slot) true ≡ true
  of_before_slot p true u = le-leb (m.sent + period) sender.slot (p.before u)
  of_before_slot p false u = refl

  pub of_posted : Posted clock n period tick sender m → (message_in clock n period tick m && before_slot period sender m) ≡ true
  unfolding message_in before_slot
  of_posted p =
      rw (le-leb m.sent tick p.sent-by, lt-ltb tick m.due p.due_after, le-leb m.due (m.sent + longest_delay) p.due_by, p.content)
      (of_before_slot p sender.up refl)

-- a link from a sender, place by place
pub record Linked (clock : Bool) (n period tick : ℕ) (sender : Station) (l : Link) : Type 0 where
  pub few : l.used ≤ places
  pub held : (k : ℕ) → k < l.used → Posted clock n period tick sender (message_at l k)
  pub rest : (k : ℕ) → k < places → l.used ≤ k → empty_message (message_at l k) ≡ true
  pub apart : (k : ℕ) → suc k < l.used → (message_at l k).sent + period ≤ (message_at l (suc k)).sent

module _ (clock : Bool) (n period tick : ℕ) (sender : Station) (l : Link) where
  abbrev placed : ℕ → Bool
  placed k = message_place clock n period tick sender (ltb k l.used) (message_at l k)

  pub linked_of : link_in clock n period tick sender l ≡ true → Linked clock n period tick sender l
  unfolding link_in
  linked_of e =
      let (u, p, o) = three (leb l.used places) (places_in clock n period tick sender l) (ordered period l) e in
      let few : l.used ≤ places = leb-true l.used places u in
      record {
        few = few;
        held = λ k h. posted_of clock n period tick sender (message_at l k) (rw (lt-ltb k l.used h) at (all_at places k placed p (omega arith)));
        rest = λ k i h. rw (le-ltb k l.used h) at (all_at places k placed p i);
        apart = λ k h.
            let z : leb ((message_at l k).sent + period) (message_at l (k + 1)).sent ≡ true = rw (lt-ltb (k + 1) l.used (omega arith)) at (all_at places k (spaced period l) o (omega arith)) in
            rw (sym (add-one k)) (leb-true ((message_at l k).sent + period) (message_at l (k + 1)).sent z);
      }

  pub of_linked : Linked clock n period tick sender l → link_in clock n period tick sender l ≡ true
  unfolding link_in
  of_linked f =
      rw (le-leb l.used places f.few, all_of places placed (λ k h. at k h (dec_lt k l.used)), all_of places (spaced period l) (λ k h. next k (dec_lt (k + 1) l.used)))
    where
      at : (k : ℕ) → k < places → Dec (k < l.used) → placed k ≡ true
      at k h (yes i) = rw (lt-ltb k l.used i) (of_posted clock n period tick sender (message_at l k) (f.held k i))
      at k h (no i) = rw (le-ltb k l.used (omega arith)) (f.rest k h (omega arith))

      next : (k : ℕ) → Dec (k + 1 < l.used) → spaced period l k ≡ true
      next k (yes i) =
          rw (lt-ltb (k + 1) l.used i)
          (le-leb ((message_at l k).sent + period) (message_at l (k + 1)).sent (rw (add-one k) (f.apart k (omega arith))))
      next k (no i) = rw (le-ltb (k + 1) l.used (omega arith))

  -- its messages, as a list
  pub linked_spaced : Linked clock n period tick sender l → Spaced (Posted clock n period tick sender) period 0 (messages l)
  unfolding messages
  linked_spaced f =
      spaced-take 0 l.used l.messages (λ k h. within-list (λ (m : Message). tick < m.due) l.messages k no_message (λ i. omega arith) (f.held k h).due_after) f.held f.apart (λ h. omega arith)

-- what stands at the places of a link that holds messages, no more than it has places
module _ (ms : List Message) (h : length ms ≤ places) where
  pub holding-used : (holding ms).used ≡ length ms
  unfolding holding
  holding-used = refl

  pub holding-at : (k : ℕ) → k < length ms → message_at (holding ms) k ≡ get_or ms k no_message
  unfolding holding over
  holding-at k i = get_or-append ms (drop (length ms) (replicate places unused)) no_message k i

  pub holding-rest : (k : ℕ) → k < places → length ms ≤ k → message_at (holding ms) k ≡ unused
  unfolding holding over
  holding-rest k i j =
      let e : length ms + (k - length ms) ≡ k = omega arith in
      ap (λ x. get_or (ms ++ drop (length ms) (replicate places unused)) x no_message) (sym e)
      ∙ get_or-append-add ms (drop (length ms) (replicate places unused)) (k - length ms) no_message
      ∙ get_or-drop (length ms) (replicate places unused) (k - length ms) no_message
      ∙ ap (λ x. get_or (replicate places unused) x no_message) e
      ∙ get_or-replicate places k unused no_message i

-- counts that are all zero are in range
pub zeros-in : (n : ℕ) → Counts n (replicate 8 0)
zeros-in n k h = omega (arith, zeros-at k)

-- so an unused place is zero
pub unused-empty : empty_message unused ≡ true
unfolding empty_message
unused-empty = rw (of_counts 0 (replicate 8 0) (zeros-in 0))

module _ (clock : Bool) (n period tick : ℕ) (sender : Station) (ms : List Message) where
  pub holding-linked : length ms ≤ places → Spaced (Posted clock n period tick sender) period 0 ms → Linked clock n period tick sender (holding ms)
  holding-linked h f =
      let u : (holding ms).used ≡ length ms = holding-used ms h in
      record {
        few = omega arith;
        held = λ k i. (let j : k < length ms = omega arith in rw (holding-at ms h k j) (spaced-at k j f));
        rest = λ k i j. rw (holding-rest ms h k i (omega arith)) unused-empty;
        apart = λ k i. (let j : suc k < length ms = omega arith in rw (holding-at ms h k (omega arith), holding-at ms h (suc k) j) (spaced-apart k j f));
      }
