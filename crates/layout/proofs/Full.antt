-- A sound system that is laid out: its tables are full, and each link has zeros after its messages.
use mathlib.Core.Path.{◌≡◌, sym, ap, subst, ◌∙◌}
use mathlib.Core.List.{List, [], ◌∷◌}
use mathlib.Core.Bool.{true, ◌&&◌}
use Prim.Native.Nat.{ℕ, zero, suc, ◌+◌, ◌*◌, ◌<◌, ◌≤◌}
use native.Mathlib.Decide.{dec_lt}
use native.Mathlib.Omega.{arith}
use lib.Dec.{eqb}
use lib.ListN.{length, get_or, take, replicate, length-take, length-replicate, get_or-replicate}
use lib.Seq.{ext_get_or, get_or-take}
use borrow.Author.Tests.{le-ltb, eqb-true}
use denote.Array.{each}
use denote.Shadow.{shadow}
use mir.Val.{Val}
use Rattle.lists.specs.Entries.{over}
use Rattle.lists.proofs.Bools.{both, three}
use Rattle.lists.proofs.Entries.{length_over, over-beyond, over-front}
use Rattle.lists.proofs.Segment.{length-segment, get_d_segment}
use Rattle.fit.specs.Fit.{counts_in}
use Rattle.fit.proofs.Tests.{counts_of}
use Rattle.election.specs.Idle.{Held}
use Rattle.election.specs.Sound.{message_at, empty_message, sound}
use Rattle.election.specs.System.{no_message, no_link, station, from, to, unused, messages, holding, is_link, places}
use Rattle.election.specs.declared.Link.{Link}
use Rattle.election.specs.declared.Message.{Message}
use Rattle.election.proofs.Links.{Linked}
use Rattle.election.specs.contracts.Message.{the_row}
use Rattle.election.proofs.Soundness.{sound-of, link-of, place_of}
use Rattle.layout.specs.Layout.{system_of}
use Rattle.layout.specs.declared.Layout.{Layout}
use Rattle.layout.proofs.Stores.{length-links, places-read}

-- a message of eight counts that is zero is an unused one
zero_unused : (m : Message) → length m.counts ≡ 8 → empty_message m ≡ true → m ≡ unused
unfolding empty_message
zero_unused m size e =
    let (a, b, c) = three (eqb m.sent 0) (eqb m.due 0) (counts_in 0 m.counts && eqb m.stamp 0) e in
    let (v, z) = both (counts_in 0 m.counts) (eqb m.stamp 0) c in
    λ i. record { sent = eqb-true m.sent 0 a i; due = eqb-true m.due 0 b i; counts = zeros v i; stamp = eqb-true m.stamp 0 z i }
  where
    zeros : counts_in 0 m.counts ≡ true → m.counts ≡ replicate 8 0
    zeros c =
        ext_get_or 0 m.counts (replicate 8 0) (size ∙ sym (length-replicate {A = ℕ} 8 0))
        (λ k h.
        let l : k < 8 = omega (arith, size) in
        let low : get_or m.counts k 0 ≤ 0 = rw (le-ltb k 0 (omega arith)) at (counts_of 0 m.counts c k l) in
        let z : get_or m.counts k 0 ≡ 0 = omega arith in
        z ∙ sym (get_or-replicate {A = ℕ} 8 k 0 0 l))

-- a link with all its places, with zeros after its messages
holding-is : (l : Link) → length l.messages ≡ places → l.used ≤ places → ((x : ℕ) → l.used ≤ x → x < places → message_at l x ≡ unused) → holding (messages l) ≡ l
unfolding messages holding
holding-is l size few rest = λ i. record { used = count i; messages = same i }
  where
    count : length (take l.used l.messages) ≡ l.used
    count = omega (arith, length-take l.used l.messages)

    same : over (take l.used l.messages) (replicate places unused) ≡ l.messages
    same =
        ext_get_or no_message (over (take l.used l.messages) (replicate places unused)) l.messages (wide ∙ sym size)
        (λ x h. at x (let z : x < places = omega (arith, wide) in z) (dec_lt x l.used))
      where
        wide : length (over (take l.used l.messages) (replicate places unused)) ≡ places
        wide = length_over (take l.used l.messages) (replicate places unused) (omega (arith, count, length-replicate places unused)) ∙ length-replicate places unused

        at : (x : ℕ) → x < places → Dec (x < l.used) → get_or (over (take l.used l.messages) (replicate places unused)) x no_message ≡ get_or l.messages x no_message
        at x h (yes i) = over-front (take l.used l.messages) (replicate places unused) x no_message (omega (arith, count)) ∙ get_or-take l.used l.messages x no_message i
        at x h (no i) = over-beyond (take l.used l.messages) (replicate places unused) x no_message (omega (arith, count)) ∙ get_or-replicate places x unused no_message h ∙ sym (rest x (omega arith) h)

-- what owning an array of messages tells: each has eight counts
pub counts-owned : (ms : List Message) (us : List Val) → shadow (each the_row.Denot the_row.own_val ms us) → (j : ℕ) → j < length ms → length (get_or ms j no_message).counts ≡ 8
counts-owned [] us p j h = absurd (omega arith)
counts-owned (m ∷ ms) [] p j h = absurd p
counts-owned (m ∷ ms) (u ∷ us) p zero h = p.0.1.1.1.1.0.1.0.1
counts-owned (m ∷ ms) (u ∷ us) p (suc j) h = counts-owned ms us p.1 j (omega arith)

pub held_of : (s : Layout) → length s.stations ≡ 8 → length s.sent ≡ 8 → ((j : ℕ) → j < (64 * places) → length (get_or s.messages j no_message).counts ≡ 8) → sound (system_of s) ≡ true → s.ready ≡ true → Held (system_of s)
held_of s stations sent counts e u = record { stations = stations; sent = sent; links = length-links s.used s.messages; held = at }
  where
    at : (k : ℕ) → k < 64 → is_link s.n (from k) (to k) ≡ true → holding (messages (get_or (system_of s).links k no_link)) ≡ get_or (system_of s).links k no_link
    at k h i =
        let (hp, hq, ne) = link-of s.n (from k) (to k) (omega arith) (omega arith) i in
        let f : Linked s.clock s.n s.period s.tick (station (system_of s) (from k)) (get_or (system_of s).links k no_link) =
        subst (λ x. Linked s.clock s.n s.period s.tick (station (system_of s) (from k)) (get_or (system_of s).links x no_link)) (place_of k h) ((sound-of (system_of s) e u).linked (from k) (to k) hp hq ne) in
        holding-is (get_or (system_of s).links k no_link) (ap length (places-read s k h) ∙ length-segment places no_message s.messages k) f.few
        (λ x b c. zero_unused (message_at (get_or (system_of s).links k no_link) x)
        (ap (λ (m : Message). length m.counts) (ap (λ (l : List Message). get_or l x no_message) (places-read s k h) ∙ get_d_segment places no_message s.messages k x no_message c) ∙ counts (places * k + x) (omega arith))
        (f.rest x c b))
