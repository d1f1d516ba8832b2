-- Idle ticks only raise the counter.
use mathlib.Core.Path.{◌≡◌, refl, sym, ap, subst, subst₂, ◌∙◌}
use mathlib.Core.Logic.{◌≢◌}
use mathlib.Core.List.{List, [], ◌∷◌, append-nil}
use mathlib.Core.Bool.{Bool, true, false, cond, not, ◌&&◌, and-false}
use Prim.Native.Nat.{ℕ, zero, suc, ◌+◌, ◌-◌, ◌<◌, ◌≤◌}
use native.Mathlib.Decide.{dec_lt}
use native.Mathlib.Omega.{arith}
use lib.ListN.{get_or, take}
use lib.Seq.{ext_get_or}
use lib.Dec.{eqb}
use borrow.Author.Tests.{eqb-false, ne_eqb, lt-ltb, le-ltb, not-true}
use Rattle.lists.specs.Entries.{up_to}
use Rattle.lists.specs.Every.{All}
use Rattle.lists.specs.Test.{all_to}
use Rattle.lists.proofs.Bools.{both, cond_elim}
use Rattle.lists.proofs.Entries.{length-up_to, get_d_up_to}
use Rattle.lists.proofs.Fold.{each_keeps}
use Rattle.lists.proofs.Test.{all_at}
use Rattle.station.specs.declared.Station.{Station}
use Rattle.election.specs.Heads.{Hearing, hearing}
use Rattle.election.specs.Idle.{quiet_station, quiet_link, quiet_at, idle, Held, IdleHeld, IdleTicks, Still, TickHeld}
use Rattle.election.specs.System.{at_tick, no_station, no_message, no_link, station, place, from, to, messages, holding, underway, is_link, renewed}
use Rattle.election.specs.Sound.{message_at}
use Rattle.election.specs.Tick.{next, heard_link, heard_all, expired_now, slotted_now, heard_by, settled, sending, station_next, sent, underway_after, seat_next, sent_next, link_next, tick, ticks}
use Rattle.election.specs.declared.Link.{Link}
use Rattle.election.specs.declared.Message.{Message}
use Rattle.election.specs.declared.System.{System}
use Rattle.election.proofs.Places.{In, messages-held}
use Rattle.election.proofs.Soundness.{link-of, place_of}
use Rattle.election.proofs.TickSound.{ticks-add}
use Rattle.election.proofs.Underway.{later-none}

-- a link with no message due: none of its messages is due
none-due : (now u : ℕ) (ms : List Message) → ((i : ℕ) → i < u → (get_or ms i no_message).due ≢ now) → All (λ (m : Message). m.due ≢ now) (take u ms)
none-due now zero ms h = tt
none-due now (suc u) [] h = tt
none-due now (suc u) (m ∷ ms) h = (h 0 (omega arith), none-due now u ms (λ i l. h (suc i) (omega arith)))

quiet_none : (now : ℕ) (l : Link) → quiet_link now l ≡ true → All (λ (m : Message). m.due ≢ now) (messages l)
unfolding quiet_link messages
quiet_none now l e =
    none-due now l.used l.messages
    (λ i h. eqb-false (message_at l i).due now (not-true (eqb (message_at l i).due now) (all_at l.used i (λ i. not (eqb (message_at l i).due now)) e h)))

-- and nothing is heard
hears-none_due : (hear : Hearing) (me q now : ℕ) (ms : List Message) (x : Station) → All (λ (m : Message). m.due ≢ now) ms → heard_link hear me q now ms x ≡ x
unfolding heard_link
hears-none_due hear me q now [] x h = refl
hears-none_due hear me q now (m ∷ ms) x h = rw (ne_eqb m.due now h.0) (hears-none_due hear me q now ms x h.1)

-- what idle says
module _ (s : System) (e : idle s ≡ true) where
  quiet : (all_to s.n (λ k. quiet_station (next s) (station s (k + 1))) ≡ true)
      × (all_to s.n (λ j. all_to s.n (λ k. quiet_link (next s) (get_or s.links (place (j + 1) (k + 1)) no_link))) ≡ true)
  unfolding quiet_at
  quiet =
      both (all_to s.n (λ k. quiet_station (next s) (station s (k + 1))))
      (all_to s.n (λ j. all_to s.n (λ k. quiet_link (next s) (get_or s.links (place (j + 1) (k + 1)) no_link)))) e

  module _ (k : ℕ) (h : k < s.n) where
    quiet_at_lem : (not ((station s (k + 1)).up && eqb (station s (k + 1)).timer (next s)) ≡ true) × (not (eqb (station s (k + 1)).slot (next s)) ≡ true)
    unfolding quiet_station
    quiet_at_lem =
        both (not ((station s (k + 1)).up && eqb (station s (k + 1)).timer (next s))) (not (eqb (station s (k + 1)).slot (next s)))
        (all_at s.n k (λ k. quiet_station (next s) (station s (k + 1))) quiet.0 h)

    no_slot : eqb (station s (k + 1)).slot (next s) ≡ false
    no_slot = not-true (eqb (station s (k + 1)).slot (next s)) quiet_at_lem.1

    no_timer : (station s (k + 1)).up ≡ true → eqb (station s (k + 1)).timer (next s) ≡ false
    no_timer u =
        ap (λ b. b && eqb (station s (k + 1)).timer (next s)) (sym u)
        ∙ not-true ((station s (k + 1)).up && eqb (station s (k + 1)).timer (next s)) quiet_at_lem.0

  no_message_lem : (j k : ℕ) → j < s.n → k < s.n → All (λ (m : Message). m.due ≢ next s) (underway s (j + 1) (k + 1))
  no_message_lem j k l h =
      quiet_none (next s) (get_or s.links (place (j + 1) (k + 1)) no_link)
      (all_at s.n k (λ k. quiet_link (next s) (get_or s.links (place (j + 1) (k + 1)) no_link))
      (all_at s.n j (λ j. all_to s.n (λ k. quiet_link (next s) (get_or s.links (place (j + 1) (k + 1)) no_link))) quiet.1 l) h)

  -- so a station stays as it is, and sends nothing
  module _ (k : ℕ) (h : k < s.n) where
    hears-nothing : heard_by s (k + 1) (station s (k + 1)) ≡ station s (k + 1)
    unfolding heard_all
    hears-nothing =
        each_keeps (λ y. y ≡ station s (k + 1)) s.n (λ j. heard_link (hearing s) (k + 1) (j + 1) (next s) (underway s (j + 1) (k + 1))) (station s (k + 1))
        (λ j y l r. hears-none_due (hearing s) (k + 1) (j + 1) (next s) (underway s (j + 1) (k + 1)) y (no_message_lem j k l h) ∙ r) refl

    settled_same : settled s (k + 1) ≡ station s (k + 1)
    unfolding settled expired_now
    settled_same =
        cond_elim (λ y. y ≡ station s (k + 1)) (station s (k + 1)).up (λ u. rw (hears-nothing, no_timer k h u)) (λ u. refl)

    slotted-same : station_next s (k + 1) ≡ station s (k + 1)
    unfolding slotted_now
    slotted-same = rw (settled_same, no_slot k h)

    sends-nothing : sending s (k + 1) ≡ false
    unfolding sending
    sends-nothing = rw (settled_same, no_slot k h, and-false)

-- field by field
module _ (s : System) (full : Held s) (e : idle s ≡ true) where
  same-stations : (tick s).stations ≡ s.stations
  unfolding tick
  same-stations =
      ext_get_or no_station (up_to 8 f) s.stations (length-up_to 8 f ∙ sym full.stations)
      (λ k h. (let l : k < 8 = omega (arith, length-up_to 8 f) in get_d_up_to 8 f k no_station l ∙ go k (dec_lt k s.n)))
    where
      f : ℕ → Station
      f = seat_next s

      go : (k : ℕ) → Dec (k < s.n) → f k ≡ get_or s.stations k no_station
      go k (yes l) = let z : k + 1 - 1 ≡ k = omega arith in rw (lt-ltb k s.n l) (slotted-same s e k l ∙ ap (λ i. get_or s.stations i no_station) z)
      go k (no l) = rw (le-ltb k s.n (omega arith))

  same_sent : (tick s).sent ≡ s.sent
  unfolding tick
  same_sent =
      ext_get_or 0 (up_to 8 f) s.sent (length-up_to 8 f ∙ sym full.sent)
      (λ k h. (let l : k < 8 = omega (arith, length-up_to 8 f) in get_d_up_to 8 f k 0 l ∙ go k (dec_lt k s.n)))
    where
      f : ℕ → ℕ
      f = sent_next s

      go : (k : ℕ) → Dec (k < s.n) → f k ≡ get_or s.sent k 0
      go k (yes l) = rw (sends-nothing s e k l, and-false)
      go k (no l) = rw (le-ltb k s.n (omega arith))

  -- the messages under way from p to q stay, and none is added
  none-underway : (p q : ℕ) → In s.n p → In s.n q → All (λ (m : Message). m.due ≢ next s) (underway s p q)
  none-underway p q hp hq =
      let a : p - 1 + 1 ≡ p = omega (arith, hp.low) in
      let b : q - 1 + 1 ≡ q = omega (arith, hq.low) in
      subst₂ (λ x y. All (λ (m : Message). m.due ≢ next s) (underway s x y)) a b
      (no_message_lem s e (p - 1) (q - 1) (omega (arith, hp.low, hp.high)) (omega (arith, hq.low, hq.high)))

  none-sent : (p : ℕ) → In s.n p → sending s p ≡ false
  none-sent p hp =
      let a : p - 1 + 1 ≡ p = omega (arith, hp.low) in
      subst (λ x. sending s x ≡ false) a (sends-nothing s e (p - 1) (omega (arith, hp.low, hp.high)))

  same-underway : (p q : ℕ) → In s.n p → In s.n q → underway_after s p q ≡ underway s p q
  unfolding sent
  same-underway p q hp hq = rw (later-none (next s) (underway s p q) (none-underway p q hp hq), none-sent p hp) (append-nil (underway s p q))

  same-links : (tick s).links ≡ s.links
  unfolding tick
  same-links =
      ext_get_or no_link (up_to 64 f) s.links (length-up_to 64 f ∙ sym full.links)
      (λ k h. (let l : k < 64 = omega (arith, length-up_to 64 f) in get_d_up_to 64 f k no_link l ∙ go k l (is_link s.n (from k) (to k)) refl))
    where
      f : ℕ → Link
      f = link_next s

      go : (k : ℕ) → k < 64 → (b : Bool) → is_link s.n (from k) (to k) ≡ b → cond b (holding (underway_after s (from k) (to k))) (get_or s.links k no_link) ≡ get_or s.links k no_link
      go k h true i =
          let (hp, hq, ne) = link-of s.n (from k) (to k) (omega arith) (omega arith) i in
          ap holding (same-underway (from k) (to k) hp hq)
          ∙ ap (λ x. holding (messages (get_or s.links x no_link))) (place_of k h)
          ∙ full.held k h i
      go k h false i = refl

pub idle-held : IdleHeld
unfolding tick at_tick
idle-held s full e =
    λ i. renewed (next s) (same-stations s full e i) (same_sent s full e i) s.delays (same-links s full e i) s.ranks s

-- whatever the counter
pub held_at : (t : ℕ) (s : System) → Held s → Held (at_tick t s)
unfolding at_tick
held_at t s full = record { stations = full.stations; sent = full.sent; links = full.links; held = full.held }

pub idle-ticks : IdleTicks
unfolding ticks quiet_at at_tick
idle-ticks zero s full h = let z : s.tick + 0 ≡ s.tick = omega arith in rw z refl
idle-ticks (suc k) s full h =
    let z : next s + k ≡ s.tick + suc k = omega arith in
    ap (ticks k) (idle-held s full (h (next s) (omega arith) (omega arith)))
    ∙ idle-ticks k (at_tick (next s) s) (held_at (next s) s full) (λ now a b. h now (omega arith) (omega arith))
    ∙ ap (λ t. at_tick t s) z

-- up to which tick ticks only raise the counter: none yet; while nothing is due; after some of them
pub still_none : (s : System) → Still 0 s
unfolding ticks at_tick
still_none s k h =
    let z : k ≡ 0 = omega arith in
    let i : s.tick + 0 ≡ s.tick = omega arith in
    rw (z, i) refl

pub still_quiet : (until : ℕ) (s : System) → Held s → ((now : ℕ) → s.tick < now → now ≤ until → quiet_at now s ≡ true) → Still until s
still_quiet until s full h k b = idle-ticks k s full (λ now a d. h now a (omega arith))

pub still_on : (until k : ℕ) (s : System) → s.tick + k ≤ until → Still until s → Still until (at_tick (s.tick + k) s)
unfolding at_tick
still_on until k s h still j b =
    let z : s.tick + (k + j) ≡ s.tick + k + j = omega arith in
    ap (ticks j) (sym (still k h)) ∙ ticks-add k j s ∙ still (k + j) (omega arith) ∙ ap (λ t. at_tick t s) z

-- what a tick leaves
pub tick-held : TickHeld
unfolding tick
tick-held s =
    record {
      stations = length-up_to 8 (seat_next s);
      sent = length-up_to 8 (sent_next s);
      links = length-up_to 64 link;
      held = λ k h i. subst (λ l. holding (messages l) ≡ l) (sym (at k h i)) (ap holding (messages-held (underway_after s (from k) (to k))));
    }
  where
    link : ℕ → Link
    link k = cond (is_link s.n (from k) (to k)) (holding (underway_after s (from k) (to k))) (get_or s.links k no_link)

    at : (k : ℕ) → k < 64 → is_link s.n (from k) (to k) ≡ true → get_or (up_to 64 link) k no_link ≡ holding (underway_after s (from k) (to k))
    at k h i = get_d_up_to 64 link k no_link h ∙ rw i
