-- (a), (b) and (c) as the code goes through them are a tick.
use mathlib.Core.Path.{◌≡◌, refl, sym, ap, subst, ◌∙◌}
use mathlib.Core.List.{List, ◌++◌}
use mathlib.Core.Bool.{Bool, true, false, cond, ◌&&◌}
use Prim.Native.Nat.{ℕ, ◌+◌, ◌-◌, ◌*◌, ◌/◌, ◌<◌, ◌≤◌}
use native.Mathlib.Decide.{dec_lt}
use native.Mathlib.Omega.{arith}
use lib.Dec.{ltb}
use lib.ListN.{length, get_or}
use borrow.Author.Tests.{lt-ltb, le-ltb}
use Rattle.station.specs.Limits.{last_tick, longest}
use Rattle.election.specs.Heads.{slotting}
use Rattle.lists.proofs.Entries.{up_to-same, firsts-get, firsts-beyond, firsts-cond, firsts-idle, length-firsts}
use Rattle.lists.proofs.Test.{all_of}
use Rattle.lists.specs.Test.{all_to}
use Rattle.station.specs.declared.Station.{Station}
use Rattle.election.specs.Idle.{quiet_station, quiet_link, quiet_at, Held}
use Rattle.election.specs.System.{at_tick, no_station, no_link, station, place, from, to, messages, holding, is_link, with_links, renewed, places}
use Rattle.election.specs.Tick.{slotted_now, settled, sending, later, sent, underway_after, tick, seat_next}
use Rattle.election.specs.declared.Link.{Link}
use Rattle.election.specs.declared.System.{System}
use Rattle.election.proofs.Places.{tick-n, messages-held}
use Rattle.election.proofs.Soundness.{link-of, place_of}
use Rattle.election.proofs.TickSound.{after-few}
use Rattle.ticks.specs.Sending.{Ticking, sent_over, sends_now}
use Rattle.ticks.proofs.After.{no_sender, unlinked, linked, part_none}
use Rattle.ticks.proofs.Hearing.{settled_to, settled-all}
use Rattle.ticks.proofs.Ready.{is, sent-at, chance-safe}
use Rattle.ticks.proofs.Taken.{kept-yes, kept-no, taken-links, taken-calm}
use Rattle.ticks.specs.Chances.{sends_at, station_after, sent_after, new_link, link_after, sent_to, Mid, Part, ended_to}
use Rattle.ticks.specs.Delivering.{Hearing, link_kept, Taken}

-- the system after (a) and (b), its links without what was due now
module _ (s : System) (ticking : Ticking s) (held : Held s) (ls : List Link) (long : length ls ≡ 64) (kept : (k : ℕ) → k < 64 → get_or ls k no_link ≡ link_kept s.n (s.tick + 1) s k) where
  mid : System
  mid = with_links ls (settled_to s s.n)

  now : ℕ
  now = s.tick + 1

  mid_at : (k : ℕ) → k < s.n → get_or mid.stations k no_station ≡ settled s (k + 1)
  unfolding settled_to mid
  mid_at k h = firsts-get s.n (λ k. settled s (k + 1)) s.stations k no_station h

  mid_beyond : (k : ℕ) → s.n ≤ k → get_or mid.stations k no_station ≡ get_or s.stations k no_station
  unfolding settled_to mid
  mid_beyond k h =
      let e : s.n + (k - s.n) ≡ k = omega arith in
      rw e at (firsts-beyond s.n (k - s.n) (λ k. settled s (k + 1)) s.stations no_station)

  sends-is : (k : ℕ) → k < s.n → sends_at now mid k ≡ sending s (k + 1)
  unfolding sending settled_to mid now
  sends-is k h = ap (sends_now s.clock (k + 1) (s.tick + 1)) (mid_at k h)

  mid_long : length mid.stations ≡ 8
  unfolding settled_to mid
  mid_long = length-firsts s.n (λ k. settled s (k + 1)) s.stations (omega (arith, held.stations, (is s ticking).n-high)) ∙ held.stations

  -- what a link holds is what was not due
  module _ (k : ℕ) (h : k < 64) (i : is_link s.n (from k) (to k) ≡ true) where
    link-few : length (underway_after s (from k) (to k)) ≤ places
    link-few = let (hp, hq, ne) = link-of s.n (from k) (to k) (omega arith) (omega arith) i in after-few s (is s ticking) ticking.room (from k) (to k) hp hq ne

    kept-is : get_or ls k no_link ≡ holding (later (s.tick + 1) (messages (get_or s.links k no_link)))
    kept-is = kept k h ∙ kept-yes s.n (s.tick + 1) s k i

    kept-messages : messages (get_or ls k no_link) ≡ later (s.tick + 1) (messages (get_or s.links k no_link))
    kept-messages = ap messages kept-is ∙ messages-held (later (s.tick + 1) (messages (get_or s.links k no_link)))

    after_is : messages (get_or ls k no_link) ++ sent_over (s.tick + 1) (sends_at (s.tick + 1) mid (k / 8)) (get_or s.delays k 0) (get_or mid.stations (k / 8) no_station) ≡ underway_after s (from k) (to k)
    unfolding sent now
    after_is =
        let (hp, hq, ne) = link-of s.n (from k) (to k) (omega arith) (omega arith) i in
        let l : k / 8 < s.n = omega (arith, hp.high) in
        ap (λ ms. ms ++ sent_over (s.tick + 1) (sends_at (s.tick + 1) mid (k / 8)) (get_or s.delays k 0) (get_or mid.stations (k / 8) no_station)) kept-messages
        ∙ ap (λ b. later (s.tick + 1) (messages (get_or s.links k no_link)) ++ sent_over (s.tick + 1) b (get_or s.delays k 0) (get_or mid.stations (k / 8) no_station)) (sends-is (k / 8) l)
        ∙ ap (λ (x : Station). later (s.tick + 1) (messages (get_or s.links k no_link)) ++ sent_over (s.tick + 1) (sending s (from k)) (get_or s.delays k 0) x) (mid_at (k / 8) l)
        ∙ ap (λ x. later (s.tick + 1) (messages (get_or s.links x no_link)) ++ sent_over (s.tick + 1) (sending s (from k)) (get_or s.delays x 0) (settled s (from k))) (sym (place_of k h))

  mid_ready : Mid s.n (s.tick + 1) (with_links ls (settled_to s s.n))
  unfolding settled_to mid
  mid_ready =
      record {
        size = refl;
        n-low = (is s ticking).n-low;
        n-high = (is s ticking).n-high;
        early = omega (arith, ticking.room);
        period-high = (is s ticking).period-high;
        stations-long = mid_long;
        sent-long = held.sent;
        links-long = long;
        sent-low = λ p h. (sent-at s ticking p h).2;
        safe = λ p h due. subst (λ (x : Station). x.timeout ≤ longest last_tick) (sym (mid_at p h)) (chance-safe s ticking p h (ap (λ (x : Station). x.slot) (sym (mid_at p h)) ∙ due));
        room = λ p q hp hq ne.
            let h : 8 * p + q < 64 = omega (arith, (is s ticking).n-high) in
            let z : (8 * p + q) / 8 ≡ p = omega (arith, (is s ticking).n-high) in
            let i : is_link s.n (from (8 * p + q)) (to (8 * p + q)) ≡ true = linked s.n p q (is s ticking).n-high hp hq ne in
            subst (λ j. length (messages (get_or ls (8 * p + q) no_link) ++ sent_over (s.tick + 1) (sends_at (s.tick + 1) mid j) (get_or s.delays (8 * p + q) 0) (get_or mid.stations j no_station)) ≤ places) z
            (subst (λ ms. length ms ≤ places) (sym (after_is (8 * p + q) h i)) (link-few (8 * p + q) h i));
        held = λ k h i. subst (λ l. holding (messages l) ≡ l) (sym (kept-is k h i)) (ap holding (messages-held (later (s.tick + 1) (messages (get_or s.links k no_link)))));
      }

  done : System
  done = sent_to s.n now mid s.n s.n (8 * s.n)

  stations-done : done.stations ≡ (tick s).stations
  unfolding tick sent_to settled_to station_after done mid now
  stations-done =
      firsts-cond s.n 8 (station_after now mid) mid.stations no_station mid_long (is s ticking).n-high
      ∙ up_to-same 8 _ _ (λ k h. go k (dec_lt k s.n))
    where
      go : (k : ℕ) → Dec (k < s.n) → cond (ltb k s.n) (station_after now mid k) (get_or mid.stations k no_station) ≡ seat_next s k
      go k (yes l) = rw (lt-ltb k s.n l) (ap (slotted_now (slotting s (k + 1) (s.tick + 1)) (s.tick + 1)) (mid_at k l))
      go k (no l) = rw (le-ltb k s.n (omega arith)) (mid_beyond k (omega arith))

  sent-done : done.sent ≡ (tick s).sent
  unfolding tick sent_to settled_to sent_after done mid now
  sent-done =
      firsts-cond s.n 8 (sent_after now mid) s.sent 0 held.sent (is s ticking).n-high
      ∙ up_to-same 8 _ _ (λ k h. go k (dec_lt k s.n))
    where
      go : (k : ℕ) → Dec (k < s.n) → cond (ltb k s.n) (sent_after now mid k) (get_or s.sent k 0) ≡ cond (ltb k s.n && sending s (k + 1)) (get_or s.sent k 0 + (s.n - 1)) (get_or s.sent k 0)
      go k (yes l) = rw (lt-ltb k s.n l) (ap (λ b. cond b (get_or s.sent k 0 + (s.n - 1)) (get_or s.sent k 0)) (sends-is k l))
      go k (no l) = rw (le-ltb k s.n (omega arith)) refl

  links-done : done.links ≡ (tick s).links
  unfolding tick sent_to settled_to link_after done mid now
  links-done =
      firsts-idle (8 * s.n) 64 (link_after s.n now mid) ls no_link (omega (arith, (is s ticking).n-high)) (omega (arith, long)) (λ k a b. past k (omega arith))
      ∙ firsts-cond 64 64 (link_after s.n now mid) ls no_link long (omega arith)
      ∙ up_to-same 64 _ _ (λ k h. ap (λ b. cond b (link_after s.n now mid k) (get_or ls k no_link)) (lt-ltb k 64 h) ∙ go k h (is_link s.n (from k) (to k)) refl)
    where
      past : (k : ℕ) → s.n ≤ k / 8 → link_after s.n now mid k ≡ get_or ls k no_link
      past k h = unlinked s.n now mid k (no_sender s.n k h)

      go : (k : ℕ) → k < 64 → (b : Bool) → is_link s.n (from k) (to k) ≡ b → link_after s.n now mid k ≡ cond b (holding (underway_after s (from k) (to k))) (get_or s.links k no_link)
      go k h true i = ap (λ b. cond b (new_link now mid (k / 8) k) (get_or ls k no_link)) i ∙ ap holding (after_is k h i)
      go k h false i = ap (λ b. cond b (new_link now mid (k / 8) k) (get_or ls k no_link)) i ∙ kept k h ∙ kept-no s.n (s.tick + 1) s k i

  whole-tick : (r : System) → r ≡ sent_to s.n (s.tick + 1) (with_links ls (settled_to s s.n)) s.n s.n (8 * s.n) → (until : ℕ) → at_tick until r ≡ at_tick until (tick s)
  unfolding at_tick tick sent_to settled_to done mid now
  whole-tick r e until =
      ap (at_tick until) e
      ∙ (λ i. renewed until (stations-done i) (sent-done i) s.delays (links-done i) s.ranks s)

  -- and nothing is due up to where the parts are calm
  module _ (r : System) (until : ℕ) (a : Part s.n (s.tick + 1) (with_links ls (settled_to s s.n)) until r s.n s.n (8 * s.n)) (t : ℕ) (h : s.tick + 1 < t) (i : t ≤ until) where
    station-calm : (k : ℕ) → k < s.n → quiet_station t (station (tick s) (k + 1)) ≡ true
    unfolding sent_to done mid now
    station-calm k l =
        let z : k ≡ k + 1 - 1 = omega arith in
        subst (λ x. quiet_station t x ≡ true)
        (sym (firsts-get s.n (station_after now mid) mid.stations k no_station l) ∙ ap (λ xs. get_or xs k no_station) stations-done ∙ ap (λ j. get_or (tick s).stations j no_station) z)
        (a.calm_stations t k h i l)

    link-calm : (j k : ℕ) → j < s.n → k < s.n → quiet_link t (get_or (tick s).links (place (j + 1) (k + 1)) no_link) ≡ true
    unfolding sent_to done mid now
    link-calm j k lj lk =
        let z : 8 * j + k ≡ 8 * (j + 1 - 1) + (k + 1 - 1) = omega arith in
        let l : 8 * j + k < 8 * s.n = omega (arith, (is s ticking).n-high) in
        subst (λ x. quiet_link t x ≡ true)
        (sym (firsts-get (8 * s.n) (link_after s.n now mid) mid.links (8 * j + k) no_link l) ∙ ap (λ xs. get_or xs (8 * j + k) no_link) links-done ∙ ap (λ j. get_or (tick s).links j no_link) z)
        (a.calm_links t (8 * j + k) h i l)

    whole-calm : quiet_at t (tick s) ≡ true
    unfolding quiet_at
    whole-calm =
        rw (tick-n s)
        (rw (all_of s.n (λ k. quiet_station t (station (tick s) (k + 1))) station-calm, all_of s.n (λ j. all_to s.n (λ k. quiet_link t (get_or (tick s).links (place (j + 1) (k + 1)) no_link))) (λ j lj. all_of s.n (λ k. quiet_link t (get_or (tick s).links (place (j + 1) (k + 1)) no_link)) (λ k lk. link-calm j k lj lk))))

-- the same as the code counts: s₀ is the system after (a), and stations are after (b) from then on
module _ (s : System) (n q until₀ : ℕ) (s₀ : System) (long : length s₀.links ≡ 64) (taken : Taken n (s.tick + 1) s until₀ s₀.links (8 * q)) (zq : q ≡ n) (h : Hearing s n 0 q s₀) where
  n-high : n ≤ 8
  n-high = omega (arith, taken.size, (is s taken.ticking).n-high)

  mid_is : with_links s₀.links (settled_to s s.n) ≡ ended_to n (s.tick + 1) s₀
  mid_is = settled-all s n q s₀ h zq taken.size n-high taken.held.stations

  links-kept : (k : ℕ) → k < 64 → get_or s₀.links k no_link ≡ link_kept s.n (s.tick + 1) s k
  links-kept = subst (λ n. (k : ℕ) → k < 64 → get_or s₀.links k no_link ≡ link_kept n (s.tick + 1) s k) (sym taken.size) (taken-links n (s.tick + 1) s until₀ s₀.links (8 * q) taken n-high (ap (λ k. 8 * k) zq))

  pub part_first : Part n (s.tick + 1) (ended_to n (s.tick + 1) s₀) until₀ (ended_to n (s.tick + 1) s₀) 0 0 0
  part_first =
      part_none n (s.tick + 1) (ended_to n (s.tick + 1) s₀) until₀
      (subst (λ k. Mid k (s.tick + 1) (ended_to n (s.tick + 1) s₀)) taken.size (subst (Mid s.n (s.tick + 1)) mid_is (mid_ready s taken.ticking taken.held s₀.links long links-kept)))
      (taken-calm n (s.tick + 1) s until₀ s₀.links (8 * q) taken n-high (ap (λ k. 8 * k) zq))

  module _ (r : System) (until : ℕ) (a : Part n (s.tick + 1) (ended_to n (s.tick + 1) s₀) until r n n (8 * n)) where
    all_parts : Part s.n (s.tick + 1) (with_links s₀.links (settled_to s s.n)) until r s.n s.n (8 * s.n)
    all_parts =
        subst (λ m. Part s.n (s.tick + 1) m until r s.n s.n (8 * s.n)) (sym mid_is)
        (subst (λ k. Part k (s.tick + 1) (ended_to n (s.tick + 1) s₀) until r k k (8 * k)) (sym taken.size) a)

    pub run-tick : at_tick until r ≡ at_tick until (tick s)
    run-tick = whole-tick s taken.ticking taken.held s₀.links long links-kept r all_parts.same until

    pub run-calm : (t : ℕ) → s.tick + 1 < t → t ≤ until → quiet_at t (tick s) ≡ true
    run-calm t h i = whole-calm s taken.ticking taken.held s₀.links long links-kept r until all_parts t h i
