-- (c) as the code goes: sender by sender, each from link to link.
use mathlib.Core.Path.{◌≡◌, refl, sym, ap, subst, ◌∙◌}
use mathlib.Core.List.{List, [], ◌∷◌, ◌++◌, append-nil}
use mathlib.Core.Bool.{Bool, true, false, cond, not, ◌&&◌, and-false}
use Prim.Native.Nat.{ℕ, ◌+◌, ◌-◌, ◌*◌, ◌/◌, ◌%◌, ◌<◌, ◌≤◌}
use native.Mathlib.Decide.{dec_lt, ℕ_discrete}
use native.Mathlib.Omega.{arith}
use lib.Dec.{ltb, eqb}
use lib.ListN.{length, get_or, set}
use lib.Seq.{set-get_or, get_or-set_same}
use borrow.Author.Count.{below_more}
use borrow.Author.Tests.{le-ltb, eq-eqb, ne_eqb, eqb-false, not-true}
use Rattle.clock.specs.Rules.{carried}
use Rattle.election.specs.Heads.{slotting_of, slotting}
use Rattle.lists.specs.Entries.{firsts}
use Rattle.lists.proofs.Bools.{both, cond_yes, cond_no}
use Rattle.lists.proofs.Entries.{firsts-zero, firsts-turn, firsts-beyond, firsts-idle, length-firsts}
use Rattle.station.specs.declared.Station.{Station}
use Rattle.election.specs.Idle.{quiet_station, quiet_link}
use Rattle.election.specs.System.{no_station, no_link, from, to, messages, holding, is_link, with_links, with_stations, with_sent, renewed, places}
use Rattle.election.specs.Tick.{slotted_now}
use Rattle.election.specs.declared.Link.{Link}
use Rattle.election.specs.declared.Message.{Message}
use Rattle.election.specs.declared.System.{System}
use Rattle.election.proofs.Places.{is-link, seat_in}
use Rattle.election.proofs.Soundness.{no_self}
use Rattle.ticks.specs.Sending.{sent_over}
use Rattle.ticks.specs.Chances.{sends_at, station_after, sent_after, new_link, link_after, sent_to, Mid, Part}

pub part_none : (n now : ℕ) (m : System) (until : ℕ) → Mid n now m → ((t j : ℕ) → now < t → t ≤ until → j < 64 → quiet_link t (get_or m.links j no_link) ≡ true)
    → Part n now m until m 0 0 0
unfolding sent_to
part_none n now m until f calm =
    record {
      mid = f;
      same = λ i. renewed m.tick (firsts-zero (station_after now m) m.stations i) (firsts-zero (sent_after now m) m.sent i) m.delays (firsts-zero (link_after n now m) m.links i) m.ranks m;
      calm_stations = λ t j a b h. absurd (omega arith);
      calm_links = λ t j a b h. absurd (omega arith);
      calm_kept = calm;
    }

module _ (n now : ℕ) (m : System) (until : ℕ) (s : System) (p c k : ℕ) (a : Part n now m until s p c k) where
  -- what the code reads is still as it was
  pub part_beyond : (j : ℕ) → p ≤ j → get_or s.stations j no_station ≡ get_or m.stations j no_station
  unfolding sent_to
  part_beyond j h =
      let z : p + (j - p) ≡ j = omega arith in
      ap (λ (x : System). get_or x.stations j no_station) a.same ∙ rw z at (firsts-beyond p (j - p) (station_after now m) m.stations no_station)

  part_station : get_or s.stations p no_station ≡ get_or m.stations p no_station
  part_station = part_beyond p (omega arith)

  pub part_sent : get_or s.sent c 0 ≡ get_or m.sent c 0
  unfolding sent_to
  part_sent =
      let z : c + 0 ≡ c = omega arith in
      ap (λ (x : System). get_or x.sent c 0) a.same ∙ rw z at (firsts-beyond c 0 (sent_after now m) m.sent 0)

  part_link : get_or s.links k no_link ≡ get_or m.links k no_link
  unfolding sent_to
  part_link =
      let z : k + 0 ≡ k = omega arith in
      ap (λ (x : System). get_or x.links k no_link) a.same ∙ rw z at (firsts-beyond k 0 (link_after n now m) m.links no_link)

  part_delays : s.delays ≡ m.delays
  unfolding sent_to
  part_delays = ap (λ (x : System). x.delays) a.same

  pub part_n : s.n ≡ m.n
  unfolding sent_to
  part_n = ap (λ (x : System). x.n) a.same

  pub part_period : s.period ≡ m.period
  unfolding sent_to
  part_period = ap (λ (x : System). x.period) a.same

  pub part_clock : s.clock ≡ m.clock
  unfolding sent_to
  part_clock = ap (λ (x : System). x.clock) a.same

  -- a link is stored
  part_stores : (until' : ℕ) (v : Link) → k < 64 → until' ≤ until → v ≡ link_after n now m k → ((t : ℕ) → now < t → t ≤ until' → quiet_link t v ≡ true)
      → Part n now m until' (with_links (set s.links k v) s) p c (k + 1)
  unfolding sent_to
  part_stores until' v h le e calm =
      record {
        mid = a.mid;
        same =
            ap (λ (x : System). with_links (set x.links k v) x) a.same
            ∙ ap (λ ls. with_links ls (sent_to n now m p c k)) (firsts-turn k (link_after n now m) m.links (firsts k (link_after n now m) m.links) v (omega (arith, a.mid.links-long)) refl e);
        calm_stations = λ t j b d. a.calm_stations t j b (omega arith);
        calm_links = λ t j b d. below_more (λ j. quiet_link t (link_after n now m j) ≡ true) k (λ i. a.calm_links t i b (omega arith)) (subst (λ l. quiet_link t l ≡ true) e (calm t b d)) j;
        calm_kept = λ t j b d. a.calm_kept t j b (omega arith);
      }

  -- links stay as they are
  part_leaves : (j : ℕ) → k ≤ j → j ≤ 64 → ((i : ℕ) → k ≤ i → i < j → link_after n now m i ≡ get_or m.links i no_link) → Part n now m until s p c j
  unfolding sent_to
  part_leaves j le h f =
      record {
        mid = a.mid;
        same =
            a.same
            ∙ ap (λ ls. with_links ls (sent_to n now m p c k)) (firsts-idle k j (link_after n now m) m.links no_link le (omega (arith, a.mid.links-long)) f);
        calm_stations = a.calm_stations;
        calm_links = λ t i b d l. go t b d i l (dec_lt i k);
        calm_kept = a.calm_kept;
      }
    where
      go : (t : ℕ) → now < t → t ≤ until → (i : ℕ) → i < j → Dec (i < k) → quiet_link t (link_after n now m i) ≡ true
      go t b d i l (yes e) = a.calm_links t i b d e
      go t b d i l (no e) = rw (f i (omega arith) l) (a.calm_kept t i b d (omega arith))

  -- a sent count is stored, or stays
  counted : (v : ℕ) → c < 8 → v ≡ sent_after now m c → Part n now m until (with_sent (set s.sent c v) s) p (c + 1) k
  unfolding sent_to
  counted v h e =
      record {
        mid = a.mid;
        same =
            ap (λ (z : System). with_sent (set z.sent c v) z) a.same
            ∙ ap (λ cs. with_sent cs (sent_to n now m p c k)) (firsts-turn c (sent_after now m) m.sent (firsts c (sent_after now m) m.sent) v (omega (arith, a.mid.sent-long)) refl e);
        calm_stations = a.calm_stations;
        calm_links = a.calm_links;
        calm_kept = a.calm_kept;
      }

  pub part_counts : (v : ℕ) (y : System) → c < 8 → sends_at now m c ≡ true → v ≡ get_or s.sent c 0 + (s.n - 1) → y ≡ with_sent (set s.sent c v) s → Part n now m until y p (c + 1) k
  unfolding sent_after
  part_counts v y h sends e g =
      rw g (counted v h (e ∙ ap (λ (x : ℕ). x + (s.n - 1)) part_sent ∙ ap (λ (x : ℕ). get_or m.sent c 0 + (x - 1)) part_n ∙ sym (cond_yes {b = sends_at now m c} _ _ sends)))

  pub part_silent : c < 8 → sends_at now m c ≡ false → Part n now m until s p (c + 1) k
  unfolding sent_after
  part_silent h silent =
      subst (λ cs. Part n now m until (with_sent cs s) p (c + 1) k) (set-get_or s.sent c 0)
      (counted (get_or s.sent c 0) h (part_sent ∙ sym (cond_no {b = sends_at now m c} (get_or m.sent c 0 + (m.n - 1)) (get_or m.sent c 0) silent)))

  -- a station is stored, or stays
  stationed : (until' : ℕ) (v : Station) → p < 8 → until' ≤ until → v ≡ station_after now m p → ((t : ℕ) → now < t → t ≤ until' → quiet_station t v ≡ true)
      → Part n now m until' (with_stations (set s.stations p v) s) (p + 1) c k
  unfolding sent_to
  stationed until' v h le e calm =
      record {
        mid = a.mid;
        same =
            ap (λ (z : System). with_stations (set z.stations p v) z) a.same
            ∙ ap (λ xs. with_stations xs (sent_to n now m p c k)) (firsts-turn p (station_after now m) m.stations (firsts p (station_after now m) m.stations) v (omega (arith, a.mid.stations-long)) refl e);
        calm_stations = λ t j b d. below_more (λ j. quiet_station t (station_after now m j) ≡ true) p (λ i. a.calm_stations t i b (omega arith)) (subst (λ z. quiet_station t z ≡ true) e (calm t b d)) j;
        calm_links = λ t j b d. a.calm_links t j b (omega arith);
        calm_kept = λ t j b d. a.calm_kept t j b (omega arith);
      }

  pub part_long : p ≤ 8 → length s.stations ≡ 8
  unfolding sent_to
  part_long h = rw a.same (omega (arith, length-firsts p (station_after now m) m.stations (omega (arith, a.mid.stations-long)), a.mid.stations-long))

  pub part_slots : (until' : ℕ) (v : Station) (y : System) → p < 8 → until' ≤ until → (get_or s.stations p no_station).slot ≡ now → v ≡ slotting_of s.clock (p + 1) s.period now (get_or s.stations p no_station)
      → y ≡ with_stations (set s.stations p v) s → ((t : ℕ) → now < t → t ≤ until' → quiet_station t (get_or y.stations p no_station) ≡ true) → Part n now m until' y (p + 1) c k
  unfolding station_after slotted_now
  part_slots until' v y h le due e g calm =
      rw g
      (stationed until' v h le
      (e ∙ ap (λ b. slotting_of b (p + 1) s.period now (get_or s.stations p no_station)) part_clock ∙ ap (λ (x : ℕ). slotting_of m.clock (p + 1) x now (get_or s.stations p no_station)) part_period ∙ sym (cond_yes {b = eqb (get_or s.stations p no_station).slot now} _ _ (eq-eqb _ _ due)) ∙ ap (slotted_now (slotting m (p + 1) now) now) part_station)
      (λ t b d. subst (λ x. quiet_station t x ≡ true) (ap (λ (z : System). get_or z.stations p no_station) g ∙ get_or-set_same s.stations p v no_station (omega (arith, part_long (omega arith)))) (calm t b d)))

  pub part_waits : (until' : ℕ) (y : System) → p < 8 → until' ≤ until → ((get_or s.stations p no_station).slot ≡ now → ⊥) → y ≡ s → ((t : ℕ) → now < t → t ≤ until' → quiet_station t (get_or y.stations p no_station) ≡ true)
      → Part n now m until' y (p + 1) c k
  unfolding station_after slotted_now
  part_waits until' y h le due g calm =
      rw (g, ← set-get_or s.stations p no_station)
      (stationed until' (get_or s.stations p no_station) h le
      (sym (cond_no {b = eqb (get_or s.stations p no_station).slot now} (slotting m (p + 1) now (get_or s.stations p no_station)) (get_or s.stations p no_station) (ne_eqb _ _ due)) ∙ ap (slotted_now (slotting m (p + 1) now) now) part_station)
      (λ t b d. subst (λ (z : System). quiet_station t (get_or z.stations p no_station) ≡ true) g (calm t b d)))

-- places with no link
module _ (n k : ℕ) where
  pub no_receiver : n ≤ k % 8 → is_link n (from k) (to k) ≡ false
  no_receiver h = rw (le-ltb (to k - 1) n (omega arith)) (none (ltb (from k - 1) n) (not (eqb (from k) (to k))))
    where
      none : (a b : Bool) → (a && false && b) ≡ false
      none true b = refl
      none false b = refl

  pub no_sender : n ≤ k / 8 → is_link n (from k) (to k) ≡ false
  no_sender h = rw (le-ltb (from k - 1) n (omega arith)) refl

pub unlinked : (n now : ℕ) (m : System) (k : ℕ) → is_link n (from k) (to k) ≡ false → link_after n now m k ≡ get_or m.links k no_link
unfolding link_after
unlinked n now m k e = ap (λ b. cond b (new_link now m (k / 8) k) (get_or m.links k no_link)) e

-- the place of a link between two stations
module _ (n p q : ℕ) (hn : n ≤ 8) (hp : p < n) (hq : q < n) where
  sender : from (8 * p + q) ≡ p + 1
  sender = omega arith

  receiver : to (8 * p + q) ≡ q + 1
  receiver = omega arith

  pub linked : (p ≡ q → ⊥) → is_link n (from (8 * p + q)) (to (8 * p + q)) ≡ true
  linked ne = rw (sender, receiver) (is-link n (p + 1) (q + 1) (seat_in n p hp) (seat_in n q hq) (λ e. ne (let h : p ≡ q = omega arith in h)))

  pub self : p ≡ q → is_link n (from (8 * p + q)) (to (8 * p + q)) ≡ false
  self e = rw (sender, receiver) (subst (λ x. is_link n (p + 1) (x + 1) ≡ false) e (no_self n (p + 1)))

-- a link over which nothing is sent
module _ (n now : ℕ) (m : System) (mid : Mid n now m) (p k : ℕ) (hk : k < 64) (row : k / 8 ≡ p) where
  linked_after : is_link n (from k) (to k) ≡ true → link_after n now m k ≡ new_link now m p k
  unfolding link_after
  linked_after i = ap (λ b. cond b (new_link now m (k / 8) k) (get_or m.links k no_link)) i ∙ ap (λ r. new_link now m r k) row

  nothing_sent : (sends_at now m p && not (eqb (get_or m.delays k 0) 0)) ≡ false → link_after n now m k ≡ get_or m.links k no_link
  nothing_sent none = go (is_link n (from k) (to k)) refl
    where
      go : (b : Bool) → is_link n (from k) (to k) ≡ b → link_after n now m k ≡ get_or m.links k no_link
      go true i =
          linked_after i ∙ ap (λ ms. holding (messages (get_or m.links k no_link) ++ ms)) (cond_no _ _ none)
          ∙ ap holding (append-nil (messages (get_or m.links k no_link))) ∙ mid.held k hk i
      go false i = unlinked n now m k i

module _ (n now : ℕ) (m : System) (until : ℕ) (s : System) (p : ℕ) (hp : p < n) where
  -- past the last station of a row
  pub part_row : Part n now m until s p p (8 * p + n) → Part n now m until s p p (8 * (p + 1))
  part_row a =
      part_leaves n now m until s p p (8 * p + n) a (8 * (p + 1)) (omega (arith, a.mid.n-high)) (omega (arith, a.mid.n-high))
      (λ i b d. unlinked n now m i (no_receiver n i (omega (arith, a.mid.n-high))))

  -- the row of a station that does not send
  pub part_rests : Part n now m until s p p (8 * p) → sends_at now m p ≡ false → Part n now m until s p p (8 * (p + 1))
  part_rests a silent =
      part_leaves n now m until s p p (8 * p) a (8 * (p + 1)) (omega arith) (omega (arith, a.mid.n-high))
      (λ i b d. nothing_sent n now m a.mid p i (omega (arith, a.mid.n-high)) (omega arith) (ap (λ x. x && not (eqb (get_or m.delays i 0) 0)) silent))

  module _ (q : ℕ) (hq : q < n) (a : Part n now m until s p p (8 * p + q)) where
    k_low : 8 * p + q < 64
    k_low = omega (arith, a.mid.n-high)

    row : (8 * p + q) / 8 ≡ p
    row = omega (arith, a.mid.n-high)

    -- no link, or one that is cut
    pub part_skips : (d : ℕ) → d ≡ get_or s.delays (8 * p + q) 0 → (not (eqb p q) && not (eqb d 0)) ≡ false → Part n now m until s p p (8 * p + (q + 1))
    part_skips d e f =
        part_leaves n now m until s p p (8 * p + q) a (8 * p + (q + 1)) (omega arith) (omega (arith, a.mid.n-high))
        (λ i b c. (let h : 8 * p + q ≡ i = omega arith in subst (λ i. link_after n now m i ≡ get_or m.links i no_link) h (at (ℕ_discrete p q))))
      where
        at : Dec (p ≡ q) → link_after n now m (8 * p + q) ≡ get_or m.links (8 * p + q) no_link
        at (yes e) = unlinked n now m (8 * p + q) (self n p q a.mid.n-high hp hq e)
        at (no ne) =
            nothing_sent n now m a.mid p (8 * p + q) k_low row
            (ap (λ (x : ℕ). sends_at now m p && not (eqb x 0)) (ap (λ (l : List ℕ). get_or l (8 * p + q) 0) (sym (part_delays n now m until s p p (8 * p + q) a)) ∙ sym e)
            ∙ ap (λ b. sends_at now m p && b) (ap (λ b. not b && not (eqb d 0)) (sym (ne_eqb p q ne)) ∙ f) ∙ and-false (sends_at now m p))

    -- a link over which a message is sent
    module _ (d : ℕ) (e : d ≡ get_or s.delays (8 * p + q) 0) (test : (not (eqb p q) && not (eqb d 0)) ≡ true) (sends : sends_at now m p ≡ true) (counts : List ℕ) (ec : counts ≡ (get_or m.stations p no_station).recovered) (stamp : ℕ) (ez : stamp ≡ carried (get_or m.stations p no_station)) where
      differ : p ≡ q → ⊥
      differ = eqb-false p q (not-true (eqb p q) (both (not (eqb p q)) (not (eqb d 0)) test).0)

      abbrev message : Message
      message = record { sent = now; due = now + d; counts = counts; stamp = stamp }

      message-is : sent_over now (sends_at now m p) (get_or m.delays (8 * p + q) 0) (get_or m.stations p no_station) ≡ message ∷ []
      message-is =
          ap (λ (x : ℕ). sent_over now (sends_at now m p) x (get_or m.stations p no_station)) (ap (λ (l : List ℕ). get_or l (8 * p + q) 0) (sym (part_delays n now m until s p p (8 * p + q) a)) ∙ sym e)
          ∙ cond_yes _ _ (ap (λ b. b && not (eqb d 0)) sends ∙ (both (not (eqb p q)) (not (eqb d 0)) test).1)
          ∙ (λ i. record { sent = now; due = now + d; counts = sym ec i; stamp = sym ez i } ∷ [])

      link-is : get_or m.links (8 * p + q) no_link ≡ get_or s.links (8 * p + q) no_link
      link-is = sym (part_link n now m until s p p (8 * p + q) a)

      pub sent-room : length (messages (get_or s.links (8 * p + q) no_link) ++ (message ∷ [])) ≤ places
      sent-room =
          subst (λ ms. length (messages (get_or s.links (8 * p + q) no_link) ++ ms) ≤ places) message-is
          (subst (λ l. length (messages l ++ sent_over now (sends_at now m p) (get_or m.delays (8 * p + q) 0) (get_or m.stations p no_station)) ≤ places) link-is (a.mid.room p q hp hq differ))

      pub sent-held : holding (messages (get_or s.links (8 * p + q) no_link)) ≡ get_or s.links (8 * p + q) no_link
      sent-held = subst (λ l. holding (messages l) ≡ l) link-is (a.mid.held (8 * p + q) k_low (linked n p q a.mid.n-high hp hq differ))

      pub sent-quiet : (t : ℕ) → now < t → t ≤ until → quiet_link t (get_or s.links (8 * p + q) no_link) ≡ true
      sent-quiet t b c = subst (λ l. quiet_link t l ≡ true) link-is (a.calm_kept t (8 * p + q) b c k_low)

      pub part_next : (until' u : ℕ) (v : Link) (y : System) → v ≡ holding (messages (get_or s.links (8 * p + q) no_link) ++ (message ∷ [])) → y ≡ with_links (set s.links (8 * p + q) v) s → u ≡ until' → until' ≤ until
          → ((t : ℕ) → now < t → t ≤ until' → quiet_link t v ≡ true) → Part n now m u y p p (8 * p + (q + 1))
      part_next until' u v y g i j le calm =
          let z : 8 * p + (q + 1) ≡ 8 * p + q + 1 = omega arith in
          rw (i, j, z)
          (part_stores n now m until s p p (8 * p + q) a until' v k_low le
          (g ∙ ap (λ l. holding (messages l ++ (message ∷ []))) (sym link-is) ∙ ap (λ ms. holding (messages (get_or m.links (8 * p + q) no_link) ++ ms)) (sym message-is)
          ∙ sym (linked_after n now m a.mid p (8 * p + q) k_low row (linked n p q a.mid.n-high hp hq differ)))
          calm)
