-- The paper's order of a tick leaves the stations and the sent counts that the definition by station has: one seat is followed through the tick.
use mathlib.Core.Path.{◌≡◌, refl, sym, ap, subst, ◌∙◌}
use mathlib.Core.Logic.{◌≢◌}
use mathlib.Core.List.{List, [], ◌∷◌, ◌++◌, map}
use mathlib.Core.Bool.{Bool, true, false, cond, ◌&&◌}
use Prim.Native.Nat.{ℕ, zero, suc, ◌+◌, ◌-◌, ◌<◌, ◌≤◌}
use native.Mathlib.Decide.{dec_lt, ℕ_discrete}
use native.Mathlib.Omega.{arith}
use lib.ListN.{length, get_or, set, length-set, length-map}
use lib.Seq.{get_or-set_same, get_or-set_other, ext_get_or}
use lib.Dec.{ltb, eqb}
use borrow.Author.Tests.{lt-ltb, le-ltb}
use Rattle.lists.specs.Entries.{up_to}
use Rattle.lists.specs.Fold.{each}
use Rattle.lists.proofs.Bools.{cond_elim}
use Rattle.lists.proofs.Entries.{length-up_to, get_d_up_to}
use Rattle.lists.proofs.Fold.{each_keeps}
use Rattle.station.specs.declared.Station.{Station}
use Rattle.election.specs.Heads.{hearing, expiring, slotting}
use Rattle.election.specs.Order.{Mail, Desk, desk_of, ascending, due_now, Delivery, delivery, deliveries, delivered, delivered_all, timer_ends, sent_to, sent_to_all, sends_now, chance, after_deliveries, after_timers, after_chances, PaperOrder, PaperSent}
use Rattle.election.specs.System.{no_station, station_of, station, underway, messages}
use Rattle.election.specs.Tick.{next, heard_link, heard_all, expired_now, slotted_now, heard_by, settled, sending, station_next, seat_next, sent_next, tick}
use Rattle.election.specs.declared.Message.{Message}
use Rattle.election.specs.declared.System.{System}
use Rattle.election.proofs.Heads.{hearing-unchanged}
use Rattle.election.proofs.Steps.{heard_all-unchanged}

-- what is seen of steps, one after another
module _ {S T : Type 0} (see : S → T) where
  -- each step does to it what h does
  each_seen : (P : S → Type 0) (n : ℕ) (g : ℕ → S → S) (h : ℕ → T → T) (s : S)
      → ((k : ℕ) (r : S) → P r → see (g k r) ≡ h k (see r)) → ((k : ℕ) (r : S) → P r → P (g k r)) → P s → see (each n g s) ≡ each n h (see s)
  unfolding each
  each_seen P zero g h s e keep p = refl
  each_seen P (suc n) g h s e keep p =
      e n (each n g s) (each_keeps P n g s (λ k r l. keep k r) p) ∙ ap (h n) (each_seen P n g h s e keep p)

  -- step j alone changes it; P is what holds before a step
  module _ (P : ℕ → S → Type 0) (j : ℕ) (g : ℕ → S → S) (f : T → T) where
    pub seen_one : (n : ℕ) (s : S)
        → (j < n → (r : S) → P j r → see (g j r) ≡ f (see r)) → ((k : ℕ) (r : S) → k < n → k ≢ j → P k r → see (g k r) ≡ see r)
        → ((k : ℕ) (r : S) → k < n → P k r → P (suc k) (g k r)) → P 0 s → (see (each n g s) ≡ cond (ltb j n) (f (see s)) (see s)) × P n (each n g s)
    unfolding each
    seen_one zero s own other keep p = (rw (le-ltb j 0 (omega arith)), p)
    seen_one (suc n) s own other keep p =
        let (r, q) = seen_one n s (λ l. own (omega arith)) (λ k r l. other k r (omega arith)) (λ k r l. keep k r (omega arith)) p in
        (go (ℕ_discrete n j) q r, keep n (each n g s) (omega arith) q)
      where
        go : Dec (n ≡ j) → P n (each n g s) → see (each n g s) ≡ cond (ltb j n) (f (see s)) (see s) → see (g n (each n g s)) ≡ cond (ltb j (suc n)) (f (see s)) (see s)
        go (yes e) q r =
            let l : j < suc n = omega arith in
            subst (λ i. P i (each n g s) → see (g i (each n g s)) ≡ f (see (each n g s))) (sym e) (own l (each n g s)) q
            ∙ ap f (rw (le-ltb j n (omega arith)) at r)
            ∙ rw (lt-ltb j (suc n) l)
        go (no ne) q r = other n (each n g s) (omega arith) ne q ∙ r ∙ ap (λ b. cond b (f (see s)) (see s)) (same (dec_lt j n))
          where
            same : Dec (j < n) → ltb j n ≡ ltb j (suc n)
            same (yes l) = lt-ltb j n l ∙ sym (lt-ltb j (suc n) (omega arith))
            same (no l) = le-ltb j n (omega arith) ∙ sym (le-ltb j (suc n) (omega arith))

-- a place that is set under a test
module _ {A : Type 0} (b : Bool) (xs : List A) (k : ℕ) (v : A) where
  pub set_if_same : (d : A) → k < length xs → get_or (cond b (set xs k v) xs) k d ≡ cond b v (get_or xs k d)
  set_if_same d h = go b
    where
      go : (b : Bool) → get_or (cond b (set xs k v) xs) k d ≡ cond b v (get_or xs k d)
      go true = get_or-set_same xs k v d h
      go false = refl

  pub set_if_other : (d : A) (i : ℕ) → i ≢ k → get_or (cond b (set xs k v) xs) i d ≡ get_or xs i d
  set_if_other d i ne = cond_elim (λ ys. get_or ys i d ≡ get_or xs i d) b (λ e. get_or-set_other xs k i v d ne) (λ e. refl)

  pub length-set_if : length (cond b (set xs k v) xs) ≡ length xs
  length-set_if = cond_elim (λ ys. length ys ≡ length xs) b (λ e. length-set xs k v) (λ e. refl)

-- what is done to a station only if it is up
abbrev if_up : (Station → Station) → Station → Station
if_up f x = cond x.up (f x) x

if_up_nothing : (x : Station) → x ≡ if_up (λ y. y) x
if_up_nothing x = cond_elim (λ y. x ≡ y) x.up (λ e. refl) (λ e. refl)

if_up_twice : (f g : Station → Station) (x : Station) → (f x).up ≡ x.up → if_up g (if_up f x) ≡ if_up (λ y. g (f y)) x
if_up_twice f g x keep = go x.up refl
  where
    go : (b : Bool) → x.up ≡ b → if_up g (cond b (f x) x) ≡ cond b (g (f x)) x
    go true e = rw (keep ∙ e)
    go false e = rw e

if_up_each : (n : ℕ) (f : ℕ → Station → Station) (x : Station) → ((k : ℕ) (y : Station) → (f k y).up ≡ y.up) → each n (λ k. if_up (f k)) x ≡ if_up (each n f) x
unfolding each
if_up_each zero f x keep = if_up_nothing x
if_up_each (suc n) f x keep =
    ap (if_up (f n)) (if_up_each n f x keep)
    ∙ if_up_twice (each n f) (f n) x (each_keeps (λ y. y.up ≡ x.up) n f x (λ k y l e. keep k y ∙ e) refl)

heard_link-up : (s : System) (p q now : ℕ) (ms : List Message) (x : Station) → (heard_link (hearing s) p q now ms x).up ≡ x.up
unfolding heard_link
heard_link-up s p q now [] x = refl
heard_link-up s p q now (m ∷ ms) x =
    heard_link-up s p q now ms (cond (eqb m.due now) (hearing s p q m now x) x)
    ∙ cond_elim (λ (y : Station). y.up ≡ x.up) (eqb m.due now) (λ e. (hearing-unchanged s p q m now x).up) (λ e. refl)

-- nothing is added to the lists of the desk, and nothing taken from them
pub record Whole (s : System) (d : Desk) : Type 0 where
  pub seats : length d.stations ≡ length s.stations
  pub counts : length d.sent ≡ length s.sent
  pub places : length d.mail ≡ length s.links

module _ (s : System) where
  pub whole-first : Whole s (desk_of s)
  whole-first = record { seats = refl; counts = refl; places = length-map s.links messages }

  pub whole-delivered : (e : Delivery) (d : Desk) → Whole s d → Whole s (delivered s e d)
  unfolding delivered
  whole-delivered e d w = record { seats = rw length-set_if w.seats; counts = w.counts; places = rw length-set w.places }

  pub whole-timer : (p : ℕ) (d : Desk) → Whole s d → Whole s (timer_ends s p d)
  unfolding timer_ends
  whole-timer p d w = record { seats = rw length-set_if w.seats; counts = w.counts; places = w.places }

  length-sent_to_all : (p : ℕ) (x : Station) (mail : Mail) → length (sent_to_all s p x mail) ≡ length mail
  unfolding sent_to_all sent_to
  length-sent_to_all p x mail = each_keeps (λ (r : Mail). length r ≡ length mail) s.n _ mail (λ k r l e. rw length-set_if e) refl

  pub whole-chance : (p : ℕ) (d : Desk) → Whole s d → Whole s (chance s p d)
  unfolding chance
  whole-chance p d w =
      let x : Station = station_of d.stations p in
      record {
        seats = rw length-set_if w.seats;
        counts = rw length-set_if w.counts;
        places = cond_elim (λ (r : Mail). length r ≡ length s.links) (sends_now s p x) (λ t. length-sent_to_all p x d.mail ∙ w.places) (λ t. w.places);
      }

-- one seat
abbrev pub seat_of : ℕ → Desk → Station
seat_of k d = station_of d.stations (k + 1)

-- (a)
module _ (s : System) where
  -- one list of deliveries after another
  delivered-append : (es fs : List Delivery) (d : Desk) → delivered_all s (es ++ fs) d ≡ delivered_all s fs (delivered_all s es d)
  unfolding delivered_all
  delivered-append [] fs d = refl
  delivered-append (e ∷ es) fs d = delivered-append es fs (delivered s e d)

  pub delivered-ascending : (n : ℕ) (f : ℕ → List Delivery) (d : Desk) → delivered_all s (ascending n f) d ≡ each n (λ k. delivered_all s (f (k + 1))) d
  unfolding delivered_all ascending each
  delivered-ascending zero f d = refl
  delivered-ascending (suc n) f d = delivered-append (ascending n f) (f (n + 1)) d ∙ ap (delivered_all s (f (n + 1))) (delivered-ascending n f d)

  -- the deliveries to p from q, and all to p
  abbrev pub link_deliveries : ℕ → ℕ → List Delivery
  link_deliveries p q = map (delivery p q) (due_now (next s) (underway s q p))

  abbrev pub received : ℕ → Desk → Desk
  received p = delivered_all s (ascending s.n (link_deliveries p))

  pub deliveries-each : after_deliveries s ≡ each s.n (λ k. received (k + 1)) (desk_of s)
  unfolding after_deliveries deliveries
  deliveries-each = delivered-ascending s.n (λ p. ascending s.n (link_deliveries p)) (desk_of s)

  -- what each of them keeps, all keep
  pub link-keeps : (P : Desk → Type 0) (p q : ℕ) → ((m : Message) (d : Desk) → P d → P (delivered s (delivery p q m) d))
      → (ms : List Message) (d : Desk) → P d → P (delivered_all s (map (delivery p q) ms) d)
  unfolding delivered_all
  link-keeps P p q keep [] d h = h
  link-keeps P p q keep (m ∷ ms) d h = link-keeps P p q keep ms (delivered s (delivery p q m) d) (keep m d h)

  pub received-keeps : (P : Desk → Type 0) (p : ℕ) → ((q : ℕ) (m : Message) (d : Desk) → P d → P (delivered s (delivery p q m) d)) → (d : Desk) → P d → P (received p d)
  received-keeps P p keep d h =
      rw (delivered-ascending s.n (link_deliveries p) d)
      (each_keeps P s.n _ d (λ k r l. link-keeps P p (k + 1) (keep (k + 1)) (due_now (next s) (underway s (k + 1) p)) r) h)

  pub whole-received : (p : ℕ) (d : Desk) → Whole s d → Whole s (received p d)
  whole-received p = received-keeps (Whole s) p (λ q m. whole-delivered s (delivery p q m))

  deliveries-sent : (after_deliveries s).sent ≡ s.sent
  unfolding delivered
  deliveries-sent =
      rw deliveries-each
      (each_keeps (λ d. d.sent ≡ s.sent) s.n _ (desk_of s) (λ k r l. received-keeps (λ d. d.sent ≡ s.sent) (k + 1) (λ q m d e. e) r) refl)

  -- one seat
  module _ (k : ℕ) (in_range : k < length s.stations) where
    heard-one : (q : ℕ) (m : Message) (d : Desk) → Whole s d → seat_of k (delivered s (delivery (k + 1) q m) d) ≡ if_up (hearing s (k + 1) q m (next s)) (seat_of k d)
    unfolding delivered
    heard-one q m d w = set_if_same (seat_of k d).up d.stations (k + 1 - 1) _ no_station (omega (arith, w.seats))

    heard-other : (p q : ℕ) (m : Message) (d : Desk) → p ≢ k → seat_of k (delivered s (delivery (p + 1) q m) d) ≡ seat_of k d
    unfolding delivered
    heard-other p q m d ne = set_if_other (seat_of p d).up d.stations (p + 1 - 1) _ no_station (k + 1 - 1) (λ e. ne (omega arith))

    heard-link : (q : ℕ) (ms : List Message) (d : Desk) → Whole s d
        → seat_of k (delivered_all s (map (delivery (k + 1) q) (due_now (next s) ms)) d) ≡ if_up (heard_link (hearing s) (k + 1) q (next s) ms) (seat_of k d)
    unfolding delivered_all due_now heard_link
    heard-link q [] d w = if_up_nothing (seat_of k d)
    heard-link q (m ∷ ms) d w = go (eqb m.due (next s)) (heard-link q ms)
      where
        hear : Station → Station
        hear = hearing s (k + 1) q m (next s)

        rest : Station → Station
        rest = heard_link (hearing s) (k + 1) q (next s) ms

        go : (b : Bool)
            → ((e : Desk) → Whole s e → seat_of k (delivered_all s (map (delivery (k + 1) q) (due_now (next s) ms)) e) ≡ if_up rest (seat_of k e))
            → seat_of k (delivered_all s (map (delivery (k + 1) q) (cond b (m ∷ due_now (next s) ms) (due_now (next s) ms))) d) ≡ if_up (λ x. rest (cond b (hear x) x)) (seat_of k d)
        go true r =
            r (delivered s (delivery (k + 1) q m) d) (whole-delivered s (delivery (k + 1) q m) d w)
            ∙ ap (if_up rest) (heard-one q m d w)
            ∙ if_up_twice hear rest (seat_of k d) (hearing-unchanged s (k + 1) q m (next s) (seat_of k d)).up
        go false r = r d w

    heard-received : (d : Desk) → Whole s d → seat_of k (received (k + 1) d) ≡ if_up (heard_by s (k + 1)) (seat_of k d)
    unfolding heard_all
    heard-received d w =
        ap (seat_of k) (delivered-ascending s.n (link_deliveries (k + 1)) d)
        ∙ each_seen (seat_of k) (Whole s) s.n _ (λ j. if_up (hear j)) d (λ j. heard-link (j + 1) (underway s (j + 1) (k + 1)))
        (λ j. link-keeps (Whole s) (k + 1) (j + 1) (λ m. whole-delivered s (delivery (k + 1) (j + 1) m)) (due_now (next s) (underway s (j + 1) (k + 1)))) w
        ∙ if_up_each s.n hear (seat_of k d) (λ j. heard_link-up s (k + 1) (j + 1) (next s) (underway s (j + 1) (k + 1)))
      where
        hear : ℕ → Station → Station
        hear j = heard_link (hearing s) (k + 1) (j + 1) (next s) (underway s (j + 1) (k + 1))

    heard-at : seat_of k (after_deliveries s) ≡ cond (ltb k s.n) (if_up (heard_by s (k + 1)) (station s (k + 1))) (station s (k + 1))
    heard-at =
        ap (seat_of k) deliveries-each
        ∙ (seen_one (seat_of k) (λ j. Whole s) k (λ j. received (j + 1)) (if_up (heard_by s (k + 1))) s.n (desk_of s) (λ l. heard-received)
        (λ j r l ne w. received-keeps (λ d. seat_of k d ≡ seat_of k r) (j + 1) (λ q m d e. heard-other j q m d ne ∙ e) r refl)
        (λ j r l. whole-received (j + 1) r) (whole-first s)).0

cond_and : {A : Type 0} (a b : Bool) (x y : A) → cond (a && b) x y ≡ cond a (cond b x y) y
cond_and true b x y = refl
cond_and false b x y = refl

-- two steps under one test
cond_twice : {A : Type 0} (b : Bool) (f : A → A) (x y : A) → cond b (f (cond b x y)) (cond b x y) ≡ cond b (f x) y
cond_twice true f x y = refl
cond_twice false f x y = refl

-- (b) and (c) at one seat
module _ (s : System) where
  abbrev ending : ℕ → Station → Station
  ending k = if_up (expired_now (expiring s (k + 1)) (next s))

  abbrev slots : ℕ → Station → Station
  slots k = slotted_now (slotting s (k + 1) (next s)) (next s)

  whole-deliveries : Whole s (after_deliveries s)
  whole-deliveries = rw deliveries-each (each_keeps (Whole s) s.n _ (desk_of s) (λ k r l. whole-received s (k + 1) r) (whole-first s))

  pub whole-timers : Whole s (after_timers s)
  unfolding after_timers
  whole-timers = each_keeps (Whole s) s.n _ (after_deliveries s) (λ k r l. whole-timer s (k + 1) r) whole-deliveries

  pub whole-chances : Whole s (after_chances s)
  unfolding after_chances
  whole-chances = each_keeps (Whole s) s.n _ (after_timers s) (λ k r l. whole-chance s (k + 1) r) whole-timers

  timers_sent : (after_timers s).sent ≡ s.sent
  unfolding after_timers timer_ends
  timers_sent = each_keeps (λ d. d.sent ≡ s.sent) s.n _ (after_deliveries s) (λ k r l e. e) (deliveries-sent s)

  chance-other : (k p : ℕ) (d : Desk) → p ≢ k → seat_of k (chance s (p + 1) d) ≡ seat_of k d
  unfolding chance
  chance-other k p d ne = set_if_other (eqb (seat_of p d).slot (next s)) d.stations (p + 1 - 1) _ no_station (k + 1 - 1) (λ e. ne (omega arith))

  module _ (k : ℕ) (in_range : k < length s.stations) where
    timer_own : (d : Desk) → Whole s d → seat_of k (timer_ends s (k + 1) d) ≡ ending k (seat_of k d)
    unfolding timer_ends expired_now
    timer_own d w =
        set_if_same ((seat_of k d).up && eqb (seat_of k d).timer (next s)) d.stations (k + 1 - 1) _ no_station (omega (arith, w.seats))
        ∙ cond_and (seat_of k d).up (eqb (seat_of k d).timer (next s)) _ (seat_of k d)

    timer_other : (p : ℕ) (d : Desk) → p ≢ k → seat_of k (timer_ends s (p + 1) d) ≡ seat_of k d
    unfolding timer_ends
    timer_other p d ne =
        set_if_other ((seat_of p d).up && eqb (seat_of p d).timer (next s)) d.stations (p + 1 - 1) _ no_station (k + 1 - 1) (λ e. ne (omega arith))

    settled_is : ending k (if_up (heard_by s (k + 1)) (station s (k + 1))) ≡ settled s (k + 1)
    unfolding settled
    settled_is =
        if_up_twice (heard_by s (k + 1)) (expired_now (expiring s (k + 1)) (next s)) (station s (k + 1))
        (heard_all-unchanged s s.n (k + 1) (next s) (λ q. underway s q (k + 1)) (station s (k + 1))).up

    timers_at : seat_of k (after_timers s) ≡ cond (ltb k s.n) (settled s (k + 1)) (station s (k + 1))
    unfolding after_timers
    timers_at =
        (seen_one (seat_of k) (λ j. Whole s) k (λ j. timer_ends s (j + 1)) (ending k) s.n (after_deliveries s) (λ l. timer_own) (λ j r l ne w. timer_other j r ne)
        (λ j r l. whole-timer s (j + 1) r) whole-deliveries).0
        ∙ ap (λ x. cond (ltb k s.n) (ending k x) x) (heard-at s k in_range)
        ∙ cond_twice (ltb k s.n) (ending k) _ (station s (k + 1))
        ∙ ap (λ x. cond (ltb k s.n) x (station s (k + 1))) settled_is

    chance-own : (d : Desk) → Whole s d → seat_of k (chance s (k + 1) d) ≡ slots k (seat_of k d)
    unfolding chance slotted_now
    chance-own d w = set_if_same (eqb (seat_of k d).slot (next s)) d.stations (k + 1 - 1) _ no_station (omega (arith, w.seats))

    chances_at : seat_of k (after_chances s) ≡ cond (ltb k s.n) (station_next s (k + 1)) (station s (k + 1))
    unfolding after_chances
    chances_at =
        (seen_one (seat_of k) (λ j. Whole s) k (λ j. chance s (j + 1)) (slots k) s.n (after_timers s) (λ l. chance-own) (λ j r l ne w. chance-other k j r ne)
        (λ j r l. whole-chance s (j + 1) r) whole-timers).0
        ∙ ap (λ x. cond (ltb k s.n) (slots k x) x) timers_at
        ∙ cond_twice (ltb k s.n) (slots k) (settled s (k + 1)) (station s (k + 1))

-- the place of station k + 1 is k
pub seat : (k : ℕ) → k + 1 - 1 ≡ k
seat k = omega arith

pub paper_order : PaperOrder
unfolding tick
paper_order s n-high long =
    let e : length (after_chances s).stations ≡ 8 = (whole-chances s).seats ∙ long in
    ext_get_or no_station (after_chances s).stations (up_to 8 (seat_next s)) (e ∙ sym (length-up_to 8 (seat_next s)))
    (λ k h. (rw seat at (chances_at s k (omega arith))) ∙ sym (get_d_up_to 8 (seat_next s) k no_station (omega arith)))

-- before the send chance of the station at seat k: those from there on have had none
pub record Turn (s : System) (k : ℕ) (d : Desk) : Type 0 where
  pub whole : Whole s d
  pub waiting : (i : ℕ) → k ≤ i → i < s.n → seat_of i d ≡ settled s (i + 1)

module _ (s : System) (room : s.n ≤ length s.stations) where
  pub turn_first : Turn s 0 (after_timers s)
  turn_first = record { whole = whole-timers s; waiting = λ i h l. timers_at s i (omega arith) ∙ rw (lt-ltb i s.n l) }

  pub turn_next : (k : ℕ) (d : Desk) → Turn s k d → Turn s (suc k) (chance s (k + 1) d)
  turn_next k d t =
      record { whole = whole-chance s (k + 1) d t.whole; waiting = λ i h l. chance-other s i k d (λ e. omega arith) ∙ t.waiting i (omega arith) l }

  module _ (k : ℕ) (in_range : k < length s.sent) where
    abbrev count_of : Desk → ℕ
    count_of d = get_or d.sent (k + 1 - 1) 0

    abbrev counting : ℕ → ℕ
    counting c = cond (sending s (k + 1)) (c + (s.n - 1)) c

    count-own : k < s.n → (d : Desk) → Turn s k d → count_of (chance s (k + 1) d) ≡ counting (count_of d)
    unfolding chance sending
    count-own l d t =
        set_if_same (sends_now s (k + 1) (seat_of k d)) d.sent (k + 1 - 1) (count_of d + (s.n - 1)) 0 (omega (arith, t.whole.counts))
        ∙ ap (λ x. cond (sends_now s (k + 1) x) (count_of d + (s.n - 1)) (count_of d)) (t.waiting k (omega arith) l)

    count-other : (p : ℕ) (d : Desk) → p ≢ k → count_of (chance s (p + 1) d) ≡ count_of d
    unfolding chance
    count-other p d ne = set_if_other (sends_now s (p + 1) (seat_of p d)) d.sent (p + 1 - 1) _ 0 (k + 1 - 1) (λ e. ne (omega arith))

    sent-at : count_of (after_chances s) ≡ cond (ltb k s.n) (counting (get_or s.sent (k + 1 - 1) 0)) (get_or s.sent (k + 1 - 1) 0)
    unfolding after_chances
    sent-at =
        (seen_one count_of (Turn s) k (λ j. chance s (j + 1)) counting s.n (after_timers s) count-own (λ j r l ne t. count-other j r ne)
        (λ j r l. turn_next j r) turn_first).0
        ∙ ap (λ xs. cond (ltb k s.n) (counting (get_or xs (k + 1 - 1) 0)) (get_or xs (k + 1 - 1) 0)) (timers_sent s)

pub paper_sent : PaperSent
unfolding tick
paper_sent s n-high long eight =
    let e : length (after_chances s).sent ≡ 8 = (whole-chances s).counts ∙ eight in
    ext_get_or 0 (after_chances s).sent (up_to 8 (sent_next s)) (e ∙ sym (length-up_to 8 (sent_next s)))
    (λ k h.
    (rw seat at (sent-at s (omega arith) k (omega arith)))
    ∙ sym (cond_and (ltb k s.n) (sending s (k + 1)) (get_or s.sent k 0 + (s.n - 1)) (get_or s.sent k 0))
    ∙ sym (get_d_up_to 8 (sent_next s) k 0 (omega arith)))
