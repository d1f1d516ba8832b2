-- (a) as the code goes: sender by sender, each from receiver to receiver; and (b).
use mathlib.Core.Path.{◌≡◌, refl, sym, ap, ◌∙◌}
use mathlib.Core.List.{List}
use mathlib.Core.Bool.{Bool, true, false, cond, ◌&&◌}
use Prim.Native.Nat.{ℕ, zero, suc, ◌+◌, ◌-◌, ◌*◌, ◌<◌, ◌≤◌}
use native.Mathlib.Decide.{dec_lt, ℕ_discrete}
use native.Mathlib.Omega.{arith}
use lib.Dec.{ltb, eqb}
use lib.ListN.{length, get_or, take}
use borrow.Author.Tests.{eqb-true, lt-ltb, le-ltb}
use Rattle.election.specs.Heads.{hearing, expiring}
use Rattle.lists.specs.Entries.{firsts}
use Rattle.lists.specs.Fold.{each}
use Rattle.lists.proofs.Bools.{both, cond_yes, cond_no, cond_elim}
use Rattle.lists.proofs.Entries.{up_to-same, firsts-cond}
use Rattle.lists.proofs.Fold.{each_turn}
use Rattle.station.specs.Order.{entry}
use Rattle.station.specs.Limits.{last_tick, longest}
use Rattle.station.specs.declared.Station.{Station}
use Rattle.election.specs.System.{no_station, no_link, messages, underway, with_links, with_stations}
use Rattle.election.specs.Tick.{heard_all, expired_now, settled}
use Rattle.election.specs.declared.Message.{Message}
use Rattle.election.specs.declared.System.{System}
use Rattle.election.proofs.Steps.{heard-none, heard_all-unchanged, heard_all-timeouts}
use Rattle.ticks.specs.Sending.{Ticking, hears, timer_ends}
use Rattle.ticks.proofs.Ready.{timeout-at, timer_at}
use Rattle.ticks.specs.Chances.{ended_at, ended_to}
use Rattle.ticks.specs.Delivering.{heard_from, Hearing}

-- the system whose first p stations are after (a) and (b)
unfoldable pub settled_to : System → ℕ → System
settled_to s p = with_stations (firsts p (λ k. settled s (k + 1)) s.stations) s

-- a station hears all or nothing
hears-all : (s : System) (me now : ℕ) (inbox : ℕ → List Message) (x : Station) (q : ℕ) → each q (λ k. hears (hearing s) me (k + 1) now (inbox (k + 1))) x ≡ cond x.up (heard_all (hearing s) q me now inbox x) x
unfolding each heard_all hears
hears-all s me now inbox x zero = cond_elim (λ y. x ≡ y) x.up (λ u. refl) (λ u. refl)
hears-all s me now inbox x (suc q) = ap (hears (hearing s) me (q + 1) now (inbox (q + 1))) (hears-all s me now inbox x q) ∙ go x.up refl
  where
    go : (b : Bool) → x.up ≡ b → hears (hearing s) me (q + 1) now (inbox (q + 1)) (cond b (heard_all (hearing s) q me now inbox x) x) ≡ cond b (heard_all (hearing s) (suc q) me now inbox x) x
    go true u = cond_yes {b = (heard_all (hearing s) q me now inbox x).up} _ _ ((heard_all-unchanged s q me now inbox x).up ∙ u)
    go false u = cond_no {b = x.up} _ _ u

module _ (s : System) (p q : ℕ) where
  -- the station before the tick, and what it hears if it is up
  now_at : Station
  now_at = get_or s.stations p no_station

  all_heard : Station
  all_heard = heard_all (hearing s) q (p + 1) (s.tick + 1) (λ j. underway s j (p + 1)) now_at

  heard-is : heard_from s p q ≡ cond now_at.up all_heard now_at
  unfolding heard_from now_at all_heard
  heard-is = hears-all s (p + 1) (s.tick + 1) (λ j. underway s j (p + 1)) (get_or s.stations p no_station) q

  heard_from_up : (heard_from s p q).up ≡ (get_or s.stations p no_station).up
  unfolding now_at all_heard
  heard_from_up = rw heard-is (cond_elim (λ (y : Station). y.up ≡ now_at.up) now_at.up (λ u. (heard_all-unchanged s q (p + 1) (s.tick + 1) (λ j. underway s j (p + 1)) now_at).up) (λ u. refl))

  heard_from_timeouts : ((heard_from s p q).timeouts ≡ (get_or s.stations p no_station).timeouts) × ((heard_from s p q).timeout ≡ (get_or s.stations p no_station).timeout)
  unfolding now_at all_heard
  heard_from_timeouts =
      rw heard-is
      (cond_elim (λ (y : Station). (y.timeouts ≡ now_at.timeouts) × (y.timeout ≡ now_at.timeout)) now_at.up (λ u. heard_all-timeouts s q (p + 1) (s.tick + 1) (λ j. underway s j (p + 1)) now_at) (λ u. (refl, refl)))

  heard-up : (get_or s.stations p no_station).up ≡ true → heard_from s p q ≡ all_heard
  unfolding now_at
  heard-up u = heard-is ∙ cond_yes {b = now_at.up} _ _ u

  heard-down : (get_or s.stations p no_station).up ≡ false → heard_from s p q ≡ get_or s.stations p no_station
  unfolding now_at
  heard-down d = heard-is ∙ cond_no {b = now_at.up} _ _ d

-- after the last sender a timer due now ends
module _ (s : System) (p : ℕ) (e : Station) (h : e ≡ heard_from s p s.n) where
  settled_is : cond (timer_ends (s.tick + 1) e) (expiring s (p + 1) e) e ≡ settled s (p + 1)
  unfolding settled expired_now all_heard now_at
  settled_is =
      let z : p ≡ p + 1 - 1 = omega arith in
      go (get_or s.stations p no_station).up refl
      ∙ ap (λ k. let x : Station = get_or s.stations k no_station in cond x.up (expired_now (expiring s (p + 1)) (s.tick + 1) (heard_all (hearing s) s.n (p + 1) (s.tick + 1) (λ j. underway s j (p + 1)) x)) x) z
    where
      all : Station
      all = all_heard s p s.n

      go : (b : Bool) → (get_or s.stations p no_station).up ≡ b
          → cond (timer_ends (s.tick + 1) e) (expiring s (p + 1) e) e ≡ cond b (cond (eqb all.timer (s.tick + 1)) (expiring s (p + 1) all) all) (get_or s.stations p no_station)
      go true u =
          ap (λ x. cond (timer_ends (s.tick + 1) x) (expiring s (p + 1) x) x) (h ∙ heard-up s p s.n u)
          ∙ ap (λ b. cond (b && eqb all.timer (s.tick + 1)) (expiring s (p + 1) all) all) (ap (λ (x : Station). x.up) (sym (heard-up s p s.n u)) ∙ heard_from_up s p s.n ∙ u)
      go false d =
          ap (λ x. cond (timer_ends (s.tick + 1) x) (expiring s (p + 1) x) x) (h ∙ heard-down s p s.n d)
          ∙ ap (λ b. cond (b && eqb (get_or s.stations p no_station).timer (s.tick + 1)) (expiring s (p + 1) (get_or s.stations p no_station)) (get_or s.stations p no_station)) d

  ends-safely : Ticking s → p < s.n → timer_ends (s.tick + 1) e ≡ true → (1 ≤ e.leader) × (e.leader ≤ 8) × (entry e.timeouts e.leader ≤ longest last_tick) × (e.timeout ≤ longest last_tick)
  unfolding heard_all all_heard now_at
  ends-safely t hp i =
      let (u, d) = both e.up (eqb e.timer (s.tick + 1)) i in
      let up : (get_or s.stations p no_station).up ≡ true = sym (heard_from_up s p s.n) ∙ ap (λ (x : Station). x.up) (sym h) ∙ u in
      timer_at s t p p hp hp e (h ∙ heard-up s p s.n up) up (eqb-true e.timer (s.tick + 1) d)

-- a sender more
module _ (s : System) (p q : ℕ) where
  inbox : messages (get_or s.links (8 * q + p) no_link) ≡ underway s (q + 1) (p + 1)
  inbox =
      let a : p + 1 - 1 ≡ p = omega arith in
      let b : q + 1 - 1 ≡ q = omega arith in
      rw (a, b)

  heard_from_next : (now : ℕ) (x v : Station) → now ≡ s.tick + 1 → x ≡ heard_from s p q → v ≡ hears (hearing s) (p + 1) (q + 1) now (messages (get_or s.links (8 * q + p) no_link)) x → v ≡ heard_from s p (q + 1)
  unfolding heard_from
  heard_from_next now x v c e g =
      each_turn q _ _ (heard_from s p q) v refl
      (g ∙ ap (λ n. hears (hearing s) (p + 1) (q + 1) n (messages (get_or s.links (8 * q + p) no_link)) x) c ∙ ap (λ x. hears (hearing s) (p + 1) (q + 1) (s.tick + 1) (messages (get_or s.links (8 * q + p) no_link)) x) e
      ∙ ap (λ ms. hears (hearing s) (p + 1) (q + 1) (s.tick + 1) ms (heard_from s p q)) inbox)

  -- with no message, nothing changes
  heard_from_none : (get_or s.links (8 * q + p) no_link).used ≡ 0 → heard_from s p q ≡ heard_from s p (q + 1)
  unfolding heard_from hears messages
  heard_from_none z =
      each_turn q _ _ (heard_from s p q) (heard_from s p q) refl
      (sym (cond_elim (λ x. x ≡ heard_from s p q) (heard_from s p q).up (λ u. heard-none (hearing s) (p + 1) (q + 1) (s.tick + 1) (underway s (q + 1) (p + 1)) (heard_from s p q) (sym inbox ∙ ap (λ u. take u (get_or s.links (8 * q + p) no_link).messages) z)) (λ u. refl)))

pub hearing-none : (r : System) (n : ℕ) → length r.stations ≡ 8 → Hearing r n 0 0 r
unfolding heard_from each
hearing-none r n long = record { same = refl; long = long; heard = λ j h i. absurd (omega arith); waits = λ j h i. refl; others = λ j h. refl }

module _ (r : System) (n p q : ℕ) (s : System) (a : Hearing r n p q s) where
  -- what hearing is given
  pub hearing-ready : Ticking r → p < n → n ≡ r.n → q < r.n → (x : Station) → x.timeouts ≡ (get_or s.stations p no_station).timeouts → x.timeout ≡ (get_or s.stations p no_station).timeout
      → (r.tick + 1 ≤ last_tick) × (entry x.timeouts (q + 1) ≤ longest last_tick) × (x.timeout ≤ longest last_tick)
  hearing-ready t hp z hq x e f =
      let hp' : p < r.n = omega arith in
      let (more, one) = heard_from_timeouts r p q in
      let (low, own) = timeout-at r t p q hp' hq x (e ∙ ap (λ (z : Station). z.timeouts) (a.waits p (omega arith) hp) ∙ more) (f ∙ ap (λ (z : Station). z.timeout) (a.waits p (omega arith) hp) ∙ one) in
      (omega (arith, t.room), low, own)

  -- past the last receiver
  pub hearing-row : p ≡ n → Hearing r n 0 (q + 1) s
  hearing-row z = record { same = a.same; long = a.long; heard = λ j h i. absurd (omega arith); waits = λ j h i. a.heard j (omega arith) i; others = a.others }

  -- a sender with no message
  pub hearing-rests : p ≡ 0 → ((j : ℕ) → j < n → (get_or r.links (8 * q + j) no_link).used ≡ 0) → Hearing r n 0 (q + 1) s
  hearing-rests z f =
      record { same = a.same; long = a.long; heard = λ j h i. absurd (omega arith); waits = λ j h i. a.waits j (omega arith) i ∙ heard_from_none r j q (f j i); others = a.others }

  -- a receiver more
  module _ (hp : p < n) where
    pub hearing-turn : (y : System) (now : ℕ) → with_links r.links y ≡ with_stations y.stations r → length y.stations ≡ 8 → ((j : ℕ) → (j ≡ p → ⊥) → get_or y.stations j no_station ≡ get_or s.stations j no_station)
        → now ≡ r.tick + 1 → get_or y.stations p no_station ≡ hears (hearing r) (p + 1) (q + 1) now (messages (get_or r.links (8 * q + p) no_link)) (get_or s.stations p no_station) → Hearing r n (p + 1) q y
    hearing-turn y now e l f c g =
        record {
          same = e;
          long = l;
          heard = λ j h i. at j h i (ℕ_discrete j p);
          waits = λ j h i. f j (λ z. omega arith) ∙ a.waits j (omega arith) i;
          others = λ j h. f j (λ z. omega arith) ∙ a.others j h;
        }
      where
        at : (j : ℕ) → j < p + 1 → j < n → Dec (j ≡ p) → get_or y.stations j no_station ≡ heard_from r j (q + 1)
        at j h i (yes z) = rw z (heard_from_next r p q now (get_or s.stations p no_station) (get_or y.stations p no_station) c (a.waits p (omega arith) hp) g)
        at j h i (no z) = f j z ∙ a.heard j (omega arith) i

    pub hearing-skips : (get_or r.links (8 * q + p) no_link).used ≡ 0 → Hearing r n (p + 1) q s
    hearing-skips u = record { same = a.same; long = a.long; heard = λ j h i. at j h i (ℕ_discrete j p); waits = λ j h i. a.waits j (omega arith) i; others = a.others }
      where
        at : (j : ℕ) → j < p + 1 → j < n → Dec (j ≡ p) → get_or s.stations j no_station ≡ heard_from r j (q + 1)
        at j h i (yes z) = rw z (a.waits p (omega arith) hp ∙ heard_from_none r p q u)
        at j h i (no z) = a.heard j (omega arith) i

-- after the last sender
module _ (r : System) (n q : ℕ) (s : System) (a : Hearing r n 0 q s) (z : q ≡ n) (size : r.n ≡ n) where
  heard_all_lem : (j : ℕ) → j < n → get_or s.stations j no_station ≡ heard_from r j r.n
  heard_all_lem j h = a.waits j (omega arith) h ∙ ap (heard_from r j) (z ∙ sym size)

  -- a timer that is due can end
  pub timer_ready : Ticking r → (p : ℕ) → p < n → (x : Station) → x ≡ get_or s.stations p no_station → timer_ends (r.tick + 1) x ≡ true → (1 ≤ x.leader) × (x.leader ≤ 8) × (entry x.timeouts x.leader ≤ longest last_tick) × (x.timeout ≤ longest last_tick)
  timer_ready t p hp x e = ends-safely r p x (e ∙ heard_all_lem p hp) t (omega arith)

  -- and where all have ended, stations are settled
  pub settled-all : n ≤ 8 → length r.stations ≡ 8 → with_links s.links (settled_to r r.n) ≡ ended_to n (r.tick + 1) s
  unfolding settled_to
  settled-all hn long =
      ap (λ xs. with_links s.links (with_stations xs r))
      (ap (λ k. firsts k (λ k. settled r (k + 1)) r.stations) size ∙ firsts-cond n 8 (λ k. settled r (k + 1)) r.stations no_station long hn
      ∙ up_to-same 8 _ _ (λ k h. at k (dec_lt k n)) ∙ sym (firsts-cond n 8 f s.stations no_station a.long hn))
      ∙ ap (λ (y : System). with_links s.links (with_stations (firsts n f s.stations) y)) (sym a.same)
    where
      kind : s.clock ≡ r.clock
      kind = ap (λ (z : System). z.clock) a.same

      f : ℕ → Station
      f k = ended_at s.clock (r.tick + 1) k (get_or s.stations k no_station)

      at : (k : ℕ) → Dec (k < n) → cond (ltb k n) (settled r (k + 1)) (get_or r.stations k no_station) ≡ cond (ltb k n) (f k) (get_or s.stations k no_station)
      at k (yes h) = rw (lt-ltb k n h) (sym (settled_is r k (get_or s.stations k no_station) (heard_all_lem k h)) ∙ ap (λ c. ended_at c (r.tick + 1) k (get_or s.stations k no_station)) (sym kind))
      at k (no h) = rw (le-ltb k n (omega arith)) (sym (a.others k (omega arith)))
