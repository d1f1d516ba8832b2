-- (b) and (c) as the code goes: station by station, its timer and then its send chance.
use mathlib.Core.Path.{◌≡◌, refl, sym, ap, subst, ◌∙◌}
use mathlib.Core.List.{List}
use mathlib.Core.Bool.{Bool, true, false, not, ◌&&◌, and-false}
use Prim.Native.Nat.{ℕ, ◌+◌, ◌-◌, ◌*◌, ◌<◌, ◌≤◌}
use native.Mathlib.Decide.{dec_lt, ℕ_discrete}
use native.Mathlib.Omega.{arith}
use lib.Dec.{eqb}
use lib.ListN.{length, get_or, set, length-set}
use lib.Seq.{ext_get_or, get_or-set_same, get_or-set_other}
use borrow.Author.Tests.{ne_eqb}
use Rattle.lists.proofs.Entries.{firsts-get, firsts-beyond}
use Rattle.clock.specs.Rules.{carried as clockCarried}
use Rattle.election.specs.Heads.{slotting_of}
use Rattle.station.specs.declared.Station.{Station}
use Rattle.layout.specs.Layout.{system_of}
use Rattle.layout.specs.declared.Layout.{Layout}
use Rattle.layout.proofs.Stores.{Wide, with_messages, with_used, with_stations, with_sent}
use Rattle.election.specs.Idle.{quiet_station}
use Rattle.election.specs.System.{no_station, places}
use Rattle.election.specs.declared.System.{System}
use Rattle.ticks.specs.Sending.{sends_now}
use Rattle.ticks.proofs.After.{part_beyond, part_long, part_sent, part_n, part_period, part_clock, part_row, part_rests, part_skips, part_counts, part_silent, part_slots, part_waits}
use Rattle.ticks.proofs.Sent.{place-free, message-sent}
use Rattle.ticks.specs.Chances.{ended_in, sends_at, Part, ended_at, ended_to, Chances, Turn}
use Rattle.ticks.specs.Delivering.{Before, Silent}

pub chances_first : (n now : ℕ) (until : ℕ) (s : Layout) → length s.stations ≡ 8 → Part n now (ended_to n now (system_of s)) until (ended_to n now (system_of s)) 0 0 0 → Chances n now (system_of s) until s 0 0 0 0
chances_first n now until s long a =
    record { stations = (ended_to n now (system_of s)).stations; part = a; done = λ j h. absurd (omega arith); ended = λ j h i. absurd (omega arith); rest = λ j h. refl; long = long }

-- a station whose send chance is not now does not send
late-silent : (clock : Bool) (me now : ℕ) (x : Station) → (x.slot ≡ now → ⊥) → sends_now clock me now x ≡ false
late-silent clock me now x ne = rw (ne_eqb x.slot now ne, and-false x.up)

-- a timer due now ends, or it is not due
module _ (n now : ℕ) (s₀ : System) (until : ℕ) (s : Layout) (p c k : ℕ) (a : Chances n now s₀ until s p p c k) (hp : p < n) (hn : n ≤ 8) where
  chances_heard : get_or s.stations p no_station ≡ get_or s₀.stations p no_station
  chances_heard = a.rest p (omega arith)

  ends : (y : Layout) (v : Station) → v ≡ ended_at s₀.clock now p (get_or s.stations p no_station) → y ≡ with_stations (set s.stations p v) s → Chances n now s₀ until y (p + 1) p c k
  ends y v e g =
      rw g
      (record {
        stations = a.stations;
        part = a.part;
        done = λ j h. get_or-set_other s.stations p j v no_station (λ i. omega arith) ∙ a.done j h;
        ended = λ j h i. (let z : p ≡ j = omega arith in subst (λ j. get_or (set s.stations p v) j no_station ≡ get_or (ended_to n now s₀).stations j no_station) z here);
        rest = λ j h. get_or-set_other s.stations p j v no_station (λ i. omega arith) ∙ a.rest j (omega arith);
        long = length-set s.stations p v ∙ a.long;
      })
    where
      here : get_or (set s.stations p v) p no_station ≡ get_or (ended_to n now s₀).stations p no_station
      here =
          get_or-set_same s.stations p v no_station (omega (arith, a.long)) ∙ e ∙ ap (ended_at s₀.clock now p) chances_heard
          ∙ sym (firsts-get n (λ k. ended_at s₀.clock now k (get_or s₀.stations k no_station)) s₀.stations p no_station hp)

  chances_ended : (y : Layout) → y ≡ ended_in now p s → Chances n now s₀ until y (p + 1) p c k
  chances_ended y g =
      ends y (ended_at s.clock now p (get_or s.stations p no_station)) (ap (λ b. ended_at b now p (get_or s.stations p no_station)) (part_clock n now (ended_to n now s₀) until (system_of (with_stations a.stations s)) p c k a.part)) g

-- its send chance
module _ (n now : ℕ) (s₀ : System) (until : ℕ) (s : Layout) (p c k : ℕ) (a : Chances n now s₀ until s (p + 1) p c k) (hp : p < n) where
  abbrev m : System
  m = ended_to n now s₀

  pub chances_station : get_or s.stations p no_station ≡ get_or m.stations p no_station
  chances_station = a.ended p (omega arith) (omega arith)

  here_too : get_or a.stations p no_station ≡ get_or s.stations p no_station
  here_too = part_beyond n now m until (system_of (with_stations a.stations s)) p c k a.part p (omega arith) ∙ sym chances_station

  pub chances_clock : s.clock ≡ m.clock
  chances_clock = part_clock n now m until (system_of (with_stations a.stations s)) p c k a.part

  -- whether it sends
  pub chances_says : (b : Bool) → b ≡ sends_now s.clock (p + 1) now (get_or s.stations p no_station) → b ≡ sends_at now m p
  chances_says b e = e ∙ ap (λ k. sends_now k (p + 1) now (get_or s.stations p no_station)) chances_clock ∙ ap (sends_now m.clock (p + 1) now) chances_station

  pub chances_late : ((get_or s.stations p no_station).slot ≡ now → ⊥) → sends_at now m p ≡ false
  chances_late ne = sym (ap (sends_now m.clock (p + 1) now) chances_station) ∙ late-silent m.clock (p + 1) now (get_or s.stations p no_station) ne

  -- the stations stay as they are
  carried : (until' c' k' : ℕ) (y : Layout) → y.stations ≡ s.stations → Part n now m until' (system_of (with_stations a.stations y)) p c' k' → Chances n now s₀ until' y (p + 1) p c' k'
  carried until' c' k' y e b =
      record {
        stations = a.stations;
        part = b;
        done = λ j h. ap (λ xs. get_or xs j no_station) e ∙ a.done j h;
        ended = λ j h i. ap (λ xs. get_or xs j no_station) e ∙ a.ended j h i;
        rest = λ j h. ap (λ xs. get_or xs j no_station) e ∙ a.rest j h;
        long = ap length e ∙ a.long;
      }

  pub chances_n : s.n ≡ m.n
  chances_n = part_n n now m until (system_of (with_stations a.stations s)) p c k a.part

  pub chances_period : s.period ≡ m.period
  chances_period = part_period n now m until (system_of (with_stations a.stations s)) p c k a.part

  pub chances_sent : get_or s.sent c 0 ≡ get_or m.sent c 0
  chances_sent = part_sent n now m until (system_of (with_stations a.stations s)) p c k a.part

  -- its count
  chances_counts : (v : ℕ) (y : Layout) → c < 8 → sends_at now m c ≡ true → v ≡ get_or s.sent c 0 + (s.n - 1) → y ≡ with_sent (set s.sent c v) s → Chances n now s₀ until y (p + 1) p (c + 1) k
  chances_counts v y h sends e g =
      carried until (c + 1) k y (ap (λ (z : Layout). z.stations) g)
      (part_counts n now m until (system_of (with_stations a.stations s)) p c k a.part v (system_of (with_stations a.stations y)) h sends e (ap (λ (z : Layout). system_of (with_stations a.stations z)) g))

  chances_silent : c < 8 → sends_at now m c ≡ false → Chances n now s₀ until s (p + 1) p (c + 1) k
  chances_silent h silent = carried until (c + 1) k s refl (part_silent n now m until (system_of (with_stations a.stations s)) p c k a.part h silent)

  -- the next chance
  chances_slots : (until' : ℕ) (v : Station) (y : Layout) → p < 8 → until' ≤ until → (get_or s.stations p no_station).slot ≡ now → v ≡ slotting_of s.clock (p + 1) s.period now (get_or s.stations p no_station)
      → y ≡ with_stations (set s.stations p v) s → ((t : ℕ) → now < t → t ≤ until' → quiet_station t (get_or y.stations p no_station) ≡ true) → Chances n now s₀ until' y (p + 1) (p + 1) c k
  chances_slots until' v y h le due e g calm =
      rw g
      (record {
        stations = set a.stations p v;
        part =
            part_slots n now m until (system_of (with_stations a.stations s)) p c k a.part until' v (system_of (with_stations (set a.stations p v) s)) h le
            (ap (λ (x : Station). x.slot) here_too ∙ due) (e ∙ ap (slotting_of s.clock (p + 1) s.period now) (sym here_too)) refl
            (λ t b d. subst (λ x. quiet_station t x ≡ true) (ap (λ (z : Layout). get_or z.stations p no_station) g ∙ new ∙ sym new_too) (calm t b d));
        done = λ j i. at j i (ℕ_discrete j p);
        ended = λ j i l. absurd (omega arith);
        rest = λ j i. get_or-set_other s.stations p j v no_station (λ z. omega arith) ∙ a.rest j i;
        long = length-set s.stations p v ∙ a.long;
      })
    where
      new : get_or (set s.stations p v) p no_station ≡ v
      new = get_or-set_same s.stations p v no_station (omega (arith, a.long))

      new_too : get_or (set a.stations p v) p no_station ≡ v
      new_too = get_or-set_same a.stations p v no_station (omega (arith, part_long n now m until (system_of (with_stations a.stations s)) p c k a.part (omega arith)))

      at : (j : ℕ) → j < p + 1 → Dec (j ≡ p) → get_or (set s.stations p v) j no_station ≡ get_or (set a.stations p v) j no_station
      at j i (yes z) = rw z (new ∙ sym new_too)
      at j i (no z) = get_or-set_other s.stations p j v no_station z ∙ a.done j (omega arith) ∙ sym (get_or-set_other a.stations p j v no_station z)

  chances_waits : (until' : ℕ) (y : Layout) → p < 8 → until' ≤ until → ((get_or s.stations p no_station).slot ≡ now → ⊥) → y ≡ s → ((t : ℕ) → now < t → t ≤ until' → quiet_station t (get_or y.stations p no_station) ≡ true)
      → Chances n now s₀ until' y (p + 1) (p + 1) c k
  chances_waits until' y h le due g calm =
      rw g
      (record {
        stations = a.stations;
        part =
            part_waits n now m until (system_of (with_stations a.stations s)) p c k a.part until' (system_of (with_stations a.stations s)) h le
            (λ z. due (ap (λ (x : Station). x.slot) (sym here_too) ∙ z)) refl
            (λ t b d. subst (λ x. quiet_station t x ≡ true) (ap (λ (z : Layout). get_or z.stations p no_station) g ∙ sym here_too) (calm t b d));
        done = λ j i. at j i (ℕ_discrete j p);
        ended = λ j i l. absurd (omega arith);
        rest = a.rest;
        long = a.long;
      })
    where
      at : (j : ℕ) → j < p + 1 → Dec (j ≡ p) → get_or s.stations j no_station ≡ get_or a.stations j no_station
      at j i (yes z) = rw z (sym here_too)
      at j i (no z) = a.done j (omega arith)

-- its row of links
module _ (n now : ℕ) (s₀ : System) (until : ℕ) (s : Layout) (p : ℕ) (hp : p < n) where
  chances_row : Chances n now s₀ until s (p + 1) p p (8 * p + n) → Chances n now s₀ until s (p + 1) p p (8 * (p + 1))
  chances_row a = carried n now s₀ until s p p (8 * p + n) a hp until p (8 * (p + 1)) s refl (part_row n now (ended_to n now s₀) until (system_of (with_stations a.stations s)) p hp a.part)

  chances_rests : Chances n now s₀ until s (p + 1) p p (8 * p) → sends_at now (ended_to n now s₀) p ≡ false → Chances n now s₀ until s (p + 1) p p (8 * (p + 1))
  chances_rests a silent = carried n now s₀ until s p p (8 * p) a hp until p (8 * (p + 1)) s refl (part_rests n now (ended_to n now s₀) until (system_of (with_stations a.stations s)) p hp a.part silent)

  module _ (q : ℕ) (hq : q < n) (a : Chances n now s₀ until s (p + 1) p p (8 * p + q)) (d : ℕ) (ed : d ≡ get_or s.delays (8 * p + q) 0) where
    pub chances_skips : (not (eqb p q) && not (eqb d 0)) ≡ false → Chances n now s₀ until s (p + 1) p p (8 * p + (q + 1))
    chances_skips f = carried n now s₀ until s p p (8 * p + q) a hp until p (8 * p + (q + 1)) s refl (part_skips n now (ended_to n now s₀) until (system_of (with_stations a.stations s)) p hp q hq a.part d ed f)

    module _ (wide : Wide s) (test : (not (eqb p q) && not (eqb d 0)) ≡ true) (sends : sends_at now (ended_to n now s₀) p ≡ true) (counts : List ℕ) (ec : counts ≡ (get_or (ended_to n now s₀).stations p no_station).recovered) (stamp : ℕ) (ez : stamp ≡ clockCarried (get_or (ended_to n now s₀).stations p no_station))
        (u : ℕ) (e : u ≡ get_or s.used (8 * p + q) 0) where
      still : Wide (with_stations a.stations s)
      still = record { used = wide.used; messages = wide.messages }

      pub chances_free : u < places
      chances_free = place-free n now (ended_to n now s₀) until (with_stations a.stations s) p q hp hq a.part still d ed test sends counts ec stamp ez u e

      pub chances_sends : (v until' until₂ : ℕ) (y : Layout) → v ≡ u + 1 → y ≡ with_used (set s.used (8 * p + q) v) (with_messages (set s.messages (places * (8 * p + q) + u) (record { sent = now; due = now + d; counts = counts; stamp = stamp })) s)
          → until₂ ≡ until' → until' ≤ until → Before now (now + d) until' → Chances n now s₀ until₂ y (p + 1) p p (8 * p + (q + 1))
      chances_sends v until' until₂ y c g t le before =
          carried n now s₀ until s p p (8 * p + q) a hp until₂ p (8 * p + (q + 1)) y (ap (λ (z : Layout). z.stations) g)
          (message-sent n now (ended_to n now s₀) until (with_stations a.stations s) p q hp hq a.part still d ed test sends counts ec stamp ez u e v until' until₂ (with_stations a.stations y) c (ap (with_stations a.stations) g) t le before)

-- all stations are done
pub chances_done : (n now : ℕ) (s₀ : System) (until : ℕ) (s : Layout) (p : ℕ) → Chances n now s₀ until s p p p (8 * p) → p ≡ n → n ≤ 8 → Part n now (ended_to n now s₀) until (system_of s) n n (8 * n)
chances_done n now s₀ until s p a z hn =
    subst (λ k. Part n now (ended_to n now s₀) until (system_of s) k k (8 * k)) z
    (subst (λ xs. Part n now (ended_to n now s₀) until (system_of (with_stations xs s)) p p (8 * p)) same a.part)
  where
    same : a.stations ≡ s.stations
    same =
        let l : length a.stations ≡ 8 = part_long n now (ended_to n now s₀) until (system_of (with_stations a.stations s)) p p (8 * p) a.part (omega arith) in
        ext_get_or no_station a.stations s.stations (l ∙ sym a.long) (λ j h. at j (dec_lt j p))
      where
        at : (j : ℕ) → Dec (j < p) → get_or a.stations j no_station ≡ get_or s.stations j no_station
        at j (yes h) = sym (a.done j h)
        at j (no h) =
            let e : n + (j - n) ≡ j = omega arith in
            part_beyond n now (ended_to n now s₀) until (system_of (with_stations a.stations s)) p p (8 * p) a.part j (omega arith)
            ∙ (rw e at (firsts-beyond n (j - n) (λ k. ended_at s₀.clock now k (get_or s₀.stations k no_station)) s₀.stations no_station)) ∙ sym (a.rest j (omega arith))

module _ (n now : ℕ) (s₀ : System) (end until : ℕ) (s : Layout) (busy : List Bool) (p : ℕ) (hp : p < n) (hn : n ≤ 8) where
  -- its timer
  module _ (a : Turn n now s₀ end until s busy p p p (8 * p)) where
    pub turn_ended : (y : Layout) → y ≡ ended_in now p s → Turn n now s₀ end until y busy (p + 1) p p (8 * p)
    turn_ended y g =
        record {
          high = a.high;
          wide = subst Wide (sym g) (record { used = a.wide.used; messages = a.wide.messages });
          silent = subst (λ (z : Layout). Silent n z.used busy (8 * n)) (sym g) a.silent;
          chances = chances_ended n now s₀ until s p p (8 * p) a.chances hp hn y g;
        }

  -- it has sent over all its links, or it does not send
  pub turn_sends : (q : ℕ) → q ≡ n → Turn n now s₀ end until s busy (p + 1) p p (8 * p + q) → sends_at now (ended_to n now s₀) p ≡ true → (v : ℕ) (y : Layout) (busy' : List Bool) (until' : ℕ) → v ≡ get_or s.sent p 0 + (s.n - 1)
      → y ≡ with_sent (set s.sent p v) s → busy' ≡ busy → until' ≡ until → Turn n now s₀ end until' y busy' (p + 1) p (p + 1) (8 * (p + 1))
  turn_sends q z a sends v y busy' until' e g b u =
      rw (b, u)
      (record {
        high = a.high;
        wide = subst Wide (sym g) (record { used = a.wide.used; messages = a.wide.messages });
        silent = subst (λ (z : Layout). Silent n z.used busy (8 * n)) (sym g) a.silent;
        chances = chances_counts n now s₀ until s p p (8 * (p + 1)) (chances_row n now s₀ until s p hp (subst (λ (j : ℕ). Chances n now s₀ until s (p + 1) p p (8 * p + j)) z a.chances)) hp v y (omega arith) sends e g;
      })

  pub turn_rests : Turn n now s₀ end until s busy (p + 1) p p (8 * p) → sends_at now (ended_to n now s₀) p ≡ false → (y : Layout) (busy' : List Bool) (until' : ℕ) → y ≡ s → busy' ≡ busy → until' ≡ until
      → Turn n now s₀ end until' y busy' (p + 1) p (p + 1) (8 * (p + 1))
  turn_rests a silent y busy' until' g b u =
      rw (g, b, u)
      (record {
        high = a.high;
        wide = a.wide;
        silent = a.silent;
        chances = chances_silent n now s₀ until s p p (8 * (p + 1)) (chances_rests n now s₀ until s p hp a.chances silent) hp (omega arith) silent;
      })

  -- and goes on
  module _ (c k : ℕ) (a : Turn n now s₀ end until s busy (p + 1) p c k) (until₁ until' : ℕ) (y : Layout) (busy' : List Bool) (u : until₁ ≡ until) (le : until' ≤ until₁) (b : busy' ≡ busy)
      (calm : (t : ℕ) → now < t → t ≤ until' → quiet_station t (get_or y.stations p no_station) ≡ true) where
    pub turn_slots : (x v : Station) → x ≡ get_or (ended_to n now s₀).stations p no_station → x.slot ≡ now → v ≡ slotting_of s.clock (p + 1) s.period now (get_or s.stations p no_station) → y ≡ with_stations (set s.stations p v) s
        → Turn n now s₀ end until' y busy' (p + 1) (p + 1) c k
    turn_slots x v h due e g =
        rw b
        (record {
          high = omega (arith, a.high);
          wide = subst Wide (sym g) (record { used = a.wide.used; messages = a.wide.messages });
          silent = subst (λ (z : Layout). Silent n z.used busy (8 * n)) (sym g) a.silent;
          chances = chances_slots n now s₀ until s p c k a.chances hp until' v y (omega arith) (omega arith) (ap (λ (z : Station). z.slot) (chances_station n now s₀ until s p c k a.chances hp ∙ sym h) ∙ due) e g calm;
        })

    pub turn_waits : ((get_or s.stations p no_station).slot ≡ now → ⊥) → y ≡ s → Turn n now s₀ end until' y busy' (p + 1) (p + 1) c k
    turn_waits due g =
        rw b
        (record {
          high = omega (arith, a.high);
          wide = subst Wide (sym g) a.wide;
          silent = subst (λ (z : Layout). Silent n z.used busy (8 * n)) (sym g) a.silent;
          chances = chances_waits n now s₀ until s p c k a.chances hp until' y (omega arith) (omega arith) due g calm;
        })
