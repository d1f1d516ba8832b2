-- A tick of a sound system leaves a sound one, and no link carries more messages than it has places.
use mathlib.Core.Path.{◌≡◌, refl, sym, ◌∙◌}
use mathlib.Core.Logic.{◌≢◌}
use mathlib.Core.List.{[], ◌∷◌, ◌++◌, append-nil}
use mathlib.Core.Bool.{Bool, true, false, cond, not, ◌&&◌}
use Prim.Native.Nat.{ℕ, zero, suc, ◌+◌, ◌-◌, ◌*◌, ◌<◌, ◌≤◌}
use native.Mathlib.Omega.{arith}
use lib.ListN.{length, get_or}
use lib.Dec.{eqb}
use borrow.Author.Tests.{eqb-false, le-ltb}
use Rattle.fit.specs.Fit.{longest_delay}
use Rattle.lists.proofs.Bools.{cond_elim}
use Rattle.lists.proofs.Entries.{get_d_up_to}
use Rattle.election.specs.Claims.{LinkRoom}
use Rattle.election.specs.Sound.{empty_place, empty_seat}
use Rattle.election.specs.System.{no_station, no_link, station, place, from, to, delay, sent_by, underway, is_link, places}
use Rattle.election.specs.Tick.{next, announced, settled, sending, later, sent, underway_after, seat_next, sent_next, link_next, tick, ticks}
use Rattle.election.specs.declared.Message.{Message}
use Rattle.election.specs.declared.System.{System}
use Rattle.election.proofs.Heads.{content_later}
use Rattle.election.proofs.Links.{Posted, Linked, holding-linked}
use Rattle.election.proofs.Places.{In, tick-tick, tick-ready, tick-sent, tick-link}
use Rattle.election.proofs.Soundness.{Sound, sound-of, underway-spaced}
use Rattle.election.proofs.Spaced.{Spaced, raise, respace, spaced-snoc, spaced-later, in_window}
use Rattle.election.proofs.StationTick.{tick-fits, sends-content}
use Rattle.election.proofs.Steps.{sending-of, tick-up, tick-slotted, tick-slot}

module _ (s : System) (f : Sound s) (before : s.tick < 1000000) where
  -- one link
  module _ (p q : ℕ) (hp : In s.n p) (hq : In s.n q) (ne : p ≢ q) where
    abbrev Old : Message → Type 0
    Old m = Posted s.clock s.n s.period s.tick (station s p) m × (m.due ≢ next s)

    abbrev New : Message → Type 0
    New = Posted s.clock s.n s.period (next s) (station (tick s) p)

    -- a message that is not due now stays under way
    stays : (m : Message) → Old m → New m
    stays m (o, late) =
        record {
          sent-by = omega (arith, o.sent-by);
          due_after = omega (arith, o.due_after);
          due_by = o.due_by;
          content = content_later s.clock s.n s.period s.tick (next s) m (omega arith) o.content;
          before = λ u. omega (arith, o.before (sym (tick-up s f.n-high p hp) ∙ u), tick-slot s f.n-high p hp);
        }

    -- the message that is sent now
    abbrev message : Message
    message = announced (next s) (next s + delay s p q) (settled s p)

    new : sending s p ≡ true → delay s p q ≢ 0 → New message
    new e some =
        record {
          sent-by = omega arith;
          due_after = omega arith;
          due_by = omega (arith, f.short p q hp hq ne);
          content = sends-content s f before p hp (next s + delay s p q) e;
          before = λ u. omega (arith, tick-slotted s f.n-high p hp (sending-of s p e).1);
        }

    pub after-spaced : Spaced New s.period 0 (underway_after s p q)
    unfolding sent
    after-spaced = go (sending s p) refl (eqb (delay s p q) 0) refl (spaced-later (next s) (underway-spaced s f p q hp hq ne))
      where
        go : (b : Bool) → sending s p ≡ b → (c : Bool) → eqb (delay s p q) 0 ≡ c → Spaced Old s.period 0 (later (next s) (underway s p q)) → Spaced New s.period 0 (later (next s) (underway s p q) ++ cond (b && not c) (message ∷ []) [])
        go true e false d r =
            let (up, due) = sending-of s p e in
            spaced-snoc message stays (λ m o. omega (arith, o.0.before up)) (omega arith) (new e (eqb-false (delay s p q) 0 d)) r
        go true e true d r = rw append-nil (respace stays r)
        go false e c d r = rw append-nil (respace stays r)

    -- sendings within the longest delay, at least 16 apart
    pub after-few : length (underway_after s p q) ≤ places
    after-few =
        let low : Spaced New s.period (s.tick + 2 - longest_delay) (underway_after s p q) = raise (s.tick + 2 - longest_delay) (λ m o. omega (arith, o.due_after, o.due_by)) after-spaced in
        omega (arith, in_window (s.tick + 2 - longest_delay) (s.tick + 1) f.period-low (λ m o. o.sent-by) (omega arith) (omega arith) low)

    pub after-linked : Linked s.clock s.n s.period (next s) (station (tick s) p) (get_or (tick s).links (place p q) no_link)
    after-linked =
        rw (tick-link s f.n-high p q hp hq ne)
        (holding-linked s.clock s.n s.period (next s) (station (tick s) p) (underway_after s p q) after-few after-spaced)

  -- a station sends at most seven messages in a tick
  after-sent : (p : ℕ) → In s.n p → sent_by (tick s) p ≤ 7 * next s
  after-sent p h =
      rw (tick-sent s f.n-high p h)
      (cond_elim (λ (k : ℕ). k ≤ 7 * next s) (sending s p) (λ e. omega (arith, f.few p h, f.n-high)) (λ e. omega (arith, f.few p h)))

  -- places without a station or a link stay as they are
  after-seat : (k : ℕ) → s.n ≤ k → k < 8 → empty_seat (get_or (tick s).stations k no_station) (get_or (tick s).sent k 0) ≡ true
  unfolding tick
  after-seat k l h =
      rw (get_d_up_to 8 (seat_next s) k no_station h, get_d_up_to 8 (sent_next s) k 0 h, le-ltb k s.n l)
      (f.no_station_lem k l h)

  after-place : (k : ℕ) → k < 64 → is_link s.n (from k) (to k) ≡ false → empty_place (get_or (tick s).delays k 0) (get_or (tick s).links k no_link) ≡ true
  unfolding tick
  after-place k h e =
      rw (get_d_up_to 64 (link_next s) k no_link h, e)
      (f.no_link_lem k h e)

  pub tick-sound : Sound (tick s)
  unfolding tick
  tick-sound =
      record {
        n-low = f.n-low;
        n-high = f.n-high;
        period-low = f.period-low;
        period-high = f.period-high;
        tick-high = omega arith;
        fits = tick-fits s f before;
        few = after-sent;
        no_station_lem = after-seat;
        short = f.short;
        linked = after-linked;
        no_link_lem = after-place;
        ranked = f.ranked;
      }

-- what each tick keeps, a run of ticks keeps
pub ticks-keep : (P : System → Type 0) → ((s : System) → P s → s.tick < 1000000 → P (tick s)) → (t : ℕ) (s : System) → s.tick + t ≤ 1000000 → P s → P (ticks t s)
unfolding ticks
ticks-keep P f zero s h p = p
ticks-keep P f (suc t) s h p = ticks-keep P f t (tick s) (rw (tick-tick s) (omega arith)) (f s p (omega arith))

pub ticks-sound : (t : ℕ) (s : System) → s.tick + t ≤ 1000000 → Sound s → Sound (ticks t s)
ticks-sound = ticks-keep Sound tick-sound

pub ticks-ready : (t : ℕ) (s : System) → (ticks t s).ready ≡ s.ready
unfolding ticks
ticks-ready zero s = refl
ticks-ready (suc t) s = ticks-ready t (tick s) ∙ tick-ready s

-- a run after a run is one run
pub ticks-add : (j k : ℕ) (s : System) → ticks k (ticks j s) ≡ ticks (j + k) s
unfolding ticks
ticks-add zero k s = let z : zero + k ≡ k = omega arith in rw z
ticks-add (suc j) k s = let z : suc j + k ≡ suc (j + k) = omega arith in rw z (ticks-add j k (tick s))

pub link-room : LinkRoom
link-room s e u h p q p-low p-high q-low q-high ne =
    after-few s (sound-of s e u) h p q (record { low = p-low; high = p-high }) (record { low = q-low; high = q-high }) ne
