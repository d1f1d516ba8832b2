-- The fresh system is sound, and so is what set up leaves.
use mathlib.Core.Path.{◌≡◌, refl, ◌∙◌}
use mathlib.Core.Logic.{◌≢◌}
use mathlib.Core.List.{[]}
use mathlib.Core.Bool.{Bool, true, false, cond}
use Prim.Native.Nat.{ℕ, ◌+◌, ◌-◌, ◌<◌, ◌≤◌}
use native.Mathlib.Omega.{arith}
use lib.ListN.{get_or, replicate, get_or-replicate}
use lib.Dec.{ltb}
use borrow.Author.Tests.{lt-ltb, le-ltb}
use Rattle.lists.proofs.Entries.{get_d_up_to}
use Rattle.lists.proofs.Test.{all_of}
use Rattle.fit.specs.Fit.{longest_delay}
use Rattle.station.specs.declared.Station.{Station}
use Rattle.fit.proofs.Down.{down-cleared}
use Rattle.fit.proofs.Tests.{of_ranks}
use Rattle.station.proofs.Vectors.{zeros-at}
use Rattle.election.specs.Claims.{FreshSound}
use Rattle.election.specs.Heads.{fits, ranked_of}
use Rattle.election.specs.Sound.{empty_station, empty_message, message_at, empty_place, empty_seat, sound}
use Rattle.election.specs.System.{places, no_station, no_link, station, place, from, to, delay, is_link, unstarted, holding, fresh, initial}
use Rattle.election.proofs.Heads.{unstarted-fits}
use Rattle.election.proofs.Links.{Linked, holding-used, holding-rest, holding-linked, unused-empty}
use Rattle.election.proofs.Places.{In, place-in, widen, at-link, is-link}
use Rattle.election.proofs.Soundness.{Sound}
use Rattle.election.proofs.Spaced.{none}

pub fresh-sound : FreshSound
unfolding sound fresh
fresh-sound = refl

-- a link without messages
pub empty_linked : (clock : Bool) (n period tick : ℕ) (sender : Station) → Linked clock n period tick sender (holding [])
empty_linked clock n period tick sender = holding-linked clock n period tick sender [] (omega arith) none

pub empty_place_lem : empty_place 0 (holding []) ≡ true
unfolding empty_place
empty_place_lem =
    rw (holding-used [] (omega arith))
    (all_of places (λ i. empty_message (message_at (holding []) i)) (λ k h. rw (holding-rest [] (omega arith) k h (omega arith)) unused-empty))

pub empty_seat_lem : empty_seat (unstarted 0) 0 ≡ true
unfolding empty_seat empty_station
empty_seat_lem = rw (down-cleared (unstarted 0))

pub initial-ready : (clock : Bool) (n period : ℕ) → (initial clock n period).ready ≡ true
unfolding initial
initial-ready clock n period = refl

pub initial-n : (clock : Bool) (n period : ℕ) → (initial clock n period).n ≡ n
unfolding initial
initial-n clock n period = refl

pub initial-station : (clock : Bool) (n period : ℕ) → n ≤ 8 → (p : ℕ) → In n p → station (initial clock n period) p ≡ unstarted p
unfolding initial
initial-station clock n period n-high p h =
    let e : p - 1 + 1 ≡ p = omega (arith, h.low) in
    get_d_up_to 8 (λ k. unstarted (cond (ltb k n) (k + 1) 0)) (p - 1) no_station (omega (arith, h.low, h.high))
    ∙ rw (lt-ltb (p - 1) n (omega (arith, h.low, h.high)), e)

module _ (clock : Bool) (n period : ℕ) (n-low : 2 ≤ n) (n-high : n ≤ 8) (p-low : 16 ≤ period) (p-high : period ≤ 255) where
  initial-fits : (p : ℕ) → In n p → fits clock p n period 0 (station (initial clock n period) p) ≡ true
  initial-fits p h =
      rw (initial-station clock n period n-high p h)
      (unstarted-fits clock p n period 0 (record { n-low = n-low; n-high = n-high; period-low = p-low; period-high = p-high; me_low = h.low; me_high = h.high }))

  initial-seat : (k : ℕ) → n ≤ k → k < 8 → empty_seat (get_or (initial clock n period).stations k no_station) (get_or (initial clock n period).sent k 0) ≡ true
  unfolding initial
  initial-seat k l h =
      rw (get_d_up_to 8 (λ k. unstarted (cond (ltb k n) (k + 1) 0)) k no_station h, le-ltb k n l, zeros-at k) empty_seat_lem

  initial-short : (p q : ℕ) → In n p → In n q → p ≢ q → delay (initial clock n period) p q ≤ longest_delay
  unfolding initial
  initial-short p q hp hq ne =
      let wp : In 8 p = widen n p n-high hp in
      let wq : In 8 q = widen n q n-high hq in
      rw (at-link {A = ℕ} (λ a b. cond (is_link n a b) 1 0) p q 0 wp wq, is-link n p q hp hq ne) (omega arith)

  initial-linked : (p q : ℕ) → In n p → In n q → p ≢ q → Linked clock n period 0 (station (initial clock n period) p) (get_or (initial clock n period).links (place p q) no_link)
  unfolding initial
  initial-linked p q hp hq ne =
      rw (get_or-replicate 64 (place p q) (holding []) no_link (place-in p q (widen n p n-high hp) (widen n q n-high hq)))
      (empty_linked clock n period 0 (station (initial clock n period) p))

  initial-place : (k : ℕ) → k < 64 → is_link n (from k) (to k) ≡ false → empty_place (get_or (initial clock n period).delays k 0) (get_or (initial clock n period).links k no_link) ≡ true
  unfolding initial
  initial-place k h e =
      rw (get_d_up_to {A = ℕ} 64 (λ k. cond (is_link n (from k) (to k)) 1 0) k 0 h, e, get_or-replicate 64 k (holding []) no_link h) empty_place_lem

  pub initial-sound : Sound (initial clock n period)
  unfolding initial
  initial-sound =
      record {
        n-low = n-low;
        n-high = n-high;
        period-low = p-low;
        period-high = p-high;
        tick-high = omega arith;
        fits = initial-fits;
        few = λ p h. (omega (arith, zeros-at (p - 1)));
        no_station_lem = initial-seat;
        short = initial-short;
        linked = initial-linked;
        no_link_lem = initial-place;
        ranked = of_ranks (ranked_of clock n) (replicate 8 0) (λ k h. omega (arith, zeros-at k));
      }
