-- Where the stations and links of a system stand, and what stands there after a tick.
use mathlib.Core.Path.{◌≡◌, refl, ap, ◌∙◌}
use mathlib.Core.Logic.{◌≢◌}
use mathlib.Core.List.{List}
use mathlib.Core.Bool.{true, cond}
use Prim.Native.Nat.{ℕ, ◌+◌, ◌-◌, ◌<◌, ◌≤◌}
use native.Mathlib.Omega.{arith}
use lib.ListN.{length, get_or, replicate}
use borrow.Author.Tests.{lt-ltb, ne_eqb}
use Rattle.lists.specs.Entries.{up_to}
use Rattle.lists.proofs.Entries.{get_d_up_to, take_over}
use Rattle.station.specs.declared.Station.{Station}
use Rattle.election.specs.System.{no_station, no_link, station_of, station, place, from, to, sent_by, messages, holding, underway, is_link, places}
use Rattle.election.specs.Tick.{sending, station_next, underway_after, seat_next, sent_next, link_next, tick}
use Rattle.election.specs.declared.Message.{Message}
use Rattle.election.specs.declared.System.{System}

-- a station of the system
pub record In (n p : ℕ) : Type 0 where
  pub low : 1 ≤ p
  pub high : p ≤ n

-- the station at a place below n
pub seat_in : (n k : ℕ) → k < n → In n (k + 1)
seat_in n k h = record { low = omega arith; high = omega arith }

pub seat_at : (stations : List Station) (k : ℕ) → station_of stations (k + 1) ≡ get_or stations k no_station
seat_at stations k = let e : k + 1 - 1 ≡ k = omega arith in rw e

pub seat_of : (s : System) (k : ℕ) → station s (k + 1) ≡ get_or s.stations k no_station
seat_of s k = seat_at s.stations k

-- a link's place, and the link at it
module _ (p q : ℕ) (hp : In 8 p) (hq : In 8 q) where
  pub place-in : place p q < 64
  place-in = omega (arith, hp.low, hp.high, hq.low, hq.high)

  pub from_place : from (place p q) ≡ p
  from_place = omega (arith, hp.low, hp.high, hq.low, hq.high)

  pub to-place : to (place p q) ≡ q
  to-place = omega (arith, hp.low, hp.high, hq.low, hq.high)

-- two links at one place are one link
pub same_place : (p q a b : ℕ) → In 8 p → In 8 q → In 8 a → In 8 b → place p q ≡ place a b → (p ≡ a) × (q ≡ b)
same_place p q a b hp hq ha hb e =
    (omega (arith, hp.low, hp.high, hq.low, hq.high, ha.low, ha.high, hb.low, hb.high), omega (arith, hp.low, hp.high, hq.low, hq.high, ha.low, ha.high, hb.low, hb.high))

pub widen : (n p : ℕ) → n ≤ 8 → In n p → In 8 p
widen n p h i = record { low = i.low; high = omega (arith, i.high) }

-- an entry of a table over the links
pub at-link : {A : Type 0} (f : ℕ → ℕ → A) (p q : ℕ) (d : A) → In 8 p → In 8 q → get_or (up_to 64 (λ k. f (from k) (to k))) (place p q) d ≡ f p q
at-link f p q d hp hq =
    get_d_up_to 64 (λ k. f (from k) (to k)) (place p q) d (place-in p q hp hq) ∙ ap (λ x. f x (to (place p q))) (from_place p q hp hq) ∙ ap (f p) (to-place p q hp hq)

pub is-link : (n p q : ℕ) → In n p → In n q → p ≢ q → is_link n p q ≡ true
is-link n p q hp hq ne = rw (lt-ltb (p - 1) n (omega (arith, hp.low, hp.high)), lt-ltb (q - 1) n (omega (arith, hq.low, hq.high)), ne_eqb p q ne)

-- a link that holds messages has them
pub messages-held : (ms : List Message) → messages (holding ms) ≡ ms
unfolding messages holding
messages-held ms = take_over (length ms) ms (replicate places _) refl

-- the system after a tick
module _ (s : System) where
  pub tick-tick : (tick s).tick ≡ s.tick + 1
  unfolding tick
  tick-tick = refl

  pub tick-n : (tick s).n ≡ s.n
  unfolding tick
  tick-n = refl

  pub tick-clock : (tick s).clock ≡ s.clock
  unfolding tick
  tick-clock = refl

  pub tick-ready : (tick s).ready ≡ s.ready
  unfolding tick
  tick-ready = refl

  module _ (n-high : s.n ≤ 8) where
    pub tick-station : (p : ℕ) → In s.n p → station (tick s) p ≡ station_next s p
    unfolding tick
    tick-station p h =
        let e : p - 1 + 1 ≡ p = omega (arith, h.low) in
        get_d_up_to 8 (seat_next s) (p - 1) no_station (omega (arith, h.low, h.high))
        ∙ rw (lt-ltb (p - 1) s.n (omega (arith, h.low, h.high)), e)

    pub tick-sent : (p : ℕ) → In s.n p → sent_by (tick s) p ≡ cond (sending s p) (sent_by s p + (s.n - 1)) (sent_by s p)
    unfolding tick
    tick-sent p h =
        let e : p - 1 + 1 ≡ p = omega (arith, h.low) in
        get_d_up_to 8 (sent_next s) (p - 1) 0 (omega (arith, h.low, h.high))
        ∙ rw (lt-ltb (p - 1) s.n (omega (arith, h.low, h.high)), e)

    pub tick-link : (p q : ℕ) → In s.n p → In s.n q → p ≢ q → get_or (tick s).links (place p q) no_link ≡ holding (underway_after s p q)
    unfolding tick
    tick-link p q hp hq ne =
        let wp : In 8 p = widen s.n p n-high hp in
        let wq : In 8 q = widen s.n q n-high hq in
        get_d_up_to 64 (link_next s) (place p q) no_link (place-in p q wp wq)
        ∙ rw (from_place p q wp wq, to-place p q wp wq, is-link s.n p q hp hq ne)

    pub tick-underway : (p q : ℕ) → In s.n p → In s.n q → p ≢ q → underway (tick s) p q ≡ underway_after s p q
    tick-underway p q hp hq ne = ap messages (tick-link p q hp hq ne) ∙ messages-held (underway_after s p q)
