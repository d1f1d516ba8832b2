-- What a sound system gives to the steps of a tick: sums and places in range.
use mathlib.Core.Path.{◌≡◌, refl, sym, ap, ◌∙◌}
use mathlib.Core.Bool.{Bool, true, false}
use Prim.Native.Nat.{ℕ, ◌+◌, ◌-◌, ◌*◌, ◌<◌, ◌≤◌}
use native.Mathlib.Decide.{ℕ_discrete}
use native.Mathlib.Omega.{arith}
use lib.Dec.{eqb}
use lib.ListN.{get_or}
use borrow.Author.Tests.{eqb-true}
use Rattle.election.specs.Heads.{hearing}
use Rattle.lists.specs.Fold.{each}
use Rattle.lists.proofs.Bools.{three}
use Rattle.station.specs.Order.{entry}
use Rattle.station.specs.Limits.{last_tick, longest}
use Rattle.station.specs.declared.Station.{Station}
use Rattle.election.specs.Sound.{empty_place}
use Rattle.election.specs.System.{no_station, no_link, station, place, underway, places}
use Rattle.election.specs.Tick.{heard_link, heard_all, heard_by, settled}
use Rattle.election.specs.declared.Link.{Link}
use Rattle.election.specs.declared.System.{System}
use Rattle.election.proofs.Places.{In, seat_in, widen, place-in, from_place, to-place}
use Rattle.election.proofs.Soundness.{Sound, no_self, sound-of}
use Rattle.election.proofs.Heads.{down-slot}
use Rattle.election.proofs.StationTick.{heard-timely, settled-timed}
use Rattle.election.proofs.Steps.{settled-down}
use Rattle.ticks.specs.Sending.{Ticking}
use Rattle.ticks.proofs.Safe.{fits-timeouts, during_safe, slot_timeout}

pub unused-self : (delay : ℕ) (l : Link) → empty_place delay l ≡ true → l.used ≡ 0
unfolding empty_place
unused-self delay l e = let (a, b, c) = three (eqb delay 0) (eqb l.used 0) _ e in eqb-true l.used 0 b

module _ (s : System) (t : Ticking s) where
  pub is : Sound s
  is = sound-of s t.is-sound t.is-ready

  timeouts-low : (p q : ℕ) → In s.n p → In s.n q → (entry (station s p).timeouts q ≤ longest last_tick) × ((station s p).timeout ≤ longest last_tick)
  timeouts-low p q ip iq =
      let (more, one) = fits-timeouts s.clock p s.n s.period s.tick (station s p) is.tick-high (is.fits p ip) in
      (more (q - 1) (omega (arith, iq.low, iq.high, is.n-high)), one)

  -- a link of the system has no more messages than places
  few-used : (q p : ℕ) → In s.n q → In s.n p → (get_or s.links (place q p) no_link).used ≤ places
  few-used q p iq ip = go (ℕ_discrete q p)
    where
      go : Dec (q ≡ p) → (get_or s.links (place q p) no_link).used ≤ places
      go (no ne) = (is.linked q p iq ip ne).few
      go (yes e) =
          let w : In 8 p = widen s.n p is.n-high ip in
          let z : (get_or s.links (place p p) no_link).used ≡ 0 = unused-self (get_or s.delays (place p p) 0) (get_or s.links (place p p) no_link) (is.no_link_lem (place p p) (place-in p p w w) (rw (from_place p p w w, to-place p p w w) (no_self s.n p))) in
          rw e (omega arith)

  -- a timer that is due after (a) can end
  timer_safe : (p : ℕ) → In s.n p → (station s p).up ≡ true → (x : Station) → x ≡ heard_by s p (station s p)
      → x.timer ≡ s.tick + 1 → (1 ≤ x.leader) × (x.leader ≤ 8) × (entry x.timeouts x.leader ≤ longest last_tick) × (x.timeout ≤ longest last_tick)
  timer_safe p ip u x e d = during_safe s.ranks p s.n s.period (s.tick + 1) x s.clock (rw e (heard-timely s is t.room p ip u)) d

-- the same by places from 0, as the loops count
module _ (s : System) (t : Ticking s) (p q : ℕ) (hp : p < s.n) (hq : q < s.n) where
  ip : In s.n (p + 1)
  ip = seat_in s.n p hp

  iq : In s.n (q + 1)
  iq = seat_in s.n q hq

  pub used_at : (get_or s.links (8 * q + p) no_link).used ≤ places
  used_at =
      let a : p + 1 - 1 ≡ p = omega arith in
      let b : q + 1 - 1 ≡ q = omega arith in
      rw (a, b) at (few-used s t (q + 1) (p + 1) iq ip)

  pub timeout-at : (x : Station) → x.timeouts ≡ (get_or s.stations p no_station).timeouts → x.timeout ≡ (get_or s.stations p no_station).timeout
      → (entry x.timeouts (q + 1) ≤ longest last_tick) × (x.timeout ≤ longest last_tick)
  timeout-at x e f =
      let a : p + 1 - 1 ≡ p = omega arith in
      rw (e, f) (rw a at (timeouts-low s t (p + 1) (q + 1) ip iq))

  pub timer_at : (x : Station) → x ≡ each s.n (λ k. heard_link (hearing s) (p + 1) (k + 1) (s.tick + 1) (underway s (k + 1) (p + 1))) (get_or s.stations p no_station)
      → (get_or s.stations p no_station).up ≡ true → x.timer ≡ s.tick + 1 → (1 ≤ x.leader) × (x.leader ≤ 8) × (entry x.timeouts x.leader ≤ longest last_tick) × (x.timeout ≤ longest last_tick)
  unfolding heard_all
  timer_at x e u d =
      let a : p + 1 - 1 ≡ p = omega arith in
      timer_safe s t (p + 1) ip (rw a u) x (e ∙ ap (each s.n (λ k. heard_link (hearing s) (p + 1) (k + 1) (s.tick + 1) (underway s (k + 1) (p + 1)))) (ap (λ z. get_or s.stations z no_station) (sym a))) d

-- a station whose send chance is due after (b)
pub chance-safe : (s : System) → Ticking s → (p : ℕ) → p < s.n → (settled s (p + 1)).slot ≡ s.tick + 1 → (settled s (p + 1)).timeout ≤ longest last_tick
chance-safe s t p h due = go (station s (p + 1)).up refl
  where
    i : In s.n (p + 1)
    i = seat_in s.n p h

    go : (b : Bool) → (station s (p + 1)).up ≡ b → (settled s (p + 1)).timeout ≤ longest last_tick
    go true u = slot_timeout s.ranks (p + 1) s.n s.period (s.tick + 1) (settled s (p + 1)) s.clock ((settled-timed s (is s t) t.room (p + 1) i u).slots due)
    go false d =
        let none : (station s (p + 1)).slot ≡ 0 = down-slot (p + 1) s.n s.period s.tick (station s (p + 1)) s.clock ((is s t).fits (p + 1) i) d in
        absurd (omega (arith, ap (λ (x : Station). x.slot) (settled-down s (p + 1) d), due))

-- a sent count has room for one more sending
pub sent-at : (s : System) → Ticking s → (k : ℕ) → k < s.n → (1 ≤ s.n) × (s.n ≤ 8) × (get_or s.sent k 0 ≤ 7000000)
sent-at s t k h =
    let f = is s t in
    let b : k + 1 - 1 ≡ k = omega arith in
    (omega (arith, f.n-low), f.n-high, omega (arith, rw b at (f.few (k + 1) (seat_in s.n k h)), f.tick-high))
