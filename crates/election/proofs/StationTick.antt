-- One station through a tick of a sound system: it fits the end of the tick, and what it sends is in range.
use mathlib.Core.Path.{◌≡◌, refl, sym, ap, ◌∙◌}
use mathlib.Core.Logic.{◌≢◌}
use mathlib.Core.List.{List}
use mathlib.Core.Bool.{Bool, true, false}
use Prim.Native.Nat.{ℕ, ◌+◌, ◌<◌, ◌≤◌}
use native.Mathlib.Omega.{arith}
use Rattle.lists.specs.Fold.{each}
use Rattle.station.specs.declared.Station.{Station}
use Rattle.election.specs.Heads.{expiring_of, slotting_of, fits, content_in, hearing, slotting}
use Rattle.election.specs.System.{station, underway}
use Rattle.election.specs.Tick.{next, announced, heard_link, heard_all, expired_now, slotted_now, heard_by, settled, sending, tick}
use Rattle.election.specs.declared.System.{System}
use Rattle.election.proofs.Delivery.{Ready, hears-below, fit-ready}
use Rattle.election.proofs.Heads.{fits_slot, During, expired-fits, expired-slots, during_fits, during_slots, slot_keeps, slot_content, down-slot, down-keeps, expiring_of-unchanged}
use Rattle.election.proofs.Places.{In, tick-station}
use Rattle.election.proofs.Soundness.{Sound, underway-spaced, underway-self}
use Rattle.election.proofs.Steps.{expired_now-elim, slotted_now-elim, settled_up, settled-down, settled-unchanged, sending-of}

-- an up station after (b): the send chance can come if it is due, and otherwise the station fits the end of the tick
pub record Timed (clock : Bool) (ranks : List ℕ) (me n period now : ℕ) (z : Station) : Type 0 where
  pub slots : z.slot ≡ now → fits_slot clock ranks me n period now z ≡ true
  pub ends : z.slot ≢ now → fits clock me n period now z ≡ true

module _ (clock : Bool) (ranks : List ℕ) (me n period now : ℕ) where
  -- (b)
  pub expires_timed : (y : Station) → During clock ranks me n period now y → Timed clock ranks me n period now (expired_now (expiring_of clock me) now y)
  expires_timed y d =
      expired_now-elim (Timed clock ranks me n period now) (expiring_of clock me) now y
      (λ due.
      let same : (expiring_of clock me y).slot ≡ y.slot = (expiring_of-unchanged clock me y).slot in
      record {
        slots = λ i. expired-slots ranks me n period now y clock d due (sym same ∙ i);
        ends = λ i. expired-fits ranks me n period now y clock d due (λ j. i (same ∙ j));
      })
      (λ ne. record { slots = during_slots ranks me n period now y clock d ne; ends = during_fits ranks me n period now y clock d ne })

  -- (c) leaves a station that fits the end of the tick
  pub slots_fit : (z : Station) → Timed clock ranks me n period now z → fits clock me n period now (slotted_now (slotting_of clock me period now) now z) ≡ true
  slots_fit z t = slotted_now-elim (λ (y : Station). fits clock me n period now y ≡ true) (slotting_of clock me period now) now z (λ e. slot_keeps ranks me n period now z clock (t.slots e)) t.ends

module _ (s : System) (f : Sound s) (before : s.tick < 1000000) (p : ℕ) (h : In s.n p) where
  -- what is due from the first j senders is heard, and so is all
  pub heard-below : (station s p).up ≡ true → (j : ℕ) → j ≤ s.n → Ready s.clock s.ranks p s.n s.period (next s) j (each j (λ k. heard_link (hearing s) p (k + 1) (next s) (underway s (k + 1) p)) (station s p))
  heard-below u j l =
      hears-below s.clock s.ranks p s.n s.period s.tick (λ q. station s q) (λ q. underway s q p) (λ q hq ne. underway-spaced s f q p hq h ne) (underway-self s f p h) j (station s p) l
      (fit-ready s.clock s.ranks p s.n s.period s.tick (station s p) before f.ranked (f.fits p h) u)

  pub heard-timely : (station s p).up ≡ true → During s.clock s.ranks p s.n s.period (next s) (heard_by s p (station s p))
  unfolding heard_all
  heard-timely u = (heard-below u s.n (omega arith)).during

  pub settled-timed : (station s p).up ≡ true → Timed s.clock s.ranks p s.n s.period (next s) (settled s p)
  settled-timed u = rw (settled_up s p u) (expires_timed s.clock s.ranks p s.n s.period (next s) _ (heard-timely u))

  -- a station that is down has no send chance, so the tick leaves it as it is
  tick-down : (station s p).up ≡ false → station (tick s) p ≡ station s p
  tick-down u =
      let none : (station s p).slot ≡ 0 = down-slot p s.n s.period s.tick (station s p) s.clock (f.fits p h) u in
      tick-station s f.n-high p h ∙ ap (slotted_now (slotting s p (next s)) (next s)) (settled-down s p u)
      ∙ slotted_now-elim (λ (y : Station). y ≡ station s p) (slotting s p (next s)) (next s) (station s p) (λ e. absurd (omega arith)) (λ e. refl)

  pub tick-fits : fits s.clock p s.n s.period (next s) (station (tick s) p) ≡ true
  tick-fits = go (station s p).up refl
    where
      go : (b : Bool) → (station s p).up ≡ b → fits s.clock p s.n s.period (next s) (station (tick s) p) ≡ true
      go true u = rw (tick-station s f.n-high p h) (slots_fit s.clock s.ranks p s.n s.period (next s) (settled s p) (settled-timed u))
      go false u = rw (tick-down u) (down-keeps p s.n s.period s.tick (station s p) s.clock (next s) (f.fits p h) u)

  -- what is sent is in range
  pub sends-content : (due : ℕ) → sending s p ≡ true → content_in s.clock s.n s.period (next s) (announced (next s) due (settled s p)) ≡ true
  sends-content due e =
      let (u, at) = sending-of s p e in
      slot_content s.ranks p s.n s.period (next s) (settled s p) s.clock (next s) due ((settled-timed u).slots ((settled-unchanged s p).slot ∙ at))
