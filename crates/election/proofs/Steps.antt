-- The steps of a tick at one station: what each keeps, and what the tick does to single fields.
use mathlib.Core.Path.{◌≡◌, refl, sym, ap, ◌∙◌}
use mathlib.Core.Logic.{◌≢◌}
use mathlib.Core.List.{List, [], ◌∷◌}
use mathlib.Core.Bool.{true, false}
use Prim.Native.Nat.{ℕ, ◌+◌, ◌≤◌}
use native.Mathlib.Omega.{arith}
use lib.Dec.{eqb}
use borrow.Author.Tests.{eqb-true, eqb-false}
use Rattle.lists.specs.Every.{All}
use Rattle.lists.proofs.Bools.{three, cond_elim}
use Rattle.lists.proofs.Every.{all_every}
use Rattle.lists.proofs.Fold.{each_keeps}
use Rattle.station.specs.declared.Station.{Station}
use Rattle.station.proofs.Unchanged.{Unchanged, unchanged, then_unchanged}
use Rattle.election.specs.Heads.{Hearing, hearing, expiring, slotting, announces}
use Rattle.election.specs.System.{station, underway}
use Rattle.election.specs.Tick.{next, heard_link, heard_all, expired_now, slotted_now, heard_by, settled, sending, tick}
use Rattle.election.specs.declared.Message.{Message}
use Rattle.election.specs.declared.System.{System}
use Rattle.election.proofs.Heads.{hearing-unchanged, hearing-timeouts, expiring-unchanged, slotting-up, slotting-count, slotting-slot}
use Rattle.election.proofs.Places.{In, seat_in, tick-station}

pub expired_now-elim : (P : Station → Type 0) (expire : Station → Station) (now : ℕ) (x : Station) → (x.timer ≡ now → P (expire x)) → (x.timer ≢ now → P x) → P (expired_now expire now x)
unfolding expired_now
expired_now-elim P expire now x a b = cond_elim P (eqb x.timer now) (λ e. a (eqb-true _ _ e)) (λ e. b (eqb-false _ _ e))

pub slotted_now-elim : (P : Station → Type 0) (slot : Station → Station) (now : ℕ) (x : Station) → (x.slot ≡ now → P (slot x)) → (x.slot ≢ now → P x) → P (slotted_now slot now x)
unfolding slotted_now
slotted_now-elim P slot now x a b = cond_elim P (eqb x.slot now) (λ e. a (eqb-true _ _ e)) (λ e. b (eqb-false _ _ e))

module _ (hear : Hearing) where
  -- no message changes nothing
  pub heard-none : (me q now : ℕ) (ms : List Message) (x : Station) → ms ≡ [] → heard_link hear me q now ms x ≡ x
  unfolding heard_link
  heard-none me q now ms x e = rw e

  -- what each hearing keeps, all the hearings of a tick keep
  pub link-keeps : (P : Station → Type 0) (OK : Message → Type 0) (p now q : ℕ)
      → ((m : Message) (x : Station) → OK m → P x → P (hear p q m now x))
      → (ms : List Message) (x : Station) → All (λ (m : Message). m.due ≡ now → OK m) ms → P x → P (heard_link hear p q now ms x)
  unfolding heard_link
  link-keeps P OK p now q step [] x a h = h
  link-keeps P OK p now q step (m ∷ ms) x a h =
      link-keeps P OK p now q step ms _ a.1
      (cond_elim P (eqb m.due now) (λ e. step m x (a.0 (eqb-true _ _ e)) h) (λ e. h))

  pub all_keeps : (P : Station → Type 0) (OK : ℕ → Message → Type 0) (n p now : ℕ) (inbox : ℕ → List Message)
      → ((q : ℕ) (m : Message) (x : Station) → In n q → OK q m → P x → P (hear p q m now x))
      → ((q : ℕ) → In n q → All (λ (m : Message). m.due ≡ now → OK q m) (inbox q))
      → (x : Station) → P x → P (heard_all hear n p now inbox x)
  unfolding heard_all
  all_keeps P OK n p now inbox step a x h =
      each_keeps P n (λ k. heard_link hear p (k + 1) now (inbox (k + 1))) x
      (λ k y l r. link-keeps P (OK (k + 1)) p now (k + 1) (λ m z. step (k + 1) m z (seat_in n k l)) (inbox (k + 1)) y (a (k + 1) (seat_in n k l)) r) h

  -- and so where it does not matter what is heard
  pub any_keeps : (P : Station → Type 0) (n p now : ℕ) (inbox : ℕ → List Message)
      → ((q : ℕ) (m : Message) (x : Station) → P x → P (hear p q m now x)) → (x : Station) → P x → P (heard_all hear n p now inbox x)
  any_keeps P n p now inbox step =
      all_keeps P (λ q m. Unit {0}) n p now inbox (λ q m x i t. step q m x) (λ q i. all_every (λ (m : Message). m.due ≡ now → Unit {0}) (λ m e. tt) (inbox q))

-- neither hearing nor the end of a timer changes whether a station is up, its send chance, its start-up wait and what it keeps
pub heard_all-unchanged : (s : System) (n p now : ℕ) (inbox : ℕ → List Message) (x : Station) → Unchanged x (heard_all (hearing s) n p now inbox x)
heard_all-unchanged s n p now inbox x =
    any_keeps (hearing s) (Unchanged x) n p now inbox (λ q m y h. then_unchanged x y (hearing s p q m now y) h (hearing-unchanged s p q m now y)) x (unchanged x)

pub heard_all-timeouts : (s : System) (n p now : ℕ) (inbox : ℕ → List Message) (x : Station) → ((heard_all (hearing s) n p now inbox x).timeouts ≡ x.timeouts) × ((heard_all (hearing s) n p now inbox x).timeout ≡ x.timeout)
heard_all-timeouts s n p now inbox x =
    any_keeps (hearing s) (λ (y : Station). (y.timeouts ≡ x.timeouts) × (y.timeout ≡ x.timeout)) n p now inbox
    (λ q m y h. let (a, b) = hearing-timeouts s p q m now y in (a ∙ h.0, b ∙ h.1)) x (refl, refl)

module _ (s : System) (p : ℕ) where
  pub settled_up : (station s p).up ≡ true → settled s p ≡ expired_now (expiring s p) (next s) (heard_by s p (station s p))
  unfolding settled
  settled_up e = rw e

  pub settled-down : (station s p).up ≡ false → settled s p ≡ station s p
  unfolding settled
  settled-down e = rw e

  pub settled-unchanged : Unchanged (station s p) (settled s p)
  unfolding settled
  settled-unchanged =
      cond_elim (Unchanged (station s p)) (station s p).up
      (λ e.
      let x : Station = heard_by s p (station s p) in
      let h : Unchanged (station s p) x = heard_all-unchanged s s.n p (next s) (λ q. underway s q p) (station s p) in
      expired_now-elim (Unchanged (station s p)) (expiring s p) (next s) x (λ f. then_unchanged (station s p) x (expiring s p x) h (expiring-unchanged s p x)) (λ f. h))
      (λ e. unchanged (station s p))

-- who sends is up and at its send chance
pub sending-of : (s : System) (p : ℕ) → sending s p ≡ true → ((station s p).up ≡ true) × ((station s p).slot ≡ next s)
unfolding sending
sending-of s p e =
    let (a, b, c) = three (settled s p).up (eqb (settled s p).slot (next s)) (announces s p (settled s p)) e in
    let u : Unchanged (station s p) (settled s p) = settled-unchanged s p in
    (sym u.up ∙ a, sym u.slot ∙ eqb-true _ _ b)

-- what a tick does to whether a station is up, to its start count and to its send chance
module _ (s : System) (n-high : s.n ≤ 8) (p : ℕ) (ip : In s.n p) where
  pub tick-up : (station (tick s) p).up ≡ (station s p).up
  tick-up =
      ap (λ (y : Station). y.up) (tick-station s n-high p ip)
      ∙ slotted_now-elim (λ (y : Station). y.up ≡ (station s p).up) (slotting s p (next s)) (next s) (settled s p) (λ e. slotting-up s p (next s) (settled s p) ∙ (settled-unchanged s p).up) (λ e. (settled-unchanged s p).up)

  pub tick-count : (station (tick s) p).incarnation ≡ (station s p).incarnation
  tick-count =
      ap (λ (y : Station). y.incarnation) (tick-station s n-high p ip)
      ∙ slotted_now-elim (λ (y : Station). y.incarnation ≡ (station s p).incarnation) (slotting s p (next s)) (next s) (settled s p) (λ e. slotting-count s p (next s) (settled s p) ∙ (settled-unchanged s p).incarnation) (λ e. (settled-unchanged s p).incarnation)

  pub tick-slotted : (station s p).slot ≡ next s → (station (tick s) p).slot ≡ next s + s.period
  tick-slotted e =
      rw (tick-station s n-high p ip)
      (slotted_now-elim (λ (y : Station). y.slot ≡ next s + s.period) (slotting s p (next s)) (next s) (settled s p) (λ f. slotting-slot s p (next s) (settled s p)) (λ ne. absurd (ne ((settled-unchanged s p).slot ∙ e))))

  pub tick-unslotted : (station s p).slot ≢ next s → (station (tick s) p).slot ≡ (station s p).slot
  tick-unslotted ne =
      rw (tick-station s n-high p ip)
      (slotted_now-elim (λ (y : Station). y.slot ≡ (station s p).slot) (slotting s p (next s)) (next s) (settled s p) (λ e. absurd (ne (sym (settled-unchanged s p).slot ∙ e))) (λ f. (settled-unchanged s p).slot))

  -- which does not come earlier
  pub tick-slot : (station s p).slot ≤ (station (tick s) p).slot
  tick-slot =
      let same : (settled s p).slot ≡ (station s p).slot = (settled-unchanged s p).slot in
      rw (tick-station s n-high p ip)
      (slotted_now-elim (λ (y : Station). (station s p).slot ≤ y.slot) (slotting s p (next s)) (next s) (settled s p) (λ e. omega (arith, slotting-slot s p (next s) (settled s p))) (λ e. omega arith))
