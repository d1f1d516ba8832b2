-- A link from station q to station p gone through in place, message by message: what stays is packed to the front, and what is due is heard.
use mathlib.Core.Path.{◌≡◌, refl, sym, ap, subst, ◌∙◌}
use mathlib.Core.Bool.{true, false}
use Prim.Native.Nat.{ℕ, ◌+◌, ◌*◌, ◌<◌, ◌≤◌}
use native.Mathlib.Omega.{arith}
use lib.ListN.{length, get_or, set}
use lib.Seq.{get_or-set_same}
use Rattle.lists.proofs.Segment.{length-segment}
use Rattle.station.specs.declared.Station.{Station}
use Rattle.layout.specs.Layout.{system_of}
use Rattle.layout.specs.declared.Layout.{Layout}
use Rattle.layout.proofs.Stores.{Wide, part, with_messages, with_stations}
use Rattle.election.specs.Heads.{hearing}
use Rattle.election.specs.System.{places, no_station, no_message}
use Rattle.election.specs.declared.Message.{Message}
use Rattle.election.proofs.Heads.{hearing-same}
use Rattle.ticks.proofs.InPlace.{packing_none, packing_read, packing_keeps, packing_drops, heard-first, heard-waits, heard-due, heard-down, beside_none, beside_stores}
use Rattle.ticks.specs.Delivering.{Before, Beside, Reading}

pub reading-none : (q p k now : ℕ) (s : Layout) (until : ℕ) → Wide s → Reading q p k now s s until 0 0
reading-none q p k now s until w = record { packing = packing_none now k s until w; heard = heard-first _ _ _ _ _ _; beside = beside_none _ _ }

module _ (q p k now : ℕ) (s₀ s : Layout) (until to i : ℕ) (a : Reading q p k now s₀ s until to i) (hk : k < 64) (hi : i < places) where
  abbrev m : Message
  m = get_or s.messages (places * k + i) no_message

  within : i < length (part s₀.messages k)
  within = omega (arith, length-segment places no_message s₀.messages k)

  same : m ≡ get_or (part s₀.messages k) i no_message
  same = packing_read now k s₀ s until to i a.packing hk hi

  -- a message that is not due
  pub reading-keeps : (until' u to' : ℕ) (y : Layout) → (m.due ≡ now → ⊥) → until' ≤ until → Before now m.due until' → y ≡ with_messages (set s.messages (places * k + to) m) s → u ≡ until' → to' ≡ to + 1 → Reading q p k now s₀ y u to' (i + 1)
  reading-keeps until' u to' y ne le f g z t =
      record {
        packing = packing_keeps now k s₀ s until to i a.packing hk hi m until' u to' y refl ne le f g z t;
        heard = heard-waits (system_of s₀) (p + 1) (q + 1) now _ _ _ _ i m a.heard within same ne (ap (λ (x : Layout). get_or x.stations p no_station) g);
        beside = subst (λ (x : Layout). Beside p s₀.stations x.stations) (sym g) a.beside;
      }

  -- one that is due, where the station is up, and where it is down
  module _ (u to' : ℕ) (y : Layout) (d : m.due ≡ now) (z : u ≡ until) (t : to' ≡ to) where
    pub reading-hears : (v : Station) → p < length s.stations → (get_or s.stations p no_station).up ≡ true → v ≡ hearing (system_of s) (p + 1) (q + 1) m now (get_or s.stations p no_station) → y ≡ with_stations (set s.stations p v) s
        → Reading q p k now s₀ y u to' (i + 1)
    reading-hears v long up e g =
        record {
          packing = packing_drops now k s₀ s until to i a.packing hk hi m u to' (set s.stations p v) y refl d g z t;
          heard = heard-due (system_of s₀) (p + 1) (q + 1) now _ _ _ _ i m a.heard within same d up (ap (λ (x : Layout). get_or x.stations p no_station) g ∙ get_or-set_same s.stations p v no_station long ∙ e ∙ ap (λ hear. hear (p + 1) (q + 1) m now (get_or s.stations p no_station)) (hearing-same (system_of s) (system_of s₀) (ap (λ (x : Layout). x.clock) a.packing.same) (ap (λ (x : Layout). x.ranks) a.packing.same)));
          beside = subst (λ (x : Layout). Beside p s₀.stations x.stations) (sym g) (beside_stores p _ _ v a.beside);
        }

    pub reading-passes : (get_or s.stations p no_station).up ≡ false → y ≡ s → Reading q p k now s₀ y u to' (i + 1)
    reading-passes down g =
        record {
          packing = packing_drops now k s₀ s until to i a.packing hk hi m u to' s.stations y refl d g z t;
          heard = heard-down (system_of s₀) (p + 1) (q + 1) now _ _ _ _ i m a.heard within same d down (ap (λ (x : Layout). get_or x.stations p no_station) g);
          beside = subst (λ (x : Layout). Beside p s₀.stations x.stations) (sym g) a.beside;
        }
