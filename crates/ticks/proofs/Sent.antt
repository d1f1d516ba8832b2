-- A message stored on a link is one link more of (c).
use mathlib.Core.Path.{◌≡◌, refl}
use mathlib.Core.List.{List, [], ◌∷◌, ◌++◌}
use mathlib.Core.Bool.{true, not, ◌&&◌}
use Prim.Native.Nat.{ℕ, ◌+◌, ◌*◌, ◌<◌, ◌≤◌}
use native.Mathlib.Omega.{arith}
use lib.Dec.{eqb}
use lib.ListN.{length, get_or, set}
use Rattle.election.specs.System.{no_station, no_link, messages, holding, places}
use Rattle.election.specs.declared.Message.{Message}
use Rattle.election.specs.declared.System.{System}
use Rattle.layout.specs.Layout.{system_of}
use Rattle.layout.specs.declared.Layout.{Layout}
use Rattle.layout.proofs.Stores.{Wide, with_messages, with_used}
use Rattle.clock.specs.Rules.{carried}
use Rattle.ticks.proofs.After.{sent-room, sent-held, sent-quiet, part_next}
use Rattle.ticks.proofs.InPlace.{sent-place, sent-stored, sent-calm}
use Rattle.ticks.specs.Chances.{sends_at, Part}
use Rattle.ticks.specs.Delivering.{Before}

module _ (n now : ℕ) (m : System) (until : ℕ) (x : Layout) (p q : ℕ) (hp : p < n) (hq : q < n) (a : Part n now m until (system_of x) p p (8 * p + q)) (wide : Wide x)
    (d : ℕ) (ed : d ≡ get_or x.delays (8 * p + q) 0) (test : (not (eqb p q) && not (eqb d 0)) ≡ true) (sends : sends_at now m p ≡ true) (counts : List ℕ) (ec : counts ≡ (get_or m.stations p no_station).recovered) (stamp : ℕ) (ez : stamp ≡ carried (get_or m.stations p no_station))
    (u : ℕ) (e : u ≡ get_or x.used (8 * p + q) 0) where
  abbrev message : Message
  message = record { sent = now; due = now + d; counts = counts; stamp = stamp }

  hk : 8 * p + q < 64
  hk = omega (arith, a.mid.n-high)

  held : holding (messages (get_or (system_of x).links (8 * p + q) no_link)) ≡ get_or (system_of x).links (8 * p + q) no_link
  held = sent-held n now m until (system_of x) p hp q hq a d ed test sends counts ec stamp ez

  room : length (messages (get_or (system_of x).links (8 * p + q) no_link) ++ (message ∷ [])) ≤ places
  room = sent-room n now m until (system_of x) p hp q hq a d ed test sends counts ec stamp ez

  pub place-free : u < places
  place-free = sent-place x (8 * p + q) u wide hk e held message room

  pub message-sent : (v until' until₂ : ℕ) (y : Layout) → v ≡ u + 1 → y ≡ with_used (set x.used (8 * p + q) v) (with_messages (set x.messages (places * (8 * p + q) + u) message) x) → until₂ ≡ until' → until' ≤ until
      → Before now (now + d) until' → Part n now m until₂ (system_of y) p p (8 * p + (q + 1))
  message-sent v until' until₂ y c g t le before =
      part_next n now m until (system_of x) p hp q hq a d ed test sends counts ec stamp ez until' until₂ (holding (messages (get_or (system_of x).links (8 * p + q) no_link) ++ (message ∷ []))) (system_of y) refl
      (sent-stored x (8 * p + q) u wide hk e held message room v y c g) t le
      (sent-calm x (8 * p + q) u wide hk e held message room now until until' le before (sent-quiet n now m until (system_of x) p hp q hq a d ed test sends counts ec stamp ez))
