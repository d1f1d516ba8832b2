-- Messages oldest sending first, sendings at least a period apart: laws of such lists.
use mathlib.Core.Path.{◌≡◌, refl}
use mathlib.Core.Logic.{◌≢◌}
use mathlib.Core.List.{List, [], ◌∷◌, ◌++◌}
use mathlib.Core.Bool.{Bool, true, false, cond}
use Prim.Native.Nat.{ℕ, zero, suc, ◌+◌, ◌*◌, ◌<◌, ◌≤◌}
use native.Mathlib.Omega.{arith}
use lib.ListN.{length, get_or, take}
use lib.Dec.{eqb}
use borrow.Author.Tests.{eqb-false}
use Rattle.lists.specs.Every.{All}
use Rattle.election.specs.System.{no_message}
use Rattle.election.specs.Tick.{later}
use Rattle.election.specs.declared.Message.{Message}

-- P holds of each message, the first sending is not before low, and each next one not before a period later
pub data Spaced (P : Message → Type 0) (period : ℕ) : ℕ → List Message → Type 0 where
  none : {low : ℕ} → Spaced P period low []
  more : {low : ℕ} {m : Message} {ms : List Message} → low ≤ m.sent → P m → Spaced P period (m.sent + period) ms → Spaced P period low (m ∷ ms)

module _ {P : Message → Type 0} {period : ℕ} where
  -- the bound below can fall
  pub lower : {low : ℕ} {ms : List Message} (low' : ℕ) → low' ≤ low → Spaced P period low ms → Spaced P period low' ms
  lower low' h none = none
  lower low' h (more {m = m} l p r) = let k : low' ≤ m.sent = omega arith in more k p r

module _ {P : Message → Type 0} {period : ℕ} where
  -- and rise to what every message keeps
  pub raise : {low : ℕ} {ms : List Message} (low' : ℕ) → ((m : Message) → P m → low' ≤ m.sent) → Spaced P period low ms → Spaced P period low' ms
  raise low' h none = none
  raise low' h (more {m = m} l p r) = more (h m p) p r

  -- what holds of each message
  pub spaced-all : {low : ℕ} {ms : List Message} → Spaced P period low ms → All P ms
  spaced-all none = tt
  spaced-all (more l p r) = (p, spaced-all r)

  -- other facts of each message
  pub respace : {Q : Message → Type 0} {low : ℕ} {ms : List Message} → ((m : Message) → P m → Q m) → Spaced P period low ms → Spaced Q period low ms
  respace f none = none
  respace f (more {m = m} l p r) = more l (f m p) (respace f r)

  -- one message more at the end
  pub spaced-snoc : {Q : Message → Type 0} {low : ℕ} {ms : List Message} (x : Message)
      → ((m : Message) → P m → Q m)
      → ((m : Message) → P m → m.sent + period ≤ x.sent)
      → low ≤ x.sent
      → Q x
      → Spaced P period low ms → Spaced Q period low (ms ++ (x ∷ []))
  spaced-snoc x f g h q none = more h q none
  spaced-snoc x f g h q (more {m = m} l p r) = more l (f m p) (spaced-snoc x f g (g m p) q r)

  -- what is not due now
  pub spaced-later : {low : ℕ} {ms : List Message} (now : ℕ) → Spaced P period low ms → Spaced (λ m. P m × (m.due ≢ now)) period low (later now ms)
  unfolding later
  spaced-later now none = none
  spaced-later now (more {low = low} {m = m} {ms = ms} l p r) = at (eqb m.due now) refl (spaced-later now r)
    where
      at : (b : Bool) → eqb m.due now ≡ b → Spaced (λ m. P m × (m.due ≢ now)) period (m.sent + period) (later now ms) → Spaced (λ m. P m × (m.due ≢ now)) period low (cond b (later now ms) (m ∷ later now ms))
      at true e x = lower low (omega arith) x
      at false e x = more l (p, eqb-false m.due now e) x

  -- sendings in a window, at least 16 apart: so many messages it can hold
  pub in_window : {low : ℕ} {ms : List Message} (from high : ℕ) → 16 ≤ period → ((m : Message) → P m → m.sent ≤ high) → from ≤ low → from ≤ high + 16 → Spaced P period low ms → from + 16 * length ms ≤ high + 16
  in_window from high h f l g none = omega arith
  in_window from high h f l g (more {m = m} {ms = ms} k p r) =
      let top : m.sent ≤ high = f m p in
      let rest : m.sent + 16 + 16 * length ms ≤ high + 16 = in_window (m.sent + 16) high h f (omega arith) (omega arith) r in
      omega arith

  -- at a place
  pub spaced-at : {low : ℕ} {ms : List Message} (k : ℕ) → k < length ms → Spaced P period low ms → P (get_or ms k no_message)
  spaced-at k h none = absurd (omega arith)
  spaced-at zero h (more l p r) = p
  spaced-at (suc k) h (more l p r) = spaced-at k (omega arith) r

  pub spaced-first : {low : ℕ} {ms : List Message} → 0 < length ms → Spaced P period low ms → low ≤ (get_or ms 0 no_message).sent
  spaced-first h none = absurd (omega arith)
  spaced-first h (more l p r) = l

  -- and at two places next to each other
  pub spaced-apart : {low : ℕ} {ms : List Message} (k : ℕ) → suc k < length ms → Spaced P period low ms → (get_or ms k no_message).sent + period ≤ (get_or ms (suc k) no_message).sent
  spaced-apart k h none = absurd (omega arith)
  spaced-apart zero h (more l p r) = spaced-first (omega arith) r
  spaced-apart (suc k) h (more l p r) = spaced-apart k (omega arith) r

  -- the front of a list, from what stands at its places
  pub spaced-take : (low u : ℕ) (l : List Message)
      → ((k : ℕ) → k < u → k < length l)
      → ((k : ℕ) → k < u → P (get_or l k no_message))
      → ((k : ℕ) → suc k < u → (get_or l k no_message).sent + period ≤ (get_or l (suc k) no_message).sent)
      → (0 < u → low ≤ (get_or l 0 no_message).sent)
      → Spaced P period low (take u l)
  spaced-take low zero l i p a f = none
  spaced-take low (suc u) [] i p a f = absurd (let z : 0 < 0 = i 0 (omega arith) in omega arith)
  spaced-take low (suc u) (x ∷ l) i p a f =
      more (f (omega arith)) (p 0 (omega arith))
      (spaced-take (x.sent + period) u l
      (λ k h. let z : suc k < suc (length l) = i (suc k) (omega arith) in omega arith)
      (λ k h. p (suc k) (omega arith))
      (λ k h. a (suc k) (omega arith))
      (λ h. a 0 (omega arith)))

  -- a message with older ones before it
  pub spaced-here : (low : ℕ) (older : List Message) (m : Message) (younger : List Message) → Spaced P period low (older ++ (m ∷ younger)) → (low ≤ m.sent) × P m
  spaced-here low [] m younger (more l p r) = (l, p)
  spaced-here low (o ∷ older) m younger (more l p r) = let (h, here) = spaced-here (o.sent + period) older m younger r in (omega arith, here)

  -- and each of those, sent at least a period earlier
  pub spaced-older : (low : ℕ) (older : List Message) (m : Message) (younger : List Message) → Spaced P period low (older ++ (m ∷ younger)) → All (λ (o : Message). P o × (o.sent + period ≤ m.sent)) older
  spaced-older low [] m younger r = tt
  spaced-older low (o ∷ older) m younger (more l p r) =
      ((p, (spaced-here (o.sent + period) older m younger r).0), spaced-older (o.sent + period) older m younger r)
