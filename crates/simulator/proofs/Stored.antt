-- What is stored for a command that is taken is what it does.
use mathlib.Core.Path.{◌≡◌, sym, ap, subst, ◌∙◌}
use mathlib.Core.List.{[]}
use mathlib.Core.Bool.{true}
use Prim.Native.Nat.{ℕ, ◌+◌, ◌<◌, ◌≤◌}
use native.Mathlib.Omega.{arith}
use lib.ListN.{length, set, length-set}
use Rattle.lists.specs.First.{first_failed}
use Rattle.election.specs.Commands.{Start, Crash, Link, Lose, Rank, tests}
use Rattle.election.specs.Idle.{Still}
use Rattle.election.specs.System.{at_tick, without_messages, place, holding, with_links, places}
use Rattle.election.specs.Sound.{sound}
use Rattle.election.specs.Tick.{ticks}
use Rattle.election.specs.declared.System.{System}
use Rattle.station.specs.Limits.{last_tick, most_starts}
use Rattle.election.specs.System.{station}
use Rattle.election.proofs.Accepting.{accepts}
use Rattle.election.proofs.Soundness.{sound-of}
use Rattle.election.proofs.Idle.{still_on}
use Rattle.layout.specs.Layout.{system_of}
use Rattle.layout.specs.declared.Layout.{Layout}
use Rattle.layout.proofs.Stores.{Wide, with_used, Clearing, lost-read}

pub messages-stored : (s z y : Layout) (k p q i : ℕ) → k ≡ place p q → k < 64 → Wide s → Clearing k s z 0 i → i ≡ places → y ≡ with_used (set z.used k 0) z → Wide y × (system_of y ≡ without_messages p q (system_of s))
messages-stored s z y k p q i h hk wide clear all e =
    let cleared : Clearing k s z 0 places = subst (Clearing k s z 0) all clear in
    (subst Wide (sym e) (record { used = length-set z.used k 0 ∙ ap (λ (x : Layout). length x.used) cleared.same ∙ wide.used; messages = cleared.size }), lost-read k s z y cleared wide hk e ∙ ap (λ j. with_links (set (system_of s).links j (holding [])) (system_of s)) h)

-- a run that ends by a tick up to which ticks only raise the counter
pub tick-raised : (s y : System) (quiet t : ℕ) → Still quiet s → s.tick + t ≤ quiet → y ≡ at_tick (s.tick + t) s → (y ≡ ticks t s) × Still quiet y
tick-raised s y quiet t still h e = (e ∙ sym (still t h), subst (Still quiet) (sym e) (still_on quiet t s h still))

-- what a command that is taken says of a sound system
module _ (s : System) (ok : sound s ≡ true) where
  pub may_start : (p : ℕ) → first_failed (tests s (Start p)) ≡ 0 → (1 ≤ p) × (p ≤ 8) × (s.period ≤ 255) × (s.tick ≤ last_tick) × ((station s p).incarnation < most_starts)
  may_start p t =
      let (ready, i, down, few) = accepts (Start p) s t in
      let is = sound-of s ok ready in
      (i.low, omega (arith, i.high, is.n-high), is.period-high, is.tick-high, few)

  pub may_crash : (p : ℕ) → first_failed (tests s (Crash p)) ≡ 0 → (1 ≤ p) × (p ≤ 8)
  may_crash p t = let (ready, i, up) = accepts (Crash p) s t in (i.low, omega (arith, i.high, (sound-of s ok ready).n-high))

  pub may_link : (p q d : ℕ) → first_failed (tests s (Link p q d)) ≡ 0 → (1 ≤ p) × (p ≤ 8) × (1 ≤ q) × (q ≤ 8)
  may_link p q d t = let (ready, i, j, ne, short) = accepts (Link p q d) s t in let few = (sound-of s ok ready).n-high in (i.low, omega (arith, i.high), j.low, omega (arith, j.high))

  pub may_lose : (p q : ℕ) → first_failed (tests s (Lose p q)) ≡ 0 → (1 ≤ p) × (p ≤ 8) × (1 ≤ q) × (q ≤ 8)
  may_lose p q t = let (ready, i, j, ne) = accepts (Lose p q) s t in let few = (sound-of s ok ready).n-high in (i.low, omega (arith, i.high), j.low, omega (arith, j.high))

  pub may_rank : (p r : ℕ) → first_failed (tests s (Rank p r)) ≡ 0 → (1 ≤ p) × (p ≤ 8)
  may_rank p r t = let (ready, flash, i, few, none) = accepts (Rank p r) s t in (i.low, omega (arith, i.high, (sound-of s ok ready).n-high))
