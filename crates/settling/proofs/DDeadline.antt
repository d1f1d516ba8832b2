-- D. The tick by which a message of L's reaches a follower, unless another one comes sooner.
use mathlib.Core.Path.{◌≡◌, refl, ap}
use mathlib.Core.List.{List, [], ◌∷◌, ◌++◌}
use Prim.Native.Nat.{ℕ, ◌+◌, ◌<◌, ◌≤◌, min}
use native.Mathlib.Omega.{arith}
use Rattle.lists.specs.Every.{All}
use Rattle.election.specs.System.{station, underway}
use Rattle.election.specs.declared.Message.{Message}
use Rattle.election.specs.declared.System.{System}
use Rattle.settling.proofs.BCalm.{Stretch}

-- The soonest that one of the messages is due, or c if that is sooner.
unfoldable pub soonest : List Message → ℕ → ℕ
soonest [] c = c
soonest (m ∷ ms) c = min m.due (soonest ms c)

pub soonest_le : (ms : List Message) (c : ℕ) → soonest ms c ≤ c
unfolding soonest
soonest_le [] c = omega arith
soonest_le (m ∷ ms) c = omega (arith, soonest_le ms c)

pub soonest_mono : (ms : List Message) (b c : ℕ) → b ≤ c → soonest ms b ≤ soonest ms c
unfolding soonest
soonest_mono [] b c h = h
soonest_mono (m ∷ ms) b c h = omega (arith, soonest_mono ms b c h)

pub soonest_append : (xs ys : List Message) (c : ℕ) → soonest (xs ++ ys) c ≡ soonest xs (soonest ys c)
unfolding soonest
soonest_append [] ys c = refl
soonest_append (m ∷ xs) ys c = ap (min m.due) (soonest_append xs ys c)

pub soonest_lo : (ms : List Message) (b c : ℕ) → All (λ (m : Message). b < m.due) ms → b < c → b < soonest ms c
unfolding soonest
soonest_lo [] b c h k = k
soonest_lo (m ∷ ms) b c h k = omega (arith, soonest_lo ms b c h.1 k, h.0)

-- The tick by which a message of L's reaches p.
abbrev pub deadline : Stretch → System → ℕ → ℕ
deadline K s p = soonest (underway s K.L p) ((station s K.L).slot + K.d)
