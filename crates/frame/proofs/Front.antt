-- Stores at the front of a list.
use mathlib.Core.Path.{◌≡◌, refl}
use mathlib.Core.List.{List, [], ◌∷◌}
use Prim.Native.Nat.{◌≤◌}
use native.Mathlib.Omega.{arith}
use lib.ListN.{length, set}
use Rattle.lists.specs.Entries.{over}

module _ {A : Type 0} where
  -- three entries that were stored at its front lie over it, and are covered by what begins with them: there a loop begins
  pub three-over : (x y z : A) (l : List A) → 3 ≤ length l → set (set (set l 0 x) 1 y) 2 z ≡ over (x ∷ y ∷ z ∷ []) (set (set (set l 0 x) 1 y) 2 z)
  unfolding over
  three-over x y z [] h = absurd (omega arith)
  three-over x y z (a ∷ []) h = absurd (omega arith)
  three-over x y z (a ∷ b ∷ []) h = absurd (omega arith)
  three-over x y z (a ∷ b ∷ c ∷ l) h = refl

  pub over-three : (x y z : A) (f l : List A) → 3 ≤ length l → over (x ∷ y ∷ z ∷ f) (set (set (set l 0 x) 1 y) 2 z) ≡ over (x ∷ y ∷ z ∷ f) l
  unfolding over
  over-three x y z f [] h = absurd (omega arith)
  over-three x y z f (a ∷ []) h = absurd (omega arith)
  over-three x y z f (a ∷ b ∷ []) h = absurd (omega arith)
  over-three x y z f (a ∷ b ∷ c ∷ l) h = refl
