-- Laws of the entry at a place of a list: that it lies within the list, and what storing one leaves.
use mathlib.Core.Path.{◌≡◌}
use mathlib.Core.List.{List}
use Prim.Native.Nat.{ℕ, ◌<◌}
use native.Mathlib.Decide.{dec_lt, ℕ_discrete}
use native.Mathlib.Omega.{arith}
use lib.ListN.{length, get_or, set, get_or-eq_default}
use lib.Seq.{set_out, get_or-set_same, get_or-set_other}

-- an entry of which something holds that does not hold of the default lies within the list
pub within-list : {A : Type 0} (P : A → Type 0) (l : List A) (k : ℕ) (d : A) → (P d → ⊥) → P (get_or l k d) → k < length l
within-list P l k d none p = go (dec_lt k (length l))
  where
    go : Dec (k < length l) → k < length l
    go (yes h) = h
    go (no h) = absurd (none (rw (get_or-eq_default l d {n = k} (omega arith)) at p))

-- what holds of the entry that was there and of the one that is stored holds of the one that is there then
pub set_keeps : {A : Type 0} (P : A → Type 0) (l : List A) (i j : ℕ) (v d : A) → (j ≡ i → P v) → P (get_or l j d) → P (get_or (set l i v) j d)
set_keeps P l i j v d f p = go (ℕ_discrete j i) (dec_lt i (length l))
  where
    go : Dec (j ≡ i) → Dec (i < length l) → P (get_or (set l i v) j d)
    go (no ne) b = rw (get_or-set_other l i j v d ne) p
    go (yes e) (yes h) = rw (e, get_or-set_same l i v d h) (f e)
    go (yes e) (no h) = rw (set_out l i v (omega arith)) p
