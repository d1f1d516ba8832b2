-- Laws of tests in order.
use mathlib.Core.Path.{◌≡◌, refl}
use mathlib.Core.List.{List, [], ◌∷◌}
use mathlib.Core.Bool.{Bool, true, false, cond}
use Prim.Native.Nat.{ℕ, suc}
use native.Mathlib.Omega.{arith}
use Rattle.lists.specs.Every.{All}
use Rattle.lists.specs.First.{first_failed}
use Rattle.lists.proofs.Bools.{cond_elim}

-- where none is the first to fail, the first holds and none of the rest fails
pub passed : (t : Bool) (rest number : ℕ) → cond t rest (suc number) ≡ 0 → (t ≡ true) × (rest ≡ 0)
passed true rest number e = (refl, e)
passed false rest number e = absurd (omega arith)

-- what holds of 0, and of the number of each test where it fails, holds of the first to fail
pub first-is : (P : ℕ → Type 0) → P 0 → (ts : List (Bool × ℕ)) → All (λ t. t.0 ≡ false → P t.1) ts → P (first_failed ts)
first-is P none [] h = none
first-is P none (t ∷ ts) h = cond_elim P t.0 (λ e. first-is P none ts h.1) h.0
