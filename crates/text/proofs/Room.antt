-- How long text can get.
use mathlib.Core.List.{List, [], ◌∷◌}
use mathlib.Core.Bool.{Bool, true, false, cond}
use Prim.Native.Nat.{ℕ, zero, suc, ◌*◌, ◌≤◌}
use native.Mathlib.Omega.{arith}
use lib.Dec.{eqb}
use lib.ListN.{length, get_or, length-append}
use Rattle.lists.specs.Join.{join_to}
use Rattle.text.specs.Numbers.{count_of, vector}
use Rattle.text.proofs.Digits.{length-decimal}

-- one of two lists is at most as long as the longer
pub either : (b : Bool) (x y : List ℕ) (most : ℕ) → length x ≤ most → length y ≤ most → length (cond b x y) ≤ most
either true x y most a b = a
either false x y most a b = b

pub joined : (f : ℕ → List ℕ) (most n : ℕ) → ((k : ℕ) → length (f k) ≤ most) → length (join_to n f) ≤ n * most
unfolding join_to
joined f most zero h = omega arith
joined f most (suc n) h = omega (arith, length-append (join_to n f) (f n), joined f most n h, h n)

pub vector-room : (n : ℕ) (v : List ℕ) → length (vector n v) ≤ n * 21
unfolding vector count_of
vector-room n v = joined (λ k. count_of k (get_or v k 0)) 21 n (λ k. simp length-append (omega (arith, either (eqb k 0) [] (44 ∷ []) 1 (omega arith) (omega arith), length-decimal (get_or v k 0))))
