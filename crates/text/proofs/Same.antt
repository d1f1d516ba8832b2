-- Counts that agree are written alike.
use mathlib.Core.Path.{◌≡◌, refl}
use mathlib.Core.List.{List}
use Prim.Native.Nat.{ℕ, zero, suc, ◌<◌, ◌≤◌}
use native.Mathlib.Omega.{arith}
use lib.ListN.{length, get_or, take}
use lib.Seq.{length-take-le, get_or-take}
use Rattle.lists.specs.Join.{join_to}
use Rattle.text.specs.Numbers.{count_of, vector}

join_same : (n : ℕ) (f g : ℕ → List ℕ) → ((k : ℕ) → k < n → f k ≡ g k) → join_to n f ≡ join_to n g
unfolding join_to
join_same zero f g h = refl
join_same (suc n) f g h = rw (join_same n f g (λ k l. h k (omega arith)), h n (omega arith))

pub vector-same : (n : ℕ) (u v : List ℕ) → ((k : ℕ) → k < n → get_or u k 0 ≡ get_or v k 0) → vector n u ≡ vector n v
unfolding vector
vector-same n u v h = join_same n (λ k. count_of k (get_or u k 0)) (λ k. count_of k (get_or v k 0)) (λ k l. rw (h k l))

-- the first n counts are all of the list's first n
pub vector_front : (n : ℕ) (v : List ℕ) → n ≤ length v → join_to (length (take n v)) (λ k. count_of k (get_or (take n v) k 0)) ≡ vector n v
unfolding vector
vector_front n v h = let e : length (take n v) ≡ n = length-take-le n v h in rw e (join_same n _ _ (λ k l. rw (get_or-take n v k 0 l)))
