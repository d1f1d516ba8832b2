-- Laws of a test of every number.
use mathlib.Core.Path.{◌≡◌, refl}
use mathlib.Core.Bool.{Bool, true, false, not, ◌&&◌, and-eq-true_iff, true≢false}
use Prim.Native.Nat.{ℕ, zero, suc, ◌+◌, ◌<◌}
use native.Mathlib.Numerals.{add-one}
use native.Mathlib.Decide.{dec_lt}
use native.Mathlib.Omega.{arith}
use borrow.Author.Tests.{not-true, not-false}
use Rattle.lists.specs.Test.{all_to, some_to}

-- where a loop that tests begins
pub all_none : (t : ℕ → Bool) → all_to 0 t ≡ true
unfolding all_to
all_none t = refl

-- a turn of it at which the test holds
pub all_turn : (n : ℕ) (t : ℕ → Bool) → all_to n t ≡ true → t n ≡ true → all_to (n + 1) t ≡ true
unfolding all_to
all_turn n t e h = rw (add-one, e, h)

-- the early answer, where the test does not hold
pub all_not : (n k : ℕ) (t : ℕ → Bool) → k < n → t k ≡ false → all_to n t ≡ false
unfolding all_to
all_not zero k t l e = absurd (omega arith)
all_not (suc n) k t l e = last (dec_lt k n) (all_not n k t)
  where
    no_and : (b : Bool) → (b && false) ≡ false
    no_and true = refl
    no_and false = refl

    last : Dec (k < n) → (k < n → t k ≡ false → all_to n t ≡ false) → (all_to n t && t n) ≡ false
    last (yes q) r = rw (r q e)
    last (no q) r = let same : k ≡ n = omega arith in rw (← same, e) (no_and (all_to k t))

-- what holds of all holds of each
pub all_at : (n k : ℕ) (t : ℕ → Bool) → all_to n t ≡ true → k < n → t k ≡ true
unfolding all_to
all_at zero k t e h = absurd (omega arith)
all_at (suc n) k t e h = last (dec_lt k n) (all_at n k t) ((and-eq-true_iff (all_to n t) (t n)).0 e)
  where
    last : Dec (k < n) → (all_to n t ≡ true → k < n → t k ≡ true) → (all_to n t ≡ true) × (t n ≡ true) → t k ≡ true
    last (yes q) r b = r b.0 q
    last (no q) r b = let same : k ≡ n = omega arith in rw same b.1

-- and what holds of each holds of all
pub all_of : (n : ℕ) (t : ℕ → Bool) → ((k : ℕ) → k < n → t k ≡ true) → all_to n t ≡ true
unfolding all_to
all_of zero t h = refl
all_of (suc n) t h = rw (all_of n t (λ k l. h k (omega arith)), h n (omega arith))

-- where it does not hold of all, it fails of one
pub all_fails : (n : ℕ) (t : ℕ → Bool) → all_to n t ≡ false → (k : ℕ) × (k < n) × (t k ≡ false)
unfolding all_to
all_fails zero t e = absurd (true≢false e)
all_fails (suc n) t e = last (all_to n t) refl (all_fails n t)
  where
    last : (b : Bool) → all_to n t ≡ b → (all_to n t ≡ false → (k : ℕ) × (k < n) × (t k ≡ false)) → (k : ℕ) × (k < suc n) × (t k ≡ false)
    last true f r = (n, omega arith, rw f at e)
    last false f r = let (k, h, g) = r f in (k, omega arith, g)

-- two tests that say the same
pub all_same : (n : ℕ) (t u : ℕ → Bool) → ((k : ℕ) → k < n → t k ≡ u k) → all_to n t ≡ all_to n u
unfolding all_to
all_same zero t u h = refl
all_same (suc n) t u h = rw (all_same n t u (λ k l. h k (omega arith)), h n (omega arith))

-- where it holds of one it holds of some, and the other way round
pub some_at : (n k : ℕ) (t : ℕ → Bool) → k < n → t k ≡ true → some_to n t ≡ true
unfolding some_to
some_at n k t l e = rw (all_not n k (λ j. not (t j)) l (rw e))

pub some_is : (n : ℕ) (t : ℕ → Bool) → some_to n t ≡ true → (k : ℕ) × (k < n) × (t k ≡ true)
unfolding some_to
some_is n t e = let (k, l, f) = all_fails n (λ j. not (t j)) (not-true _ e) in (k, l, not-false _ f)

-- where a loop that looks for one ends, if it found none
pub some_none : (n : ℕ) (t : ℕ → Bool) → all_to n (λ k. not (t k)) ≡ true → some_to n t ≡ false
unfolding some_to
some_none n t e = rw e
