-- Laws of counting the numbers that pass a test.
use mathlib.Core.Path.{◌≡◌, refl, sym}
use mathlib.Core.Logic.{◌≢◌}
use mathlib.Core.Bool.{Bool, true, false, cond}
use Prim.Native.Nat.{ℕ, zero, suc, ◌+◌, ◌<◌}
use native.Mathlib.Decide.{ℕ_discrete}
use native.Mathlib.Omega.{arith}
use Rattle.lists.specs.Fold.{each}
use Rattle.lists.specs.Count.{count_to}

pub count_none : (n : ℕ) (t : ℕ → Bool) → ((k : ℕ) → k < n → t k ≡ false) → count_to n t ≡ 0
unfolding count_to each
count_none zero t h = refl
count_none (suc n) t h = rw (h n (omega arith)) (count_none n t (λ k l. h k (omega arith)))

-- two tests that say the same
pub count_same : (n : ℕ) (t u : ℕ → Bool) → ((k : ℕ) → k < n → t k ≡ u k) → count_to n t ≡ count_to n u
unfolding count_to each
count_same zero t u h = refl
count_same (suc n) t u h = rw (count_same n t u (λ k l. h k (omega arith)), h n (omega arith))

-- where the test holds of one number alone
pub count-one : (n j : ℕ) (t : ℕ → Bool) → j < n → t j ≡ true → ((k : ℕ) → k < n → k ≢ j → t k ≡ false) → count_to n t ≡ 1
unfolding count_to each
count-one zero j t l e h = absurd (omega arith)
count-one (suc n) j t l e h = go (ℕ_discrete j n) (λ i. count-one n j t i e (λ k m ne. h k (omega arith) ne))
  where
    go : Dec (j ≡ n) → (j < n → count_to n t ≡ 1) → cond (t n) (count_to n t + 1) (count_to n t) ≡ 1
    go (yes q) r =
        let z : count_to n t ≡ 0 = count_none n t (λ k m. h k (omega arith) (λ i. omega arith)) in
        rw (sym q, e, q, z)
    go (no q) r = rw (h n (omega arith) (λ i. q (sym i))) (r (omega arith))

-- a test that holds of one number alone
pub record Once (n : ℕ) (t : ℕ → Bool) : Type 0 where
  pub place : ℕ
  pub below : place < n
  pub there : t place ≡ true
  pub elsewhere : (k : ℕ) → k < n → k ≢ place → t k ≡ false

-- a count of 0 is of a test that fails everywhere
pub none-counted : (n : ℕ) (t : ℕ → Bool) → count_to n t ≡ 0 → (k : ℕ) → k < n → t k ≡ false
unfolding count_to each
none-counted zero t e k l = absurd (omega arith)
none-counted (suc n) t e k l = last (t n) refl e (λ z i. none-counted n t z k i)
  where
    last : (b : Bool) → t n ≡ b → cond b (count_to n t + 1) (count_to n t) ≡ 0 → (count_to n t ≡ 0 → k < n → t k ≡ false) → t k ≡ false
    last true f e r = absurd (omega arith)
    last false f e r = at (ℕ_discrete k n)
      where
        at : Dec (k ≡ n) → t k ≡ false
        at (yes i) = rw i f
        at (no i) = r e (omega arith)

-- a count of 1 is of a test that holds once
pub one-counted : (n : ℕ) (t : ℕ → Bool) → count_to n t ≡ 1 → Once n t
unfolding count_to each
one-counted zero t e = absurd (omega arith)
one-counted (suc n) t e = last (t n) refl e (one-counted n t)
  where
    last : (b : Bool) → t n ≡ b → cond b (count_to n t + 1) (count_to n t) ≡ 1 → (count_to n t ≡ 1 → Once n t) → Once (suc n) t
    last true f e r =
        let z : count_to n t ≡ 0 = omega arith in
        record { place = n; below = omega arith; there = f; elsewhere = λ k l ne. none-counted n t z k (omega arith) }
    last false f e r = let o : Once n t = r e in record { place = o.place; below = omega (arith, o.below); there = o.there; elsewhere = λ k l ne. at o k l ne (ℕ_discrete k n) }
      where
        at : (o : Once n t) (k : ℕ) → k < suc n → k ≢ o.place → Dec (k ≡ n) → t k ≡ false
        at o k l ne (yes i) = rw i f
        at o k l ne (no i) = o.elsewhere k (omega arith) ne
