-- The largest number and the count of the first n elements of a list, by places: a place past the list gives 0, and does not count.
use Rattle.std.proofs.Common.{◌≡◌, ℕ, zero, suc, ◌+◌, ◌<◌, Bool, true, false, cond, List, [], ◌∷◌, map, filter, length, get_or, take, max, unwrap_or, refl, sym, ap, ◌∙◌, arith, add-one, take_all}
use Rattle.std.specs.List.{fold, reduce, enumerate_from}
use Rattle.std.proofs.lemmas.List.Folds.{fold-map}
use Rattle.std.proofs.lemmas.List.Sums.{fold_more}
use Rattle.std.proofs.lemmas.List.Filters.{length-filter_more}
use Rattle.std.proofs.lemmas.List.FromFn.{length-enumerate_from, get_or-enumerate_from}
use native.Mathlib.Decide.{dec_lt}
use lib.ListN.{get_or-eq_default}
use Rattle.lists.specs.Count.{count_to}
use Rattle.lists.specs.Fold.{each}
use Rattle.lists.specs.Largest.{max_to}
use Rattle.lists.proofs.Largest.{max_same}

-- the largest, 0 of none
reduced : (xs : List ℕ) → unwrap_or (reduce max xs) 0 ≡ fold max 0 xs
reduced [] = refl
reduced (x ∷ xs) = let e : x ≡ max 0 x = omega arith in ap (λ m. fold max m xs) e

-- of f of each element
module _ {A : Type 0} (f : A → ℕ) (d : A) (none : f d ≡ 0) (xs : List A) where
  abbrev Number : ℕ → ℕ
  Number k = f (get_or xs k d)

  abbrev Most : ℕ → ℕ
  Most n = fold (λ m x. max m (f x)) 0 (take n xs)

  turn : (n : ℕ) → Dec (n < length xs) → Most (suc n) ≡ max (Most n) (Number n)
  turn n (yes h) = ap Most (sym (add-one n)) ∙ fold_more (λ m x. max m (f x)) 0 xs n d h
  turn n (no h) =
      let z : Number n ≡ 0 = ap f (get_or-eq_default xs d {n = n} (omega arith)) ∙ none in
      let a : max (Most n) 0 ≡ Most n = omega arith in
      ap (fold (λ m x. max m (f x)) 0) (take_all (suc n) xs (omega arith) ∙ sym (take_all n xs (omega arith))) ∙ sym a ∙ ap (max (Most n)) (sym z)

  so-far : (n : ℕ) → Most n ≡ max_to n Number
  unfolding max_to
  so-far zero = refl
  so-far (suc n) = turn n (dec_lt n (length xs)) ∙ ap (λ m. max m (Number n)) (so-far n)

  pub largest-is : (n : ℕ) → unwrap_or (reduce max (map f (take n xs))) 0 ≡ max_to n Number
  largest-is n = reduced (map f (take n xs)) ∙ fold-map max f 0 (take n xs) ∙ so-far n

-- of f of each element with its place
pub largest-enumerated : {A : Type 0} (f : ℕ → A → ℕ) (d : A) (none : (k : ℕ) → f k d ≡ 0) (xs : List A) (n : ℕ)
    → unwrap_or (reduce max (map (λ (p : ℕ × A). f p.0 p.1) (take n (enumerate_from 0 xs)))) 0 ≡ max_to n (λ k. f k (get_or xs k d))
largest-enumerated {A} f d none xs n =
    largest-is (λ (p : ℕ × A). f p.0 p.1) (0, d) (none 0) (enumerate_from 0 xs) n
    ∙ max_same n _ (λ k. f k (get_or xs k d)) (λ k h. at k (dec_lt k (length xs)))
  where
    all : List (ℕ × A)
    all = enumerate_from 0 xs

    at : (k : ℕ) → Dec (k < length xs) → f (get_or (enumerate_from 0 xs) k (0, d)).0 (get_or (enumerate_from 0 xs) k (0, d)).1 ≡ f k (get_or xs k d)
    at k (yes h) = let z : 0 + k ≡ k = omega arith in ap (λ (p : ℕ × A). f p.0 p.1) (get_or-enumerate_from 0 xs k (0, d) h) ∙ ap (λ j. f j (get_or xs k d)) z
    at k (no h) =
        ap (λ (p : ℕ × A). f p.0 p.1) (get_or-eq_default (enumerate_from 0 xs) (0, d) {n = k} (omega (arith, length-enumerate_from 0 xs)))
        ∙ none 0 ∙ sym (none k) ∙ ap (f k) (sym (get_or-eq_default xs d {n = k} (omega arith)))

-- how many pass a test
module _ {A : Type 0} (test : A → Bool) (d : A) (none : test d ≡ false) (xs : List A) where
  pub counted-is : (n : ℕ) → length (filter test (take n xs)) ≡ count_to n (λ k. test (get_or xs k d))
  unfolding count_to each
  counted-is zero = refl
  counted-is (suc n) = more n (dec_lt n (length xs)) ∙ ap (λ c. cond (test (get_or xs n d)) (c + 1) c) (counted-is n)
    where
      one : (b : Bool) (c : ℕ) → c + cond b 1 0 ≡ cond b (c + 1) c
      one true c = refl
      one false c = omega arith

      more : (n : ℕ) → Dec (n < length xs) → length (filter test (take (suc n) xs)) ≡ cond (test (get_or xs n d)) (length (filter test (take n xs)) + 1) (length (filter test (take n xs)))
      more n (yes h) = ap (λ m. length (filter test (take m xs))) (sym (add-one n)) ∙ length-filter_more test xs n d h ∙ one (test (get_or xs n d)) (length (filter test (take n xs)))
      more n (no h) =
          let z : test (get_or xs n d) ≡ false = ap test (get_or-eq_default xs d {n = n} (omega arith)) ∙ none in
          ap (λ l. length (filter test l)) (take_all (suc n) xs (omega arith) ∙ sym (take_all n xs (omega arith)))
          ∙ ap (λ b. cond b (length (filter test (take n xs)) + 1) (length (filter test (take n xs)))) (sym z)
