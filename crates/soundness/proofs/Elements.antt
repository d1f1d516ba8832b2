-- A test of each place is a test of each element: of a list, of a range, and of the pairs of neighbours.
use Rattle.std.proofs.Common.{◌≡◌, ℕ, zero, suc, ◌+◌, ◌-◌, ◌<◌, ◌≤◌, Bool, true, cond, ◌&&◌, List, length, get_or, take, drop, refl, sym, ap, ◌∙◌, arith, add-one, zero-add, length-drop, length-take, take_all}
use Rattle.std.specs.List.{list_all, range_with_len, zip}
use Rattle.std.proofs.lemmas.List.Folds.{list_all_more}
use Rattle.std.proofs.lemmas.List.FromFn.{length-range_with_len, get_or-range_with_len}
use Rattle.std.proofs.lemmas.Slice.Zip.{length-zip, get_or-zip}
use mathlib.Core.Bool.{and-true}
use native.Mathlib.Decide.{dec_lt}
use lib.Dec.{ltb}
use lib.Seq.{get_or-take, get_or-drop}
use borrow.Author.Tests.{lt-ltb, le-ltb}
use Rattle.lists.specs.Test.{all_to}
use Rattle.lists.proofs.Test.{all_same}

module _ {A : Type 0} (test : A → Bool) (d : A) (xs : List A) where
  all_to-take : (n : ℕ) → n ≤ length xs → all_to n (λ k. test (get_or xs k d)) ≡ list_all test (take n xs)
  unfolding all_to
  all_to-take zero h = refl
  all_to-take (suc n) h = rw (all_to-take n (omega arith), ← add-one n, list_all_more test xs n d (omega arith))

  pub all_to-elements : (n : ℕ) → length xs ≡ n → all_to n (λ k. test (get_or xs k d)) ≡ list_all test xs
  all_to-elements n long = all_to-take n (omega arith) ∙ ap (list_all test) (take_all n xs (omega arith))

pub all_to-range : (n : ℕ) (test : ℕ → Bool) → all_to n test ≡ list_all test (range_with_len 0 n)
all_to-range n test =
    all_same n test (λ k. test (get_or (range_with_len 0 n) k 0)) (λ k h. ap test (sym (get_or-range_with_len 0 n k 0 h ∙ zero-add k)))
    ∙ all_to-elements test 0 (range_with_len 0 n) n (length-range_with_len 0 n)

-- a test of each element and the one after it, of the first u of ms: by pairs of neighbours, or by places, where a place without a next passes
module _ {A : Type 0} (test : A → A → Bool) (d : A) (ms : List A) (u : ℕ) (few : u ≤ length ms) where
  abbrev pub pairs : List (A × A)
  pairs = take (u - 1) (zip ms (drop 1 ms))

  all-pairs : length (zip ms (drop 1 ms)) ≡ length ms - 1
  all-pairs = length-zip ms (drop 1 ms) ∙ omega (arith, length-drop 1 ms)

  long : length pairs ≡ u - 1
  long = length-take (u - 1) (zip ms (drop 1 ms)) ∙ omega (arith, all-pairs)

  at : (k : ℕ) → k + 1 < u → get_or pairs k (d, d) ≡ (get_or ms k d, get_or ms (k + 1) d)
  at k h =
      let b : get_or (drop 1 ms) k d ≡ get_or ms (k + 1) d = get_or-drop 1 ms k d ∙ ap (λ j. get_or ms j d) {x = 1 + k} {y = k + 1} (omega arith) in
      get_or-take (u - 1) (zip ms (drop 1 ms)) k (d, d) (omega arith) ∙ get_or-zip ms (drop 1 ms) k (d, d) (omega arith) (omega (arith, length-drop 1 ms)) ∙ ap (λ y. (get_or ms k d, y)) b

  abbrev Next : ℕ → Bool
  Next k = cond (ltb (k + 1) u) (test (get_or ms k d) (get_or ms (k + 1) d)) true

  abbrev Apart : A × A → Bool
  Apart p = test p.0 p.1

  turn : (k : ℕ) → Dec (k + 1 < u) → (list_all Apart (take k pairs) && Next k) ≡ list_all Apart (take (suc k) pairs)
  turn k (yes h) =
      ap (λ b. list_all Apart (take k pairs) && b) (ap (λ b. cond b (test (get_or ms k d) (get_or ms (k + 1) d)) true) (lt-ltb (k + 1) u h) ∙ sym (ap Apart (at k h)))
      ∙ sym (list_all_more Apart pairs k (d, d) (omega (arith, long))) ∙ ap (λ j. list_all Apart (take j pairs)) (add-one k)
  turn k (no h) =
      ap (λ b. list_all Apart (take k pairs) && b) (ap (λ b. cond b (test (get_or ms k d) (get_or ms (k + 1) d)) true) (le-ltb (k + 1) u (omega arith)))
      ∙ and-true (list_all Apart (take k pairs)) ∙ ap (list_all Apart) (take_all k pairs (omega (arith, long)) ∙ sym (take_all (suc k) pairs (omega (arith, long))))

  so-far : (n : ℕ) → all_to n Next ≡ list_all Apart (take n pairs)
  unfolding all_to
  so-far zero = refl
  so-far (suc n) = ap (λ b. b && Next n) (so-far n) ∙ turn n (dec_lt (n + 1) u)

  pub all_to-pairs : (n : ℕ) → u ≤ n → all_to n Next ≡ list_all Apart pairs
  all_to-pairs n h = so-far n ∙ ap (list_all Apart) (take_all n pairs (omega (arith, long)))
