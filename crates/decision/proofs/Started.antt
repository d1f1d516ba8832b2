-- A test of each element of a list, and of each place.
use Rattle.std.proofs.Common.{◌≡◌, ℕ, zero, suc, ◌≤◌, Bool, List, length, get_or, take, refl, ap, ◌∙◌, arith, add-one, take_all}
use Rattle.std.specs.List.{list_all}
use Rattle.std.proofs.lemmas.List.Folds.{list_all_more}
use Rattle.lists.specs.Test.{all_to}

module _ {A : Type 0} (test : A → Bool) (d : A) (xs : List A) where
  taken : (n : ℕ) → n ≤ length xs → all_to n (λ k. test (get_or xs k d)) ≡ list_all test (take n xs)
  unfolding all_to
  taken zero h = refl
  taken (suc n) h = rw (taken n (omega arith), ← add-one n, list_all_more test xs n d (omega arith))

  pub all_to-list : (n : ℕ) → length xs ≡ n → all_to n (λ k. test (get_or xs k d)) ≡ list_all test xs
  all_to-list n long = taken n (omega arith) ∙ ap (list_all test) (take_all n xs (omega arith))
