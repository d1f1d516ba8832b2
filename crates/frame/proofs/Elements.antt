-- A test of each place, or of some, told by the elements.
use Rattle.std.proofs.Common.{◌≡◌, ℕ, zero, suc, ◌≤◌, Bool, List, length, get_or, take, refl, sym, ap, ◌∙◌, arith, add-one, take_all}
use Rattle.std.specs.Prelude.{not, true, false, ◌&&◌, ◌||◌}
use Rattle.std.specs.List.{list_all, list_any}
use Rattle.std.proofs.lemmas.List.Folds.{list_all_more, list_any_more}
use Rattle.lists.specs.Test.{all_to, some_to}

not_none : (a b : Bool) → not (a && not b) ≡ (not a || b)
not_none true true = refl
not_none true false = refl
not_none false true = refl
not_none false false = refl

module _ {A : Type 0} (test : A → Bool) (d : A) (xs : List A) where
  all-front : (n : ℕ) → n ≤ length xs → all_to n (λ k. test (get_or xs k d)) ≡ list_all test (take n xs)
  unfolding all_to
  all-front zero h = refl
  all-front (suc n) h = rw (all-front n (omega arith), ← add-one n, list_all_more test xs n d (omega arith))

  pub all_to-each : all_to (length xs) (λ k. test (get_or xs k d)) ≡ list_all test xs
  all_to-each = all-front (length xs) (omega arith) ∙ ap (list_all test) (take_all (length xs) xs (omega arith))

  some-front : (n : ℕ) → n ≤ length xs → some_to n (λ k. test (get_or xs k d)) ≡ list_any test (take n xs)
  unfolding some_to all_to
  some-front zero h = refl
  some-front (suc n) h =
      not_none (all_to n (λ k. not (test (get_or xs k d)))) (test (get_or xs n d))
      ∙ ap (λ b. b || test (get_or xs n d)) (some-front n (omega arith))
      ∙ rw (← add-one n) (sym (list_any_more test xs n d (omega arith)))

  pub some_to-each : some_to (length xs) (λ k. test (get_or xs k d)) ≡ list_any test xs
  some_to-each = some-front (length xs) (omega arith) ∙ ap (list_any test) (take_all (length xs) xs (omega arith))
