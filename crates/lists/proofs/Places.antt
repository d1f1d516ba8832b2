-- Lists told by their places, and the definitions that go by places.
use Rattle.std.proofs.Common.{◌≡◌, ℕ, zero, suc, ◌+◌, ◌<◌, ◌≤◌, inl, inr, Bool, true, false, cond, Option, MatchOption, List, [], ◌∷◌, length, get_or, take, filter, count_by, refl, sym, subst, ap, ◌∙◌, arith, add-one, zero-add, take_all}
use Rattle.std.specs.List.{list_all, enumerate_from}
use Rattle.std.specs.List.{FoldsTo}
use Rattle.std.specs.Iterator.{YieldsThen}
use Rattle.std.proofs.lemmas.Iterator.{YieldsList}
use Rattle.std.proofs.lemmas.Iterator.Search.{all_from_yields_List}
use Rattle.std.proofs.lemmas.List.Folds.{list_all_more}
use Rattle.std.proofs.lemmas.List.FromFn.{length-enumerate_from, get_or-enumerate_from}
use Rattle.std.proofs.lemmas.List.Sums.{length-filter, count_by_more_yes, count_by_more_no}
use Rattle.lists.specs.Test.{all_to}
use Rattle.lists.specs.Count.{count_to}
use Rattle.lists.specs.Fold.{each}
use Rattle.std.specs.Array.{IsFromFnResult, IsFromFnResultFrom}
use Rattle.std.specs.Fn.{Called}
use Rattle.std.proofs.lemmas.Bool.{cases_eq}
use denote.Param.Members.{Mut}
use lib.Seq.{ext_get_or}
use Rattle.lists.specs.Entries.{up_to}
use Rattle.lists.proofs.Entries.{length-up_to, get_d_up_to}

-- a list that has f's value at each place
pub is_up_to : {A : Type 0} (n : ℕ) (f : ℕ → A) (ys : List A) → length ys ≡ n → ((k : ℕ) (e : A) → k < n → get_or ys k e ≡ f k) → ys ≡ up_to n f
is_up_to {A = A} zero f [] long at = sym (no_more (up_to zero f) (length-up_to zero f))
  where
    no_more : (zs : List A) → length zs ≡ 0 → zs ≡ []
    no_more [] e = refl
    no_more (z ∷ zs) e = absurd (omega arith)
is_up_to zero f (y ∷ ys) long at = absurd (omega arith)
is_up_to (suc n) f [] long at = absurd (omega arith)
is_up_to (suc n) f (y ∷ ys) long at =
    ext_get_or y (y ∷ ys) (up_to (suc n) f) (long ∙ sym (length-up_to (suc n) f)) (λ k h. at k y (omega arith) ∙ sym (get_d_up_to (suc n) f k y (omega arith)))

-- what an array made of a function's values is, where the function changes nothing and computes f
module _ {F B : Type 0} (g : Mut F (ℕ × Unit {0}) B) (p : F) (f : ℕ → B) (pure : (i : ℕ) (y : B) (q : F) → Called g p (i, tt) y q → (q ≡ p) × (y ≡ f i)) where
  values : (ys : List B) (i n : ℕ) → IsFromFnResultFrom g p ys i n → (k : ℕ) (e : B) → i ≤ k → k < i + n → get_or ys k e ≡ f k
  values ys i zero w k e low high = absurd (omega arith)
  values ys i (suc n) (q, y, at, call, more) k e low high = elim (cases_eq i k) [
    | inl here ↦ subst (λ j. get_or ys j e ≡ f j) here (at.1 e ∙ (pure i y q call).1)
    | inr there ↦ values ys (i + 1) n (subst (λ r. IsFromFnResultFrom g r ys (i + 1) n) (pure i y q call).0 more) k e (omega arith) (omega arith)
  ]

  pub from_fn_is : (ys : List B) (n : ℕ) → IsFromFnResult g p ys n → ys ≡ up_to n f
  from_fn_is ys n made = is_up_to n f ys made.long (λ k e h. values ys 0 n made.each k e (omega arith) (omega arith))

-- a test of each place is a test of each element with its place
module _ {A : Type 0} (test : ℕ → A → Bool) (d : A) (xs : List A) where
  taken : (n : ℕ) → n ≤ length xs → all_to n (λ k. test k (get_or xs k d)) ≡ list_all (λ (p : ℕ × A). test p.0 p.1) (take n (enumerate_from 0 xs))
  unfolding all_to
  taken zero h = refl
  taken (suc n) h =
      let all = enumerate_from 0 xs in
      let e = list_all_more (λ (p : ℕ × A). test p.0 p.1) all n (0, d) (omega (arith, length-enumerate_from 0 xs)) in
      let at = get_or-enumerate_from 0 xs n (0, d) (omega arith) in
      rw (taken n (omega arith), ← add-one n, e, at, zero-add n)

  pub all_to-enumerated : (n : ℕ) → length xs ≡ n → all_to n (λ k. test k (get_or xs k d)) ≡ list_all (λ (p : ℕ × A). test p.0 p.1) (enumerate_from 0 xs)
  all_to-enumerated n long = taken n (omega arith) ∙ ap (list_all (λ (p : ℕ × A). test p.0 p.1)) (take_all n (enumerate_from 0 xs) (omega (arith, length-enumerate_from 0 xs)))

-- so `all` over an enumerated list answers whether the test holds of each place
module _ {S A B F : Type 0} {steps : S → Option A → S → Type 0} {v : A → ℕ × B} {g : Mut F (A × Unit {0}) Bool} {s : S} (test : ℕ → B → Bool) (d : B) (xs : List B) (n : ℕ) (u : S) (f : F) where
  pub all_places : (r : Bool)
      → (ys : List A) × (o : Option A) × (j : F) × YieldsThen steps s ys o u × FoldsTo (λ p x q. Called g p (x, tt) true q) f ys j × MatchOption o (r ≡ true) (λ x. (r ≡ false) × ((h : F) × Called g j (x, tt) false h))
      → YieldsList steps v s (enumerate_from 0 xs) → length xs ≡ n → ((x : A) (b : Bool) (q : F) → Called g f (x, tt) b q → (q ≡ f) × (b ≡ test (v x).0 (v x).1))
      → r ≡ all_to n (λ k. test k (get_or xs k d))
  all_places r ran yields long pure = all_from_yields_List (λ (p : ℕ × B). test p.0 p.1) u f r ran yields pure ∙ sym (all_to-enumerated test d xs n long)

-- the places that pass a test are as many as the elements that do
module _ {A : Type 0} (test : A → Bool) (d : A) (xs : List A) where
  counted : (n : ℕ) → n ≤ length xs → count_to n (λ k. test (get_or xs k d)) ≡ count_by test (take n xs)
  unfolding count_to each
  counted zero h = refl
  counted (suc n) h = rw (counted n (omega arith), ← add-one n) (go (test (get_or xs n d)) refl)
    where
      go : (b : Bool) → test (get_or xs n d) ≡ b → cond b (count_by test (take n xs) + 1) (count_by test (take n xs)) ≡ count_by test (take (n + 1) xs)
      go true e = sym (count_by_more_yes test xs n d (omega arith) e)
      go false e = sym (count_by_more_no test xs n d (omega arith) e)

  pub count_to-filtered : (n : ℕ) → length xs ≡ n → count_to n (λ k. test (get_or xs k d)) ≡ length (filter test xs)
  count_to-filtered n long = counted n (omega arith) ∙ ap (count_by test) (take_all n xs (omega arith)) ∙ sym (length-filter test xs)
