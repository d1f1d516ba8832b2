-- Laws of what holds of every entry.
use mathlib.Core.List.{List, [], ◌∷◌, ◌++◌}
use Prim.Native.Nat.{ℕ, zero, suc}
use lib.ListN.{drop, get_or}
use Rattle.lists.specs.Every.{All}

module _ {A : Type 0} where
  -- what holds of everything
  pub all_every : (P : A → Type 0) → ((x : A) → P x) → (xs : List A) → All P xs
  all_every P f [] = tt
  all_every P f (x ∷ xs) = (f x, all_every P f xs)

  pub all_map : (P Q : A → Type 0) → ((x : A) → P x → Q x) → (xs : List A) → All P xs → All Q xs
  all_map P Q f [] h = tt
  all_map P Q f (x ∷ xs) h = (f x h.0, all_map P Q f xs h.1)

  pub all_append : (P : A → Type 0) (xs ys : List A) → All P xs → All P ys → All P (xs ++ ys)
  all_append P [] ys h k = k
  all_append P (x ∷ xs) ys h k = (h.0, all_append P xs ys h.1 k)

  pub all_left : (P : A → Type 0) (xs ys : List A) → All P (xs ++ ys) → All P xs
  all_left P [] ys h = tt
  all_left P (x ∷ xs) ys h = (h.0, all_left P xs ys h.1)

  pub all_right : (P : A → Type 0) (xs ys : List A) → All P (xs ++ ys) → All P ys
  all_right P [] ys h = h
  all_right P (x ∷ xs) ys h = all_right P xs ys h.1

  pub all_both : (P Q R : A → Type 0) → ((x : A) → P x → Q x → R x) → (xs : List A) → All P xs → All Q xs → All R xs
  all_both P Q R f [] h k = tt
  all_both P Q R f (x ∷ xs) h k = (f x h.0 k.0, all_both P Q R f xs h.1 k.1)

  pub all_drop : (P : A → Type 0) (k : ℕ) (xs : List A) → All P xs → All P (drop k xs)
  all_drop P zero xs h = h
  all_drop P (suc k) [] h = h
  all_drop P (suc k) (x ∷ xs) h = all_drop P k xs h.1

  -- an entry, or what is read past the end, if it holds of that
  pub all_get : (P : A → Type 0) (xs : List A) (k : ℕ) (d : A) → P d → All P xs → P (get_or xs k d)
  all_get P [] k d past h = past
  all_get P (x ∷ xs) zero d past h = h.0
  all_get P (x ∷ xs) (suc k) d past h = all_get P xs k d past h.1
