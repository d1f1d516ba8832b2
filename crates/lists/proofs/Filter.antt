-- Laws of the entries at which a test holds, laid over the front of a list.
use mathlib.Core.Path.{◌≡◌, refl, ◌∙◌}
use mathlib.Core.List.{List, [], ◌∷◌, ◌++◌, append-nil}
use mathlib.Core.Bool.{Bool, true, false, cond}
use Prim.Native.Nat.{ℕ, zero, suc, ◌+◌, ◌<◌, ◌≤◌}
use native.Mathlib.Numerals.{add-one}
use native.Mathlib.Omega.{arith}
use lib.ListN.{length, set, length-append}
use Rattle.lists.specs.Entries.{over}
use Rattle.lists.specs.Filter.{where_to}
use Rattle.lists.proofs.Entries.{over-nil, over-snoc}

module _ {A : Type 0} where
  -- a loop that keeps some entries: below n it has kept `to` of them, and r has them over the front of old
  pub record Kept (n : ℕ) (t : ℕ → Bool) (f : ℕ → A) (old : List A) (to : ℕ) (r : List A) : Type 0 where
    pub count : to ≡ length (where_to n t f)
    pub list : r ≡ over (where_to n t f) old

  -- where it begins
  pub kept-none : (t : ℕ → Bool) (f : ℕ → A) (old : List A) → Kept 0 t f old 0 old
  unfolding where_to
  kept-none t f old = record { count = refl; list = over-nil old }

  -- a turn that keeps an entry
  pub kept-takes : {n : ℕ} {t : ℕ → Bool} {f : ℕ → A} {old : List A} {to to' : ℕ} {r r' : List A} {v : A} → Kept n t f old to r → to < length old → t n ≡ true → v ≡ f n → r' ≡ set r to v → to' ≡ to + 1 → Kept (n + 1) t f old to' r'
  unfolding where_to
  kept-takes {n} {t} {f} {old} {to} {r = r} k h b g q p =
      record { count = p ∙ rw (add-one n, b, length-append, k.count); list = q ∙ rw (add-one n, b, g) (over-snoc (where_to n t f) old r to (f n) k.count h k.list) }

  -- a turn that leaves one out
  pub kept_leaves : {n : ℕ} {t : ℕ → Bool} {f : ℕ → A} {old : List A} {to to' : ℕ} {r r' : List A} → Kept n t f old to r → t n ≡ false → r' ≡ r → to' ≡ to → Kept (n + 1) t f old to' r'
  unfolding where_to
  kept_leaves {n} {t} {f} k b q p =
      let e : where_to (n + 1) t f ≡ where_to n t f = rw (add-one, b) (append-nil (where_to n t f)) in
      record { count = p ∙ rw e k.count; list = q ∙ rw e k.list }

  pub length-where : (n : ℕ) (t : ℕ → Bool) (f : ℕ → A) → length (where_to n t f) ≤ n
  unfolding where_to
  length-where zero t f = omega arith
  length-where (suc n) t f = at (t n) (length-where n t f)
    where
      at : (b : Bool) → length (where_to n t f) ≤ n → length (where_to n t f ++ cond b (f n ∷ []) []) ≤ suc n
      at true h = omega (arith, length-append (where_to n t f) (f n ∷ []))
      at false h = omega (arith, length-append (where_to n t f) [])
