-- Laws of a number that is read digit by digit, as far as it matters.
use mathlib.Core.Path.{◌≡◌, refl, sym, ap, ◌∙◌}
use mathlib.Core.List.{List, [], ◌∷◌, ◌++◌}
use mathlib.Core.Bool.{true, false, true≢false}
use Prim.Native.Nat.{ℕ, zero, suc, ◌+◌, ◌*◌, ◌-◌, ◌<◌, ◌≤◌}
use native.Mathlib.Decide.{dec_lt}
use native.Mathlib.Numerals.{add-one}
use native.Mathlib.Omega.{arith}
use borrow.Author.Tests.{le-leb, lt-leb, leb-true}
use lib.Dec.{leb}
use lib.ListN.{length, get_or, take}
use lib.Seq.{take-suc, take_all}
use Rattle.std.specs.Prelude.{Some, None}
use Rattle.fit.specs.Fit.{within}
use Rattle.lists.proofs.Bools.{both, false_unless}
use Rattle.script.specs.Decimals.{is_number, value_from, value_of, capped, valued}

pub capped_small : (x : ℕ) → x ≤ 1000000 → capped x ≡ x
capped_small x h = rw (le-leb x 1000000 h)

pub capped-large : (x : ℕ) → 1000000 < x → capped x ≡ 1000001
capped-large x h = rw (lt-leb x 1000000 h)

-- one digit more
capped-grown : (x d : ℕ) → capped (10 * capped x + d) ≡ capped (10 * x + d)
capped-grown x d = go (dec_lt 1000000 x)
  where
    go : Dec (1000000 < x) → capped (10 * capped x + d) ≡ capped (10 * x + d)
    go (yes h) = ap (λ y. capped (10 * y + d)) (capped-large x h) ∙ capped-large (10 * 1000001 + d) (omega arith) ∙ sym (capped-large (10 * x + d) (omega arith))
    go (no h) = ap (λ y. capped (10 * y + d)) (capped_small x (omega arith))

capped-below : (x : ℕ) → capped x < 1000002
capped-below x = go (dec_lt 1000000 x)
  where
    go : Dec (1000000 < x) → capped x < 1000002
    go (yes h) = omega (arith, capped-large x h)
    go (no h) = omega (arith, capped_small x (omega arith))

value_snoc : (v : ℕ) (w : List ℕ) (c : ℕ) → value_from v (w ++ (c ∷ [])) ≡ 10 * value_from v w + (c - 48)
unfolding value_from
value_snoc v [] c = refl
value_snoc v (d ∷ w) c = value_snoc (10 * v + (d - 48)) w c

number_snoc : (w : List ℕ) (c : ℕ) → is_number w ≡ true → within 48 c 57 ≡ true → is_number (w ++ (c ∷ [])) ≡ true
unfolding is_number
number_snoc [] c e h = rw h
number_snoc (d ∷ w) c e h = let (a, b) = both (within 48 d 57) (is_number w) e in rw (a, number_snoc w c b h)

number_at : (w : List ℕ) (i : ℕ) → i < length w → is_number w ≡ true → within 48 (get_or w i 0) 57 ≡ true
unfolding is_number
number_at [] i h e = absurd (omega arith)
number_at (d ∷ w) zero h e = (both (within 48 d 57) (is_number w) e).0
number_at (d ∷ w) (suc i) h e = number_at w i (omega arith) (both (within 48 d 57) (is_number w) e).1

-- a word read up to a place
pub record ReadTo (word : List ℕ) (i v : ℕ) : Type 0 where
  pub digits : is_number (take i word) ≡ true
  pub value : v ≡ capped (value_of (take i word))

pub read_none : (word : List ℕ) → ReadTo word 0 0
unfolding is_number value_from
read_none word = record { digits = refl; value = refl }

pub read_below : {word : List ℕ} {i v : ℕ} → ReadTo word i v → v < 1000002
read_below {word} {i} r = omega (arith, r.value, capped-below (value_of (take i word)))

pub in_range : (c : ℕ) → within 48 c 57 ≡ true → (48 ≤ c) × (c ≤ 57)
in_range c e = let (a, b) = both (leb 48 c) (leb c 57) e in (leb-true 48 c a, leb-true c 57 b)

module _ {word : List ℕ} {i v : ℕ} (r : ReadTo word i v) where
  pub read-digit : i < length word → within 48 (get_or word i 0) 57 ≡ true → (w : ℕ) → w ≡ capped (10 * v + (get_or word i 0 - 48)) → ReadTo word (i + 1) w
  read-digit h d w e =
      let longer : value_of (take (i + 1) word) ≡ 10 * value_of (take i word) + (get_or word i 0 - 48) = rw (add-one i, take-suc word i 0 h) (value_snoc 0 (take i word) (get_or word i 0)) in
      record {
        digits = rw (add-one i, take-suc word i 0 h) (number_snoc (take i word) (get_or word i 0) r.digits d);
        value = e ∙ ap (λ x. capped (10 * x + (get_or word i 0 - 48))) r.value ∙ capped-grown (value_of (take i word)) (get_or word i 0 - 48) ∙ ap capped (sym longer);
      }

  pub read-other : i < length word → within 48 (get_or word i 0) 57 ≡ false → None ≡ valued word
  unfolding valued
  read-other h d = rw (false_unless (is_number word) (λ e. true≢false (sym (number_at word i h e) ∙ d)))

  pub read_all : length word ≤ i → Some v ≡ valued word
  unfolding valued
  read_all h =
      let all : take i word ≡ word = take_all i word h in
      let n : is_number word ≡ true = ap is_number (sym all) ∙ r.digits in
      rw n (ap Some (r.value ∙ ap (λ w. capped (value_of w)) all))
