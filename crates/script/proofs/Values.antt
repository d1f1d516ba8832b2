-- Laws of decimal digits that are read back.
use mathlib.Core.Path.{◌≡◌, refl}
use mathlib.Core.List.{List, [], ◌∷◌, ◌++◌}
use mathlib.Core.Bool.{Bool, true}
use Prim.Native.Nat.{ℕ, zero, suc, ◌+◌, ◌*◌, ◌-◌, ◌^◌, ◌/◌, ◌%◌, ◌<◌, ◌≤◌}
use native.Mathlib.Decide.{dec_lt}
use native.Mathlib.Omega.{arith}
use lib.Dec.{leb}
use lib.ListN.{length, length-append}
use borrow.Author.Tests.{leb-true, le-leb, ne_eqb}
use Rattle.lists.proofs.Bools.{both}
use Rattle.fit.specs.Fit.{within}
use Rattle.text.specs.Hex.{is_blank}
use Rattle.text.specs.Numbers.{digits, decimal}
use Rattle.text.proofs.Digits.{digits-one, digits-next, ten}
use Rattle.script.specs.Decimals.{is_number, value_from, value_of}
use Rattle.script.specs.Split.{inside}
use Rattle.script.specs.declared.rules.words.Part.TheVariants.{Word, Uncommented, Line}
use Rattle.script.proofs.Splitting.{Each}

-- a number in a range
pub within-is : (low x high : ℕ) → within low x high ≡ true → (low ≤ x) × (x ≤ high)
within-is low x high e = let b = both (leb low x) (leb x high) e in (leb-true _ _ b.0, leb-true _ _ b.1)

pub is_within : (low x high : ℕ) → low ≤ x → x ≤ high → within low x high ≡ true
is_within low x high l h = rw (le-leb low x l, le-leb x high h)

-- digits before digits
pub number_append : (v w : List ℕ) → is_number v ≡ true → is_number w ≡ true → is_number (v ++ w) ≡ true
unfolding is_number
number_append [] w a b = b
number_append (c ∷ v) w a b = let h = both (within 48 c 57) (is_number v) a in rw (h.0, number_append v w h.1 b)

pub value_append : (k : ℕ) (v w : List ℕ) → value_from k (v ++ w) ≡ value_from (value_from k v) w
unfolding value_from
value_append k [] w = refl
value_append k (c ∷ v) w = value_append (10 * k + (c - 48)) v w

-- one digit
number_digit : (d : ℕ) → d < 10 → is_number ((48 + d) ∷ []) ≡ true
unfolding is_number
number_digit d h = rw (is_within 48 (48 + d) 57 (omega arith) (omega arith))

value_digit : (k d : ℕ) → value_from k ((48 + d) ∷ []) ≡ 10 * k + d
unfolding value_from
value_digit k d = omega arith

-- the digits of a number are a number, of at least one digit, and their value is that number
pub number_digits : (fuel x : ℕ) → is_number (digits fuel x) ≡ true
unfolding digits is_number
number_digits zero x = refl
number_digits (suc fuel) x = go (dec_lt x 10) (number_digits fuel (x / 10))
  where
    go : Dec (x < 10) → is_number (digits fuel (x / 10)) ≡ true → is_number (digits (suc fuel) x) ≡ true
    go (yes l) r = rw (digits-one fuel x l) (number_digit x l)
    go (no l) r = rw (digits-next fuel x (omega arith)) (number_append (digits fuel (x / 10)) ((48 + x % 10) ∷ []) r (number_digit (x % 10) (omega arith)))

pub some_digits : (fuel x : ℕ) → 1 ≤ length (digits (suc fuel) x)
some_digits fuel x = go (dec_lt x 10)
  where
    go : Dec (x < 10) → 1 ≤ length (digits (suc fuel) x)
    go (yes l) = rw (digits-one fuel x l) (omega arith)
    go (no l) = rw (digits-next fuel x (omega arith)) (omega (arith, length-append (digits fuel (x / 10)) ((48 + x % 10) ∷ [])))

pub value_digits : (fuel x : ℕ) → x < 10 ^ fuel → value_of (digits fuel x) ≡ x
unfolding value_from digits
value_digits zero x h = omega arith
value_digits (suc fuel) x h = go (dec_lt x 10) (value_digits fuel (x / 10))
  where
    go : Dec (x < 10) → (x / 10 < 10 ^ fuel → value_of (digits fuel (x / 10)) ≡ x / 10) → value_of (digits (suc fuel) x) ≡ x
    go (yes l) r = rw (digits-one fuel x l) (omega arith)
    go (no l) r = rw (digits-next fuel x (omega arith), value_append 0 (digits fuel (x / 10)) ((48 + x % 10) ∷ []), r (omega (arith, ten fuel)), value_digit (x / 10) (x % 10)) (omega arith)

pub number_decimal : (x : ℕ) → is_number (decimal x) ≡ true
number_decimal x = number_digits 20 x

pub some_decimal : (x : ℕ) → 1 ≤ length (decimal x)
some_decimal x = some_digits 19 x

pub value_decimal : (x : ℕ) → x < 10 ^ 20 → value_of (decimal x) ≡ x
value_decimal x h = value_digits 20 x h

-- what passes where a digit does passes at every character of a number
pub each-digit : (t : ℕ → Bool) → ((c : ℕ) → 48 ≤ c → c ≤ 57 → t c ≡ true) → (w : List ℕ) → is_number w ≡ true → Each t w
unfolding is_number
each-digit t f [] e = tt
each-digit t f (c ∷ w) e =
    let h = both (within 48 c 57) (is_number w) e in
    let d = within-is 48 c 57 h.0 in
    (f c d.0 d.1, each-digit t f w h.1)

-- a digit is no blank, begins no comment and ends no line
pub digit-word : (c : ℕ) → 48 ≤ c → c ≤ 57 → inside Word c ≡ true
unfolding inside is_blank
digit-word c l h = rw (ne_eqb c 32 (λ e. omega arith), ne_eqb c 9 (λ e. omega arith), ne_eqb c 13 (λ e. omega arith))

pub digit-uncommented : (c : ℕ) → 48 ≤ c → c ≤ 57 → inside Uncommented c ≡ true
unfolding inside
digit-uncommented c l h = rw (ne_eqb c 35 (λ e. omega arith))

pub digit-line : (c : ℕ) → 48 ≤ c → c ≤ 57 → inside Line c ≡ true
unfolding inside
digit-line c l h = rw (ne_eqb c 10 (λ e. omega arith))
