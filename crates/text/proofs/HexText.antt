-- Laws of hex text: a line read from left to right, and bytes written one after the other.
use mathlib.Core.Path.{◌≡◌, refl, sym, ap, ◌∙◌}
use mathlib.Core.List.{List, [], ◌∷◌, ◌++◌, append_assoc}
use mathlib.Core.Bool.{Bool, true, false, cond, ◌&&◌}
use Prim.Native.Nat.{ℕ, ◌+◌, ◌-◌, ◌*◌, ◌/◌, ◌%◌, ◌<◌, ◌≤◌}
use native.Mathlib.Numerals.{add-one}
use native.Mathlib.Omega.{arith}
use lib.ListN.{length, get_or, set, take, drop, drop_of_length-le, length-drop}
use lib.Seq.{drop-cons, take-suc, take-suc-set, take_all}
use Rattle.std.specs.Prelude.{Some, None}
use Rattle.std.proofs.lemmas.Option.{none-some}
use Rattle.text.specs.Hex.{Spelled, is_blank, digit_of, is_digit, no_hex, with_first, spelled, digit, spaced}
use Rattle.text.specs.Wrote.{Wrote}
use Rattle.text.proofs.Parts.{wrote_byte}

-- bytes before what the rest spells
unfoldable pub with_bytes : List ℕ → Spelled → Spelled
with_bytes [] s = s
with_bytes (b ∷ bytes) s = with_first b (with_bytes bytes s)

bytes-then : (bytes : List ℕ) (b : ℕ) (s : Spelled) → with_bytes bytes (with_first b s) ≡ with_bytes (bytes ++ (b ∷ [])) s
unfolding with_bytes
bytes-then [] b s = refl
bytes-then (a ∷ bytes) b s = ap (with_first a) (bytes-then bytes b s)

bytes-lost : (bytes : List ℕ) → with_bytes bytes no_hex ≡ no_hex
unfolding with_bytes
bytes-lost [] = refl
bytes-lost (a ∷ bytes) = ap (with_first a) (bytes-lost bytes)

bytes-all : (bytes : List ℕ) → with_bytes bytes (record { hex = true; bytes = [] }) ≡ record { hex = true; bytes = bytes }
unfolding with_bytes
bytes-all [] = refl
bytes-all (a ∷ bytes) = ap (with_first a) (bytes-all bytes)

-- a line of which a rest is left: the bytes so far stand before what the rest spells
pub record ReadTo (line rest buffer : List ℕ) (size : ℕ) : Type 0 where
  pub is : spelled line ≡ with_bytes (take size buffer) (spelled rest)

pub read_none : (line buffer : List ℕ) → ReadTo line line buffer 0
unfolding with_bytes
read_none line buffer = record { is = refl }

pub read_all : {line rest buffer : List ℕ} {size : ℕ} → ReadTo line rest buffer size → length rest ≤ 0 → record { hex = true; bytes = take size buffer } ≡ spelled line
unfolding spelled
read_all {rest = rest} r h = let none : rest ≡ [] = drop_of_length-le rest {i = 0} h in sym (r.is ∙ rw none (bytes-all _))

-- what a line spells by its first characters
spelled-blank : (c : ℕ) (line : List ℕ) → is_blank c ≡ true → spelled (c ∷ line) ≡ spelled line
unfolding spelled
spelled-blank c [] e = rw e
spelled-blank c (d ∷ line) e = rw e

spelled-lone : (c : ℕ) → is_blank c ≡ false → spelled (c ∷ []) ≡ no_hex
unfolding spelled
spelled-lone c e = rw e

module _ (c d : ℕ) (line : List ℕ) (e : is_blank c ≡ false) where
  spelled-other : (is_digit c && is_digit d) ≡ false → spelled (c ∷ d ∷ line) ≡ no_hex
  unfolding spelled
  spelled-other f = rw (e, f)

  spelled-byte : (is_digit c && is_digit d) ≡ true → spelled (c ∷ d ∷ line) ≡ with_first (16 * digit_of c + digit_of d) (spelled line)
  unfolding spelled
  spelled-byte t = rw (e, t)

-- what the answer for a character says of it
module _ (c : ℕ) where
  pub no_digit : None ≡ cond (is_digit c) (Some (digit_of c)) None → is_digit c ≡ false
  no_digit e = go (is_digit c) refl e
    where
      go : (b : Bool) → is_digit c ≡ b → None ≡ cond b (Some (digit_of c)) None → is_digit c ≡ false
      go true f e = absurd (none-some _ e)
      go false f e = f

  pub one_digit : {x : ℕ} → Some x ≡ cond (is_digit c) (Some (digit_of c)) None → (is_digit c ≡ true) × (x ≡ digit_of c)
  one_digit {x} e = go (is_digit c) refl e
    where
      go : (b : Bool) → is_digit c ≡ b → Some x ≡ cond b (Some (digit_of c)) None → (is_digit c ≡ true) × (x ≡ digit_of c)
      go true f e = (f, cc)
      go false f e = absurd (none-some _ (sym e))

-- what is left behind the first characters of a rest
after : (i : ℕ) (rest : List ℕ) → take (length rest - i) (drop i rest) ≡ drop i rest
after i rest = take_all (length rest - i) (drop i rest) (omega (arith, length-drop i rest))

-- a turn at a blank, at no byte and at a byte
no_hex_lem : {line buffer rest : List ℕ} {size : ℕ} → ReadTo line rest buffer size → spelled rest ≡ no_hex → no_hex ≡ spelled line
no_hex_lem r e = sym (r.is ∙ ap (with_bytes _) e ∙ bytes-lost _)

module _ {line rest buffer : List ℕ} {size : ℕ} (r : ReadTo line rest buffer size) (h : 1 ≤ length rest) where
  first : rest ≡ get_or rest 0 0 ∷ drop 1 rest
  first = drop-cons rest 0 0 h

  pub read_blank : is_blank (get_or rest 0 0) ≡ true → ReadTo line (take (length rest - 1) (drop 1 rest)) buffer size
  read_blank e = record { is = r.is ∙ ap (with_bytes _) (ap spelled first ∙ spelled-blank _ _ e ∙ ap spelled (sym (after 1 rest))) }

  module _ (e : is_blank (get_or rest 0 0) ≡ false) where
    pub read_lone : length rest ≤ 1 → no_hex ≡ spelled line
    read_lone l = no_hex_lem r (ap spelled (first ∙ rw (drop_of_length-le rest {i = 1} l)) ∙ spelled-lone _ e)

    module _ (l : 2 ≤ length rest) where
      two : rest ≡ get_or rest 0 0 ∷ get_or rest 1 0 ∷ drop 2 rest
      two = rw (first, drop-cons rest 1 0 l)

      pub read_other : (is_digit (get_or rest 0 0) && is_digit (get_or rest 1 0)) ≡ false → no_hex ≡ spelled line
      read_other f = no_hex_lem r (ap spelled two ∙ spelled-other _ _ _ e f)

      pub read_byte : {high low : ℕ} → is_digit (get_or rest 0 0) ≡ true → is_digit (get_or rest 1 0) ≡ true → high ≡ digit_of (get_or rest 0 0) → low ≡ digit_of (get_or rest 1 0) → size < length buffer → ReadTo line (take (length rest - 2) (drop 2 rest)) (set buffer size (16 * high + low)) (size + 1)
      read_byte s t x y room =
          record {
            is = r.is ∙ ap (with_bytes _) (ap spelled two ∙ spelled-byte _ _ _ e (rw (s, t)))
                ∙ rw (add-one size, take-suc-set buffer size _ room, x, y, after 2 rest) (bytes-then _ _ _);
          }

-- bytes as text, one more
pub length-spaced : (bytes : List ℕ) → length (spaced bytes) ≡ 3 * length bytes
unfolding spaced
length-spaced [] = refl
length-spaced (b ∷ bytes) = omega (arith, length-spaced bytes)

spaced-then : (bytes : List ℕ) (b : ℕ) → spaced (bytes ++ (b ∷ [])) ≡ spaced bytes ++ (32 ∷ digit (b / 16) ∷ digit (b % 16) ∷ [])
unfolding spaced
spaced-then [] b = refl
spaced-then (a ∷ bytes) b = rw (spaced-then bytes b)

pub wrote_spaced : (bytes : List ℕ) (k : ℕ) {old new : List ℕ} {at : ℕ} → Wrote (spaced (take k bytes)) old at new → k < length bytes → at + 3 ≤ length old → Wrote (spaced (take (k + 1) bytes)) old (at + 3) (set (set (set new at 32) (at + 1) (digit (get_or bytes k 0 / 16))) (at + 2) (digit (get_or bytes k 0 % 16)))
wrote_spaced bytes k {at = at} w l room =
    let second : at + 1 + 1 ≡ at + 2 = omega arith in
    let third : at + 2 + 1 ≡ at + 3 = omega arith in
    let space = wrote_byte 32 w (omega arith) in
    let high = wrote_byte (digit (get_or bytes k 0 / 16)) space (omega arith) in
    rw (add-one k, take-suc bytes k 0 l, spaced-then, ← third, ← second) (simp append_assoc at (wrote_byte (digit (get_or bytes k 0 % 16)) high (omega arith)))
