-- Hex text, read from left to right with the digit that waits for the second one of its byte; and the text of bytes.
use mathlib.Core.Path.{◌≡◌, refl}
use mathlib.Core.List.{List, [], ◌∷◌}
use mathlib.Core.Bool.{Bool, true, false, cond, ◌&&◌}
use Rattle.std.specs.Prelude.{Option, Some, None, is_some}
use Rattle.std.specs.Option.{unwrap_or}
use Prim.Native.Nat.{ℕ, suc, ◌+◌, ◌*◌, ◌/◌, ◌%◌, ◌<◌, ◌≤◌}
use native.Mathlib.Decide.{dec_lt}
use native.Mathlib.Omega.{arith}
use borrow.Author.Tests.{lt-ltb, le-ltb, ne_eqb, le-leb, lt-leb}
use Rattle.text.specs.Hex.{Spelled, is_blank, digit_of, is_digit, no_hex, with_first, spelled, digit, hex_of}
use Rattle.frames.specs.Claims.{HexRestores}

-- what the rest of a line spells, after the digit that waits, if one does
unfoldable pub spelled_from : Option ℕ → List ℕ → Spelled
spelled_from h [] = cond (is_some h) no_hex (record { hex = true; bytes = [] })
spelled_from h (c ∷ cs) =
    cond (is_some h)
    (cond (is_digit c) (with_first (16 * unwrap_or h 0 + digit_of c) (spelled_from None cs)) no_hex)
    (cond (is_blank c) (spelled_from None cs) (cond (is_digit c) (spelled_from (Some (digit_of c)) cs) no_hex))

pub from-left : (line : List ℕ) → spelled_from None line ≡ spelled line
unfolding spelled spelled_from
from-left [] = refl
from-left (c ∷ []) = one (is_digit c)
  where
    one : (b : Bool) → cond (is_blank c) (record { hex = true; bytes = [] }) (cond b no_hex no_hex) ≡ cond (is_blank c) (record { hex = true; bytes = [] }) no_hex
    one true = refl
    one false = refl
from-left (c ∷ d ∷ line) = two (is_blank c) (is_digit c) (from-left (d ∷ line)) (from-left line)
  where
    rest : Spelled
    rest = with_first (16 * digit_of c + digit_of d) (spelled line)

    two : (a b : Bool) → spelled_from None (d ∷ line) ≡ spelled (d ∷ line) → spelled_from None line ≡ spelled line → cond a (spelled_from None (d ∷ line)) (cond b (spelled_from (Some (digit_of c)) (d ∷ line)) no_hex) ≡ cond a (spelled (d ∷ line)) (cond (b && is_digit d) rest no_hex)
    two true b one_on two-on = one_on
    two false true one_on two-on = rw two-on
    two false false one_on two-on = refl

-- the digit of a number below 16 is read as that number
digit_low : (d : ℕ) → d < 10 → digit d ≡ 48 + d
unfolding digit
digit_low d h = rw (lt-ltb d 10 h)

digit-high : (d : ℕ) → 10 ≤ d → digit d ≡ 87 + d
unfolding digit
digit-high d h = rw (le-ltb d 10 h)

pub read-digit : (d : ℕ) → d < 16 → digit_of (digit d) ≡ d
unfolding digit_of
read-digit d h = go (dec_lt d 10)
  where
    go : Dec (d < 10) → digit_of (digit d) ≡ d
    go (yes l) = rw (digit_low d l, le-leb 48 (48 + d) (omega arith), le-leb (48 + d) 57 (omega arith)) (omega arith)
    go (no l) =
        rw (
          digit-high d (omega arith),
          le-leb 48 (87 + d) (omega arith),
          lt-leb (87 + d) 57 (omega arith),
          le-leb 65 (87 + d) (omega arith),
          lt-leb (87 + d) 70 (omega arith),
          le-leb 97 (87 + d) (omega arith),
          le-leb (87 + d) 102 (omega arith),
        )
        (omega arith)

no_blank : (d : ℕ) → is_blank (digit d) ≡ false
unfolding is_blank
no_blank d = go (dec_lt d 10)
  where
    go : Dec (d < 10) → is_blank (digit d) ≡ false
    go (yes l) = rw (digit_low d l, ne_eqb (48 + d) 32 (λ e. omega arith), ne_eqb (48 + d) 9 (λ e. omega arith), ne_eqb (48 + d) 13 (λ e. omega arith))
    go (no l) = let h : 10 ≤ d = omega arith in rw (digit-high d h, ne_eqb (87 + d) 32 (λ e. omega arith), ne_eqb (87 + d) 9 (λ e. omega arith), ne_eqb (87 + d) 13 (λ e. omega arith))

-- so the text of bytes spells them
pub hex-restores : HexRestores
unfolding spelled hex_of
hex-restores [] o = refl
hex-restores (b ∷ bytes) o =
    let small : b < 256 = o 0 in
    let high : b / 16 < 16 = omega arith in
    let low : b % 16 < 16 = omega arith in
    let whole : 16 * (b / 16) + b % 16 ≡ b = omega arith in
    rw (no_blank (b / 16), read-digit (b / 16) high, read-digit (b % 16) low, lt-ltb (b / 16) 16 high, lt-ltb (b % 16) 16 low, hex-restores bytes (λ k. o (suc k)), whole)
