-- Laws of decimal digits.
use mathlib.Core.Path.{◌≡◌, sym, ap, ◌∙◌}
use mathlib.Core.List.{List, [], ◌∷◌, ◌++◌}
use mathlib.Core.Bool.{Bool, true, false, cond}
use Prim.Native.Nat.{ℕ, zero, suc, ◌+◌, ◌*◌, ◌^◌, ◌/◌, ◌%◌, ◌<◌, ◌≤◌}
use native.Mathlib.Decide.{dec_lt}
use native.Mathlib.Omega.{arith}
use lib.Dec.{ltb}
use lib.ListN.{length, set, length-append}
use borrow.Author.Tests.{lt-ltb, le-ltb}
use Rattle.text.specs.Numbers.{digits, decimal}
use Rattle.text.specs.Wrote.{Wrote}
use Rattle.text.proofs.Parts.{wrote_none, wrote_byte}

-- a list of at most k bytes and one byte more
pub length_digits : (fuel x : ℕ) → length (digits fuel x) ≤ fuel
unfolding digits
length_digits zero x = omega arith
length_digits (suc fuel) x = at (ltb x 10) (length_digits fuel (x / 10))
  where
    at : (b : Bool) → length (digits fuel (x / 10)) ≤ fuel → length (cond b ((48 + x) ∷ []) (digits fuel (x / 10) ++ ((48 + x % 10) ∷ []))) ≤ suc fuel
    at true h = omega arith
    at false h = omega (arith, length-append (digits fuel (x / 10)) ((48 + x % 10) ∷ []))

pub digits-one : (fuel x : ℕ) → x < 10 → digits (suc fuel) x ≡ (48 + x) ∷ []
unfolding digits
digits-one fuel x h = rw (lt-ltb x 10 h)

pub digits-next : (fuel x : ℕ) → 10 ≤ x → digits (suc fuel) x ≡ digits fuel (x / 10) ++ ((48 + x % 10) ∷ [])
unfolding digits
digits-next fuel x h = rw (le-ltb x 10 h)

-- ten times as many numbers with one digit more
pub ten : (fuel : ℕ) → 10 ^ suc fuel ≡ 10 * 10 ^ fuel
ten fuel = omega arith

-- more digits than are there do not matter
pub digits-enough : (fuel x : ℕ) → x < 10 ^ suc fuel → digits (suc (suc fuel)) x ≡ digits (suc fuel) x
digits-enough zero x h = let l : x < 10 = omega arith in digits-one 1 x l ∙ sym (digits-one 0 x l)
digits-enough (suc fuel) x h = go (dec_lt x 10) (digits-enough fuel (x / 10))
  where
    go : Dec (x < 10) → (x / 10 < 10 ^ suc fuel → digits (suc (suc fuel)) (x / 10) ≡ digits (suc fuel) (x / 10)) → digits (suc (suc (suc fuel))) x ≡ digits (suc (suc fuel)) x
    go (yes l) r = digits-one (suc (suc fuel)) x l ∙ sym (digits-one (suc fuel) x l)
    go (no l) r =
        let g : 10 ≤ x = omega arith in
        digits-next (suc (suc fuel)) x g ∙ rw (r (omega (arith, ten (suc fuel)))) (sym (digits-next (suc fuel) x g))

-- a number below 2^64: its last digit follows those of its tenth part
pub decimal-one : (x : ℕ) → x < 10 → decimal x ≡ (48 + x) ∷ []
decimal-one x h = digits-one 19 x h

pub decimal-next : (x : ℕ) → x < 2 ^ 64 → 10 ≤ x → decimal x ≡ decimal (x / 10) ++ ((48 + x % 10) ∷ [])
decimal-next x l h =
    digits-next 19 x h ∙ rw (digits-enough 18 (x / 10) (omega arith))

pub length-decimal : (x : ℕ) → length (decimal x) ≤ 20
length-decimal x = length_digits 20 x

pub size-one : (x : ℕ) → x < 10 → 1 ≡ length (decimal x)
size-one x h = rw (decimal-one x h)

pub size-next : (x : ℕ) → x < 2 ^ 64 → 10 ≤ x → length (decimal x) ≡ length (decimal (x / 10)) + 1
size-next x l h = ap length (decimal-next x l h) ∙ length-append (decimal (x / 10)) ((48 + x % 10) ∷ [])

-- writing the only digit, and the last one
pub wrote_one : (x : ℕ) {old : List ℕ} → x < 10 → length (decimal x) ≤ length old → Wrote (decimal x) old 1 (set old 0 (48 + x))
wrote_one x {old} l h = rw (decimal-one x l) (wrote_byte (48 + x) (wrote_none old) (omega (arith, size-one x l)))

pub wrote_next : (x : ℕ) {old new : List ℕ} {at : ℕ} → x < 2 ^ 64 → 10 ≤ x → length (decimal x) ≤ length old → Wrote (decimal (x / 10)) old at new → Wrote (decimal x) old (at + 1) (set new at (48 + x % 10))
wrote_next x b l h w = rw (decimal-next x b l) (wrote_byte (48 + x % 10) w (omega (arith, size-next x b l, w.count)))
