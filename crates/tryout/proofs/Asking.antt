-- What a line of arguments asks for, case by case.
use Rattle.std.specs.Prelude.{Option, Some, None, Result, Ok, Err}
use Rattle.std.specs.Option.{ok_or}
use mathlib.Core.Path.{◌≡◌, refl, ap}
use mathlib.Core.List.{List, [], ◌∷◌}
use mathlib.Core.Bool.{true, false, and-false}
use Prim.Native.Nat.{ℕ, ◌+◌, ◌<◌, ◌≤◌}
use native.Mathlib.Omega.{arith}
use lib.Dec.{leb, ltb}
use lib.ListN.{length, get_or, take}
use lib.Seq.{length-take-le}
use borrow.Author.Tests.{lt-ltb, le-ltb, lt-leb}
use Rattle.fit.specs.Fit.{within}
use Rattle.fit.proofs.Tests.{of_within}
use Rattle.text.specs.Hex.{no_hex, spelled}
use Rattle.election.specs.Commands.{decode, operands, last_command}
use Rattle.decision.proofs.Bytes.{width_of}
use Rattle.tryout.specs.Asked.{TryOut, NoBytes, LeftOver, NoHex, is_left_over, asking}

-- bytes behind a command: there are none, it is known, or it is no command
pub over_none : (bytes : List ℕ) → length bytes ≡ 0 → false ≡ is_left_over bytes
over_none bytes e = rw (le-ltb (1 + operands (decode bytes)) (length bytes) (omega (arith, e)), and-false (within 1 (get_or bytes 0 0) last_command))

pub over-known : (bytes : List ℕ) (w : ℕ) → 1 ≤ get_or bytes 0 0 → get_or bytes 0 0 ≤ 9 → w ≡ operands (decode (get_or bytes 0 0 ∷ [])) → ltb (1 + w) (length bytes) ≡ is_left_over bytes
over-known bytes w low high e = rw (of_within 1 (get_or bytes 0 0) 9 low high, width_of bytes, e)

pub over_zero : (bytes : List ℕ) → get_or bytes 0 0 < 1 → false ≡ is_left_over bytes
over_zero bytes h = rw (lt-leb 1 (get_or bytes 0 0) h)

pub over-above : (bytes : List ℕ) → 9 < get_or bytes 0 0 → false ≡ is_left_over bytes
over-above bytes h = rw (lt-leb (get_or bytes 0 0) 9 h, and-false (leb 1 (get_or bytes 0 0)))

-- some bytes are taken where their number is not 0
pub taken-some : (size : ℕ) (buffer : List ℕ) → size ≤ length buffer → (size ≡ 0 → ⊥) → 0 < length (take size buffer)
taken-some size buffer h ne = omega (arith, length-take-le size buffer h, ne)

-- what was read, from the answer in which none is an error
pub read_ok : {E : Type 0} (r : Option ℕ) (why : E) (answer : Result ℕ E) (size : ℕ) → answer ≡ ok_or r why → answer ≡ Ok size → r ≡ Some size
read_ok (Some x) why answer size e f = let s : x ≡ size = cc in ap Some s
read_ok None why answer size e f = let z : ◌≡◌ {A = ℕ} 0 1 = cc in absurd (omega arith)

pub read_err : {E : Type 0} (r : Option ℕ) (why : E) (answer : Result ℕ E) (is : E) → answer ≡ ok_or r why → answer ≡ Err is → (r ≡ None) × (is ≡ why)
read_err (Some x) why answer is e f = let z : ◌≡◌ {A = ℕ} 0 1 = cc in absurd (omega arith)
read_err None why answer is e f = (refl, cc)

-- a line that is no hex
pub no_hex_lem : (line : List ℕ) → no_hex ≡ spelled line → NoHex ≡ asking line
unfolding asking
no_hex_lem line e = rw (← e)

-- a line that spells bytes
module _ (line bytes : List ℕ) (e : record { hex = true; bytes = bytes } ≡ spelled line) where
  pub no_bytes : length bytes ≡ 0 → NoBytes ≡ asking line
  unfolding asking
  no_bytes z = rw (← e, le-ltb 0 (length bytes) (omega (arith, z)))

  pub left_over : 0 < length bytes → is_left_over bytes ≡ true → LeftOver ≡ asking line
  unfolding asking
  left_over some o = rw (← e, lt-ltb 0 (length bytes) some, o)

  pub one-command : 0 < length bytes → is_left_over bytes ≡ false → TryOut bytes ≡ asking line
  unfolding asking
  one-command some o = rw (← e, lt-ltb 0 (length bytes) some, o)
