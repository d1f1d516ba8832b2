-- The room that there is for each mode.
use mathlib.Core.Path.{◌≡◌, refl}
use mathlib.Core.Bool.{true, false, true≢false, false≢true}
use Prim.Native.Nat.{ℕ, ◌≤◌}
use native.Mathlib.Omega.{arith}
use Rattle.desk.specs.Spoken.{is_text, SpaceFor, SpareFor}
use Rattle.desk.specs.declared.asked.Mode.{Mode}
use Rattle.desk.specs.declared.asked.Mode.TheVariants.{Rehearse, Bytes, Text, Figure}

pub text-rooms : (m : Mode) {space spare : ℕ} → is_text m ≡ true → 65537 ≡ space → 524289 ≡ spare → SpaceFor m space × SpareFor m 524288 × (524288 ≤ spare)
text-rooms Rehearse e a b = absurd (false≢true e)
text-rooms Bytes e a b = absurd (false≢true e)
text-rooms Text e a b = (omega arith, refl, omega arith)
text-rooms (Figure d) e a b = absurd (false≢true e)

pub bytes-rooms : (m : Mode) {space spare : ℕ} → is_text m ≡ false → 524289 ≡ space → 65537 ≡ spare → SpaceFor m space × SpareFor m 65536 × (65536 ≤ spare)
bytes-rooms Rehearse e a b = (omega arith, refl, omega arith)
bytes-rooms Bytes e a b = (omega arith, refl, omega arith)
bytes-rooms Text e a b = absurd (true≢false e)
bytes-rooms (Figure d) e a b = (omega arith, refl, omega arith)
