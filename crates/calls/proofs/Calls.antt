-- It is enough to read a byte more than the most of which different things are made.
use Rattle.std.proofs.Common.{◌≡◌, sym, ap, ◌∙◌, List, ℕ, ◌<◌, length, take, arith}
use native.Mathlib.Decide.{dec_lt}
use lib.Seq.{take_all, length-take-le}
use Rattle.calls.specs.Calls.{EnoughFor}

pub enough : (made : List ℕ → List ℕ) (most : ℕ) (one : List ℕ) → ((l : List ℕ) → most < length l → made l ≡ one) → EnoughFor made most
enough made most one long given got size room more whole end = which (dec_lt size (length given))
  where
    which : Dec (size < length given) → made (take size given) ≡ made given
    which (no all) = ap made (take_all size given (omega arith))
    which (yes some) = full (dec_lt size room)
      where
        full : Dec (size < room) → made (take size given) ≡ made given
        full (yes l) = absurd (omega (arith, end (whole l)))
        full (no l) = long (take size given) (omega (arith, length-take-le size given (omega arith))) ∙ sym (long given (omega arith))
