-- What is made of what was read of an input is what is made of the whole input.
use Rattle.std.proofs.Common.{◌≡◌, refl, sym, ap, ◌∙◌, List, [], ℕ, ◌+◌, ◌<◌, ◌≤◌, Option, Some, None, IfSome, length, take, length-append, arith}
use Rattle.std.proofs.lemmas.List.{take-append-le, take-take}
use Rattle.std.specs.Io.KnownBytes.{Consumes, IsAtEnd}
use native.Mathlib.Decide.{dec_lt}
use lib.Seq.{length-take-le}
use Rattle.calls.specs.Calls.{EnoughFor, Whole}
use Rattle.calls.specs.Moved.{Read, ReadFilled}
use Rattle.calls.specs.declared.Filled.{Filled}

-- what was read is a front of the input, and enough of it: the buffer is full, or the last read found the end
pub read_enough : (before left : Option (List ℕ)) (space : List ℕ) (size : ℕ) → size ≤ length space → (size < length space → IsAtEnd left) → Consumes before left (take size space)
    → IfSome before (λ given. (take size given ≡ take size space) × ((got : Option ℕ) × Whole got size (length space) × (got ≡ Some 0 → length given ≤ size)))
read_enough None left space size inside end read = tt
read_enough (Some given) None space size inside end read = absurd read
read_enough (Some given) (Some rest) space size inside end read =
    (ap (λ (l : List ℕ). take size l) read ∙ take-append-le size (take size space) rest (omega (arith, long)) ∙ take-take size size space (omega arith), which (dec_lt size (length space)))
  where
    long : length (take size space) ≡ size
    long = length-take-le size space inside

    which : Dec (size < length space) → (got : Option ℕ) × Whole got size (length space) × (got ≡ Some 0 → length given ≤ size)
    which (yes l) =
        let none : rest ≡ [] = end l in
        (Some 0, (λ _. refl), (λ _. omega (arith, ap length read, length-append (take size space) rest, ap length none, long)))
    which (no l) = (None, (λ h. absurd (l h)), (λ z. let w : ◌≡◌ {A = ℕ} 0 1 = cc in absurd (omega arith)))

pub enough_known : {made : List ℕ → List ℕ} {most : ℕ} → EnoughFor made most → (before left : Option (List ℕ)) (space : List ℕ) (size : ℕ) → size ≤ length space → most < length space
    → (size < length space → IsAtEnd left) → Consumes before left (take size space) → IfSome before (λ given. made (take size space) ≡ made given)
enough_known e None left space size inside more end read = tt
enough_known {made} e (Some given) left space size inside more end read =
    let enough = read_enough (Some given) left space size inside end read in
    ap made (sym enough.0) ∙ e given enough.1.0 size (length space) more enough.1.1 enough.1.2

-- what was read to the front of a buffer with room for more than the most that matter
pub read_most : (most : ℕ) (before after : Option (List ℕ)) (space : List ℕ) (size : ℕ) → most < length space → size ≤ length space → (size < length space → IsAtEnd after)
    → Consumes before after (take size space) → Read most before after (take size space)
read_most most before after space size room inside end read = record { consumed = read; to_end = λ l. end (omega (arith, room, l, length-take-le size space inside)) }

-- and to one with room for a byte more
pub read_filled : (most : ℕ) (filled : Filled) (before after : Option (List ℕ)) (space : List ℕ) → length space ≡ most + 1 → filled.size ≤ length space
    → Whole (Some filled.last) filled.size (length space) → (filled.size < length space → IsAtEnd after) → Consumes before after (take filled.size space)
    → ReadFilled most filled before after (take filled.size space)
read_filled most filled before after space room inside whole end read =
    let all = read_most most before after space filled.size (omega (arith, room)) inside end read in
    record {
      size = length-take-le filled.size space inside;
      bound = omega (arith, room, inside);
      whole = λ l. whole (omega (arith, room, l));
      consumed = all.consumed;
      to_end = all.to_end;
    }
