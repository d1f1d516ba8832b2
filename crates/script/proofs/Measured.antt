-- Measuring a schedule's text, command by command.
use mathlib.Core.Path.{◌≡◌, refl, sym, ap, ◌∙◌}
use mathlib.Core.List.{List}
use Prim.Native.Nat.{ℕ, ◌+◌, ◌-◌, ◌<◌, ◌≤◌}
use native.Mathlib.Nat.{add-zero, zero-add}
use native.Mathlib.Omega.{arith}
use lib.ListN.{length, take, drop, length-append, length-drop}
use Rattle.std.specs.Prelude.{Result, Ok, Err}
use Rattle.election.specs.Commands.{decode}
use Rattle.script.specs.Pieces.{found, whole, answer_of}
use Rattle.script.specs.Shown.{line_of, Showing, Text, NoneAt, behind, none_at}
use Rattle.script.specs.declared.NoText.{NoText}
use Rattle.script.specs.declared.NoTextAt.{NoTextAt}
use Rattle.script.specs.declared.rules.showing.Piece.{Piece}
use Rattle.script.proofs.Onward.{led, Here, here, rest, next, rest-none, turn, lent_found}

-- the answer, with so many characters before the text
abbrev pub measured : ℕ → Showing → Result ℕ NoTextAt
measured size (Text t) = Ok (size + length t)
measured size (NoneAt at why) = none_at at why

measured-zero : (s : Showing) → measured 0 s ≡ answer_of s
measured-zero (Text t) = ap Ok (zero-add (length t))
measured-zero (NoneAt at why) = refl

measured-behind : (size : ℕ) (line : List ℕ) (s : Showing) → measured size (behind line s) ≡ measured (size + length line) s
measured-behind size line (Text t) = ap Ok (omega (arith, length-append line t))
measured-behind size line (NoneAt at why) = refl

-- where measuring stands: an offset and so many characters before it; they lead to the answer
pub record Measuring (room : ℕ) (bytes : List ℕ) (at size : ℕ) : Type 0 where
  pub inside : at ≤ length bytes
  pub fits : size ≤ room
  pub leads : measured size (rest room bytes at size) ≡ answer_of (whole room bytes)

pub measuring_first : (room : ℕ) (bytes : List ℕ) → Measuring room bytes 0 0
measuring_first room bytes = record { inside = omega arith; fits = omega arith; leads = measured-zero (whole room bytes) }

module _ (room : ℕ) (bytes : List ℕ) (at size : ℕ) (m : Measuring room bytes at size) where
  pub measured-end : length bytes ≤ at → Ok size ≡ answer_of (whole room bytes)
  measured-end h = ap Ok (sym (add-zero size)) ∙ ap (measured size) (sym (rest-none room bytes at size h)) ∙ m.leads

  module _ (more : at < length bytes) (r : Result Piece NoText) (is : r ≡ found (room - size) (take (length bytes - at) (drop at bytes))) where
    pub measured-stop : (why : NoText) → r ≡ Err why → none_at at why ≡ answer_of (whole room bytes)
    measured-stop why stop =
        let e : found (room - size) (drop at bytes) ≡ Err why = lent_found (room - size) bytes at is stop in
        ap (measured size) (sym (turn room bytes at size more m.fits ∙ ap (led at _) e)) ∙ m.leads

    pub wide : (p : Piece) → r ≡ Ok p → 0 < p.width
    wide p line = omega (arith, (here (room - size) (drop at bytes) p (lent_found (room - size) bytes at is line)).width)

    pub measuring_on : (p : Piece) → r ≡ Ok p → Measuring room bytes (at + p.width) (size + p.size)
    measuring_on p line =
        let e : found (room - size) (drop at bytes) ≡ Ok p = lent_found (room - size) bytes at is line in
        let f : Here (room - size) (drop at bytes) p.width p.size = here (room - size) (drop at bytes) p e in
        record {
          inside = omega (arith, f.width, f.enough, length-drop at bytes);
          fits = omega (arith, f.size, f.fits, m.fits);
          leads =
              rw (f.width, f.size)
              (sym (measured-behind size (line_of (decode (drop at bytes))) (next room bytes at size)) ∙ ap (measured size) (sym (turn room bytes at size more m.fits ∙ ap (led at _) e)) ∙ m.leads);
        }
