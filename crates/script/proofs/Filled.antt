-- Writing a schedule's text, command by command.
use mathlib.Core.Path.{◌≡◌, refl, sym, ap, ◌∙◌}
use mathlib.Core.List.{List, [], ◌∷◌, ◌++◌, append_assoc, append-nil}
use Prim.Native.Nat.{ℕ, ◌+◌, ◌-◌, ◌<◌, ◌≤◌}
use native.Mathlib.Omega.{arith}
use lib.ListN.{length, get_or, take, drop, length-drop}
use borrow.Rule.Slice.PartMut.{put_mid}
use Rattle.std.specs.Prelude.{Result, Ok, Err}
use Rattle.text.specs.Wrote.{Wrote}
use Rattle.text.proofs.Parts.{wrote_none, wrote_part, wrote_length}
use Rattle.election.specs.Commands.{decode, operands}
use Rattle.script.specs.Pieces.{found, whole, text_of, HasText}
use Rattle.script.specs.Shown.{line_of, Showing, Text, NoneAt, behind}
use Rattle.script.specs.declared.NoText.{NoText}
use Rattle.script.specs.declared.rules.showing.Piece.{Piece}
use Rattle.script.proofs.Onward.{led, Here, here, rest, next, rest-none, turn, lent, lent_width}

-- a text behind another, and both behind a third
behind-nil : (s : Showing) → behind [] s ≡ s
behind-nil (Text t) = refl
behind-nil (NoneAt at why) = refl

behind-both : (a b : List ℕ) (s : Showing) → behind (a ++ b) s ≡ behind a (behind b s)
behind-both a b (Text t) = ap Text (append_assoc a b t)
behind-both a b (NoneAt at why) = refl

-- where filling stands: a text is written, and it leads to the whole text
pub record Filling (bytes old : List ℕ) (at size : ℕ) (buffer : List ℕ) : Type 0 where
  pub inside : at ≤ length bytes
  pub text : List ℕ
  pub wrote : Wrote text old size buffer
  pub fits : size ≤ length old
  pub leads : behind text (rest (length old) bytes at size) ≡ whole (length old) bytes

pub filling_first : (bytes old : List ℕ) → Filling bytes old 0 0 old
filling_first bytes old = record { inside = omega arith; text = []; wrote = wrote_none old; fits = omega arith; leads = behind-nil _ }

module _ (bytes old : List ℕ) (at size : ℕ) (buffer : List ℕ) (f : Filling bytes old at size buffer) where
  pub same_size : length buffer ≡ length old
  same_size = wrote_length f.wrote (omega (arith, f.fits, f.wrote.count))

  pub filled : length bytes ≤ at → Wrote (text_of (whole (length old) bytes)) old size buffer
  filled h =
      let e : text_of (whole (length old) bytes) ≡ f.text = ap text_of (sym f.leads ∙ ap (behind f.text) (rest-none (length old) bytes at size h)) ∙ append-nil f.text in
      rw e f.wrote

  module _ (ok : HasText (whole (length old) bytes)) (more : at < length bytes) where
    -- the command there has a line that fits, and leads on
    lined : (g : Result Piece NoText) → found (length old - size) (drop at bytes) ≡ g
        → Here (length old - size) (drop at bytes) (1 + operands (decode (drop at bytes))) (length (line_of (decode (drop at bytes))))
        × (rest (length old) bytes at size ≡ behind (line_of (decode (drop at bytes))) (next (length old) bytes at size))
    lined (Ok p) e =
        let h : Here (length old - size) (drop at bytes) p.width p.size = here (length old - size) (drop at bytes) p e in
        (record { width = refl; size = refl; enough = h.enough; fits = h.fits }, turn (length old) bytes at size more f.fits ∙ ap (led at _) e)
    lined (Err why) e =
        let n : rest (length old) bytes at size ≡ NoneAt at why = turn (length old) bytes at size more f.fits ∙ ap (led at _) e in
        let m : NoneAt at why ≡ Text (text_of (whole (length old) bytes)) = sym (ap (behind f.text) n) ∙ f.leads ∙ ok in
        let z : ◌≡◌ {A = ℕ} 0 1 = cc in
        absurd (omega arith)

    pub line_here : Here (length old - size) (drop at bytes) (1 + operands (decode (drop at bytes))) (length (line_of (decode (drop at bytes))))
    line_here = (lined (found (length old - size) (drop at bytes)) refl).0

    -- the room that it is lent
    pub room-here : length (line_of (decode (take (length bytes - at) (drop at bytes)))) ≤ length (take (length buffer - size) (drop size buffer))
    room-here = rw (lent bytes at, lent buffer size) (omega (arith, line_here.fits, f.fits, same_size, length-drop size buffer))

    pub filling_on : (w n : ℕ) (part : List ℕ) → w ≡ operands (decode (get_or bytes at 0 ∷ [])) → Wrote (line_of (decode (take (length bytes - at) (drop at bytes)))) (take (length buffer - size) (drop size buffer)) n part
        → Filling bytes old (at + (1 + w)) (size + n) (put_mid size (length buffer - size) buffer part)
    filling_on w n part byte lent-line =
        let e : w ≡ operands (decode (drop at bytes)) = lent_width bytes at w byte in
        let v : Wrote (line_of (decode (drop at bytes))) (take (length buffer - size) (drop size buffer)) n part = rw (lent bytes at) at lent-line in
        record {
          inside = omega (arith, line_here.enough, length-drop at bytes);
          text = f.text ++ line_of (decode (drop at bytes));
          wrote = wrote_part f.wrote v;
          fits = omega (arith, line_here.fits, f.fits, v.count);
          leads =
              rw (e, v.count)
              (behind-both f.text (line_of (decode (drop at bytes))) (next (length old) bytes at size) ∙ ap (behind f.text) (sym (lined (found (length old - size) (drop at bytes)) refl).1) ∙ f.leads);
        }
