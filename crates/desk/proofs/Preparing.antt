-- Laws of a text that is read: too long, wrong in a line, or a schedule.
use mathlib.Core.Path.{◌≡◌, refl, sym, ap, ◌∙◌}
use mathlib.Core.List.{List}
use mathlib.Core.Bool.{Bool, true, false, cond}
use Prim.Native.Nat.{ℕ, ◌<◌, ◌≤◌}
use native.Mathlib.Omega.{arith}
use borrow.Author.Tests.{lt-ltb, le-ltb}
use lib.Dec.{ltb}
use lib.ListN.{length, take}
use Rattle.std.specs.Prelude.{Result, Ok, Err}
use Rattle.lists.specs.Entries.{over}
use Rattle.lists.proofs.Entries.{take_over, length_over}
use Rattle.election.specs.Schedule.{most_bytes}
use Rattle.text.specs.Wrote.{Wrote}
use Rattle.text.proofs.Parts.{wrote_front, wrote_inside}
use Rattle.script.specs.Assembled.{Script, Schedule, WrongAt, script, wrong_at, Left, leaving, assembled}
use Rattle.script.specs.declared.WrongLine.{WrongLine}
use Rattle.script.proofs.Sizes.{gives_bytes}
use Rattle.desk.specs.Said.{most_text, Read, Unread, of_script, reading}
use Rattle.desk.specs.Spoken.{Prepares}
use Rattle.desk.specs.Wording.{wrong_line, long_text}

pub too_long : (given bytes : List ℕ) {old line : List ℕ} {n : ℕ} → most_text < length given → Wrote long_text old n line → Prepares given (Err n) bytes line
unfolding reading
too_long given bytes h w = record { is = rw (lt-ltb most_text (length given) h) (ap Unread (wrote_front w)); inside = wrote_inside w }

module _ (given bytes : List ℕ) (short : length given ≤ most_text) (room : length bytes ≡ most_bytes) where
  as_script : reading given ≡ of_script (script (length bytes) given)
  unfolding reading
  as_script = rw (le-ltb most_text (length given) short, room)

  -- an answer of so many bytes, and a wrong line
  pub is_read : (n : ℕ) (new line : List ℕ) → ◌≡◌ {A = Left} (record { answer = Ok n; buffer = new }) (assembled given bytes) → Prepares given (Ok n) new line
  unfolding assembled
  is_read n new line e = which (script (length bytes) given) refl e
    where
      which : (s : Script) → script (length bytes) given ≡ s → ◌≡◌ {A = Left} (record { answer = Ok n; buffer = new }) (leaving s bytes) → Prepares given (Ok n) new line
      which (Schedule bs) f g =
          let answers : ◌≡◌ {A = Result ℕ WrongLine} (Ok n) (Ok (length bs)) = ap (λ (x : Left). x.answer) g in
          let size : n ≡ length bs = cc in
          let left : new ≡ over bs bytes = ap (λ (x : Left). x.buffer) g in
          let fits = (gives_bytes (length bytes) given bs f).room in
          record {
            is = ap Read (ap (take n) left ∙ take_over n bs bytes (sym size)) ∙ sym (as_script ∙ ap of_script f);
            inside = omega (arith, size, ap length left, length_over bs bytes fits);
          }
      which (WrongAt k why) f g =
          let answers : ◌≡◌ {A = Result ℕ WrongLine} (Ok n) (wrong_at k why) = ap (λ (x : Left). x.answer) g in
          cc

  pub is-wrong : (wrong : WrongLine) (new : List ℕ) → ◌≡◌ {A = Left} (record { answer = Err wrong; buffer = new }) (assembled given bytes)
      → {old line : List ℕ} {n : ℕ} → Wrote (wrong_line wrong.line wrong.why) old n line → Prepares given (Err n) new line
  unfolding assembled
  is-wrong wrong new e {line = line} {n = n} w = which (script (length bytes) given) refl e
    where
      which : (s : Script) → script (length bytes) given ≡ s → ◌≡◌ {A = Left} (record { answer = Err wrong; buffer = new }) (leaving s bytes) → Prepares given (Err n) new line
      which (Schedule bs) f g =
          let answers : ◌≡◌ {A = Result ℕ WrongLine} (Err wrong) (Ok (length bs)) = ap (λ (x : Left). x.answer) g in
          cc
      which (WrongAt j what) f g =
          let answers : ◌≡◌ {A = Result ℕ WrongLine} (Err wrong) (wrong_at j what) = ap (λ (x : Left). x.answer) g in
          let same : ◌≡◌ {A = WrongLine} wrong (record { line = j; why = what }) = cc in
          record {
            is = ap Unread (wrote_front w ∙ ap (λ (x : WrongLine). wrong_line x.line x.why) same) ∙ sym (as_script ∙ ap of_script f);
            inside = wrote_inside w;
          }

-- a text that is read has no more bytes than a schedule
pub read-few : (given bytes : List ℕ) → reading given ≡ Read bytes → length bytes ≤ most_bytes
unfolding reading
read-few given bytes e = which (ltb most_text (length given)) (script most_bytes given) refl e
  where
    which : (b : Bool) (s : Script) → script most_bytes given ≡ s → cond b (Unread long_text) (of_script s) ≡ Read bytes → length bytes ≤ most_bytes
    which true s f g = let z : ◌≡◌ {A = ℕ} 0 1 = cc in absurd (omega arith)
    which false (Schedule bs) f g = let z : bytes ≡ bs = cc in rw z (gives_bytes most_bytes given bs f).few
    which false (WrongAt k why) f g = let z : ◌≡◌ {A = ℕ} 0 1 = cc in absurd (omega arith)
