-- Laws of what is said, from a text that was read and from what was shown.
use mathlib.Core.Path.{◌≡◌, refl, sym, ap, ◌∙◌}
use mathlib.Core.List.{List}
use Prim.Native.Nat.{ℕ, ◌≤◌}
use native.Mathlib.Omega.{arith}
use lib.IntN.{pos}
use Rattle.std.proofs.Common.{Option}
use lib.ListN.{length, take, drop, length-append}
use Rattle.std.specs.Prelude.{Result, Ok, Err, IfErr}
use Rattle.lists.specs.Entries.{over}
use Rattle.lists.proofs.Entries.{take_over}
use Rattle.text.specs.Wrote.{Wrote}
use Rattle.text.proofs.Parts.{wrote_front}
use Rattle.script.specs.Shown.{Showing, Text, NoneAt, shown_text, none_at, Left, leaving, shown}
use Rattle.script.specs.declared.NoTextAt.{NoTextAt}
use Rattle.desk.specs.Said.{most_text, Read, Unread, reading, Saying, Says, on_error}
use Rattle.calls.specs.Moved.{MovedNone, TakenTo}
use Rattle.calls.specs.declared.Cut.{Cut}
use Rattle.calls.specs.Streams.{Goes}
use Rattle.desk.specs.Spoken.{Prepares, SpokenTo}
use Rattle.desk.specs.Wording.{no_text}
use Rattle.desk.specs.declared.asked.Mode.{Mode}
use Rattle.desk.specs.declared.asked.Mode.TheVariants as mode

-- a text that was read, and one that was not
module _ {given : List ℕ} {r : Result ℕ ℕ} {bytes line : List ℕ} (p : Prepares given r bytes line) where
  pub was_read : (n : ℕ) → r ≡ Ok n → (reading given ≡ Read (take n bytes)) × (n ≤ length bytes)
  was_read n e = (sym p.is ∙ rw e, rw e at p.inside)

  pub was_unread : (n : ℕ) → r ≡ Err n → (reading given ≡ Unread (take n line)) × (n ≤ length line)
  was_unread n e = (sym p.is ∙ rw e, rw e at p.inside)

-- the bytes of a text
pub says-bytes : (given bytes : List ℕ) → reading given ≡ Read bytes → Says mode.Bytes given (record { out = pos 1; text = bytes })
says-bytes given bytes e = rw e

pub says-no_bytes : (given why : List ℕ) → reading given ≡ Unread why → Says mode.Bytes given (record { out = pos 2; text = why })
says-no_bytes given why e = rw e

-- the text of bytes
module _ (given old new : List ℕ) (room : length old ≡ most_text) where
  pub shows_text : (n : ℕ) → ◌≡◌ {A = Left} (record { answer = Ok n; buffer = new }) (shown given old) → (shown_text most_text given ≡ Text (take n new)) × (n ≤ length new)
  unfolding shown over
  shows_text n e = which (shown_text (length old) given) refl e
    where
      which : (s : Showing) → shown_text (length old) given ≡ s → ◌≡◌ {A = Left} (record { answer = Ok n; buffer = new }) (leaving s old) → (shown_text most_text given ≡ Text (take n new)) × (n ≤ length new)
      which (Text line) f g =
          let answers : ◌≡◌ {A = Result ℕ NoTextAt} (Ok n) (Ok (length line)) = ap (λ (x : Left). x.answer) g in
          let size : n ≡ length line = cc in
          let left : new ≡ over line old = ap (λ (x : Left). x.buffer) g in
          (ap (λ k. shown_text k given) (sym room) ∙ f ∙ ap Text (sym (ap (take n) left ∙ take_over n line old (sym size))), omega (arith, size, ap length left, length-append line (drop (length line) old)))
      which (NoneAt at why) f g =
          let answers : ◌≡◌ {A = Result ℕ NoTextAt} (Ok n) (none_at at why) = ap (λ (x : Left). x.answer) g in
          cc

  pub shows_none : (none : NoTextAt) → ◌≡◌ {A = Left} (record { answer = Err none; buffer = new }) (shown given old) → shown_text most_text given ≡ NoneAt none.at none.why
  unfolding shown
  shows_none none e = which (shown_text (length old) given) refl e
    where
      which : (s : Showing) → shown_text (length old) given ≡ s → ◌≡◌ {A = Left} (record { answer = Err none; buffer = new }) (leaving s old) → shown_text most_text given ≡ NoneAt none.at none.why
      which (Text line) f g =
          let answers : ◌≡◌ {A = Result ℕ NoTextAt} (Err none) (Ok (length line)) = ap (λ (x : Left). x.answer) g in
          cc
      which (NoneAt a w) f g =
          let answers : ◌≡◌ {A = Result ℕ NoTextAt} (Err none) (none_at a w) = ap (λ (x : Left). x.answer) g in
          let same : ◌≡◌ {A = NoTextAt} none (record { at = a; why = w }) = cc in
          ap (λ k. shown_text k given) (sym room) ∙ f ∙ sym (ap (λ (x : NoTextAt). NoneAt x.at x.why) same)

pub says-text : (given line : List ℕ) → shown_text most_text given ≡ Text line → Says mode.Text given (record { out = pos 1; text = line })
says-text given line e = rw e

pub says-no_text : (given : List ℕ) (none : NoTextAt) {old line : List ℕ} {n : ℕ} → shown_text most_text given ≡ NoneAt none.at none.why → Wrote (no_text none.at none.why) old n line → Says mode.Text given (record { out = pos 2; text = take n line })
says-no_text given none e w = rw e (ap on_error (wrote_front w))

module _ {T : Type 0} {m : Mode} {given : List ℕ} {r : Result T Cut} {out out' err err' : Option (List ℕ)} where
  -- what is said, where it goes, how much of it was taken, and that the last write took nothing of the rest
  pub spoken : (saying : Saying) → Says m given saying → IfErr r MovedNone → TakenTo r saying.text (Goes saying.out out out' err err') → SpokenTo m given r out out' err err'
  spoken saying says last taken = record { saying = saying; says = says; taken = taken; last = last }

  -- the same where the same is said for more
  pub said_for : SpokenTo m given r out out' err err' → (more : List ℕ) → ((x : Saying) → Says m given x → Says m more x) → SpokenTo m more r out out' err err'
  said_for s more same = record { saying = s.saying; says = same s.saying s.says; taken = s.taken; last = s.last }
