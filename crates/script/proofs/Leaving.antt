-- What showing leaves: its answer and the buffer.
use mathlib.Core.Path.{◌≡◌, refl, sym, ap, ◌∙◌}
use mathlib.Core.List.{List}
use Prim.Native.Nat.{ℕ, ◌<◌, ◌≤◌}
use lib.ListN.{length}
use borrow.Author.Tests.{lt-ltb, le-ltb}
use Rattle.std.specs.Prelude.{Ok, Err}
use Rattle.text.specs.Wrote.{Wrote}
use Rattle.election.specs.Schedule.{most_bytes}
use Rattle.script.specs.Pieces.{whole, answer_of, text_of, HasText}
use Rattle.script.specs.Shown.{Showing, Text, NoneAt, shown_text, none_at, Left, leaving, shown}
use Rattle.script.specs.declared.NoText.TheVariants.{ScheduleLong}
use Rattle.script.specs.declared.NoTextAt.{NoTextAt}

-- an answer of so many characters is that of a text
pub has_text : (s : Showing) (n : ℕ) → answer_of s ≡ Ok n → HasText s
has_text (Text t) n e = refl
has_text (NoneAt at why) n e = cc

-- a text that is written, and a refusal
leaves_text : (s : Showing) (old new : List ℕ) (n : ℕ) → HasText s → Wrote (text_of s) old n new → ◌≡◌ {A = Left} (record { answer = Ok n; buffer = new }) (leaving s old)
leaves_text (Text t) old new n e w = rw (w.count, w.bytes)
leaves_text (NoneAt at why) old new n e w = cc

leaves_refused : (s : Showing) (old : List ℕ) (w : NoTextAt) → answer_of s ≡ Err w → ◌≡◌ {A = Left} (record { answer = Err w; buffer = old }) (leaving s old)
leaves_refused (Text t) old w e = cc
leaves_refused (NoneAt at why) old w e = rw (← e)

module _ (bytes old : List ℕ) where
  -- above 65,536 bytes
  pub long_shown : most_bytes < length bytes → ◌≡◌ {A = Left} (record { answer = none_at 0 ScheduleLong; buffer = old }) (shown bytes old)
  unfolding shown shown_text
  long_shown h = rw (lt-ltb most_bytes (length bytes) h) refl

  module _ (short : length bytes ≤ most_bytes) where
    same_text : shown_text (length old) bytes ≡ whole (length old) bytes
    unfolding shown_text
    same_text = rw (le-ltb most_bytes (length bytes) short)

    pub text-shown : (n : ℕ) (new : List ℕ) → HasText (whole (length old) bytes)
        → Wrote (text_of (whole (length old) bytes)) old n new → ◌≡◌ {A = Left} (record { answer = Ok n; buffer = new }) (shown bytes old)
    unfolding shown
    text-shown n new e w = leaves_text (whole (length old) bytes) old new n e w ∙ ap (λ s. leaving s old) (sym same_text)

    pub refused-shown : (w : NoTextAt) → answer_of (whole (length old) bytes) ≡ Err w → ◌≡◌ {A = Left} (record { answer = Err w; buffer = old }) (shown bytes old)
    unfolding shown
    refused-shown w e = leaves_refused (whole (length old) bytes) old w e ∙ ap (λ s. leaving s old) (sym same_text)
