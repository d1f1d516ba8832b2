-- What is left unread changes nothing.
use mathlib.Core.Path.{◌≡◌, sym, subst, ◌∙◌}
use mathlib.Core.List.{List}
use Prim.Native.Nat.{ℕ, ◌<◌, ◌≤◌}
use native.Mathlib.Decide.{dec_le, dec_lt}
use native.Mathlib.Omega.{arith}
use borrow.Author.Tests.{lt-ltb}
use lib.ListN.{length, take}
use lib.Seq.{take_all, length-take-le}
use Rattle.election.specs.Schedule.{most_bytes}
use Rattle.script.specs.Shown.{NoneAt, shown_text}
use Rattle.script.specs.declared.NoText.TheVariants.{ScheduleLong}
use Rattle.desk.specs.Claims.{Enough}
use Rattle.desk.specs.Said.{most_text, Unread, reading, Saying, Says}
use Rattle.desk.specs.Spoken.{SpaceFor}
use Rattle.desk.specs.Wording.{long_text}
use Rattle.desk.specs.declared.asked.Mode.{Mode}
use Rattle.desk.specs.declared.asked.Mode.TheVariants.{Rehearse, Bytes, Text, Figure}

long_reading : (given : List ℕ) → most_text < length given → reading given ≡ Unread long_text
unfolding reading
long_reading given h = rw (lt-ltb most_text (length given) h)

long_shown : (given : List ℕ) → most_bytes < length given → shown_text most_text given ≡ NoneAt 0 ScheduleLong
unfolding shown_text
long_shown given h = rw (lt-ltb most_bytes (length given) h)

-- of a text that is cut off behind its longest part, and of bytes
module _ (given : List ℕ) (size : ℕ) (cut : size < length given) where
  same-reading : most_text < size → reading (take size given) ≡ reading given
  same-reading h = long_reading (take size given) (omega (arith, length-take-le size given (omega arith))) ∙ sym (long_reading given (omega arith))

  same-shown : most_bytes < size → shown_text most_text (take size given) ≡ shown_text most_text given
  same-shown h = long_shown (take size given) (omega (arith, length-take-le size given (omega arith))) ∙ sym (long_shown given (omega arith))

  is-long : most_text < size → reading given ≡ Unread long_text
  is-long h = long_reading given (omega arith)

  cut_off : (m : Mode) → SpaceFor m size → (s : Saying) → Says m (take size given) s → Says m given s
  cut_off Rehearse h s e = rw (is-long h) (rw (same-reading h ∙ is-long h) at e)
  cut_off Bytes h s e = e ∙ rw (same-reading h)
  cut_off Text h s e = e ∙ rw (same-shown h)
  cut_off (Figure d) h s e = rw (is-long h) (rw (same-reading h ∙ is-long h) at e)

larger : (m : Mode) (room size : ℕ) → room ≤ size → SpaceFor m room → SpaceFor m size
larger Rehearse room size l h = omega arith
larger Bytes room size l h = omega arith
larger Text room size l h = omega arith
larger (Figure d) room size l h = omega arith

pub enough : Enough
enough m given got size room space whole all s says = by (dec_le (length given) size) (dec_lt size room)
  where
    by : Dec (length given ≤ size) → Dec (size < room) → Says m given s
    by (yes l) r = subst (λ g. Says m g s) (take_all size given l) says
    by (no l) (yes r) = absurd (l (all (whole r)))
    by (no l) (no r) = cut_off given size (omega arith) m (larger m room size (omega arith) space) s says
