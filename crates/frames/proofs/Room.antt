-- No line that is printed has more than 256 bytes.
use mathlib.Core.Path.{◌≡◌}
use mathlib.Core.List.{List}
use Prim.Native.Nat.{ℕ, ◌≤◌}
use native.Mathlib.Omega.{arith}
use lib.Dec.{eqb}
use lib.ListN.{length, length-append}
use borrow.Author.Tests.{eqb-true}
use Rattle.lists.proofs.Bools.{cond_elim}
use Rattle.text.specs.Quoted.{text}
use Rattle.text.proofs.Digits.{length-decimal}
use Rattle.text.proofs.Room.{either, vector-room}
use Rattle.frame.specs.Reading.{Reading, reading}
use Rattle.frame.specs.Stamp.{StampReading, stamp_reading}
use Rattle.frames.specs.Explained.{own_count, reason, counted, received, answered, stamp_reason, stamped, stamp_answered, is_stamp, frame_text, found, line_text}
use Rattle.frames.specs.Line.{told, spells, longest_line}
use Rattle.frames.specs.Line.{Line}
use Rattle.frames.proofs.Own.{at-most_eight}

reason-room : (r : ℕ) → length (reason r) ≤ 47
unfolding text reason
reason-room r =
    either (eqb r 5) _ _ 47 (omega arith)
    (either (eqb r 17) _ _ 47 (omega arith)
    (either (eqb r 18) _ _ 47 (omega arith) (either (eqb r 24) _ _ 47 (omega arith) (either (eqb r 19) _ _ 47 (omega arith) (omega arith)))))

received-room : (n sender : ℕ) (counts : List ℕ) → n ≤ 8 → length (received n sender counts) ≤ 226
unfolding text received counted
received-room n sender counts h = simp length-append (omega (arith, length-decimal sender, length-decimal n, vector-room n counts))

answered-room : (n : ℕ) (r : Reading) → (r.refusal ≡ 0 → n ≤ 8) → length (answered n r) ≤ 226
unfolding text answered
answered-room n r h =
    cond_elim (λ (l : List ℕ). length l ≤ 226) (eqb r.refusal 0)
    (λ e. received-room n r.sender r.counts (h (eqb-true _ _ e)))
    (λ e. simp length-append (omega (arith, length-decimal r.refusal, reason-room r.refusal)))

stamped-room : (r : StampReading) → length (stamp_answered r) ≤ 226
unfolding text stamp_reason stamped stamp_answered
stamped-room r =
    cond_elim (λ (l : List ℕ). length l ≤ 226) (eqb r.refusal 0)
    (λ e. simp length-append (omega (arith, length-decimal r.sender, length-decimal r.stamp)))
    (λ e. simp length-append (omega (arith, length-decimal r.refusal, either (eqb r.refusal 17) (text "the length is not 6") (text "the sender is not 1 to 8") 24 (omega arith) (omega arith))))

frame-room : (bytes : List ℕ) → length (frame_text bytes) ≤ 226
unfolding frame_text
frame-room bytes =
    either (is_stamp bytes) _ _ 226 (stamped-room (stamp_reading 8 bytes))
    (answered-room (own_count bytes) (reading (own_count bytes) bytes) (at-most_eight (own_count bytes) bytes))

pub line_room_lem : (s : Line) → length (told s) ≤ longest_line
unfolding text found line_text
line_room_lem s = simp length-append (omega (arith, length-decimal s.number, either (spells s).hex (frame_text (spells s).bytes) (text "no hex") 226 (frame-room (spells s).bytes) (omega arith)))
