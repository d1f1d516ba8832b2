use Rattle.std.proofs.Common.{arith, rules, length-append, sym, ◌∙◌}
use Rattle.text.specs.Quoted.{text}
use Rattle.text.proofs.Parts.{wrote_part, room_at, room-part, ends-in}
use Rattle.frames.specs.Explained.{frame_text, found}
use Rattle.frames.proofs.told.put_found.Goals as goal

pub put-at-requires : goal.put-at-requires
unfolding text found
put-at-requires c = omega (arith, simp length-append at c.requires)

pub slice_bounds-put_frame-count : goal.slice_bounds-put_frame-count
unfolding text found
slice_bounds-put_frame-count c = room_at (frame_text c.args.line.now.bytes) c.put-at.ensures (rw (sym c.is_hex.ensures ∙ c.if-is_hex.true) at c.requires)

pub slice_bounds-put_frame-start : goal.slice_bounds-put_frame-start
unfolding text found
slice_bounds-put_frame-start c = room_at (frame_text c.args.line.now.bytes) c.put-at.ensures (rw (sym c.is_hex.ensures ∙ c.if-is_hex.true) at c.requires)

pub put_frame-requires : goal.put_frame-requires
unfolding text found
put_frame-requires c = rw c.bytes.ensures (room-part (frame_text c.args.line.now.bytes) c.put-at.ensures (rw (sym c.is_hex.ensures ∙ c.if-is_hex.true) at c.requires))

pub overflow_add-result : goal.overflow_add-result
unfolding text found
overflow_add-result c = record { fits = ends-in (wrote_part c.put-at.ensures (rw c.bytes.ensures at c.put_frame.ensures)) (rw (sym c.is_hex.ensures ∙ c.if-is_hex.true) at c.requires) (search rules) }

pub returns-then-is_hex : goal.returns-then-is_hex
unfolding text found
returns-then-is_hex c = rw (sym c.is_hex.ensures ∙ c.if-is_hex.true) (wrote_part c.put-at.ensures (rw c.bytes.ensures at c.put_frame.ensures))

pub put-requires : goal.put-requires
unfolding text found
put-requires c = omega (arith, rw (sym c.is_hex.ensures ∙ c.if-is_hex.false) at c.requires)

pub returns : goal.returns
unfolding text found
returns c = rw (sym c.is_hex.ensures ∙ c.if-is_hex.false) c.put.ensures
