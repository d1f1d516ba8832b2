use Rattle.std.proofs.Common.{arith, rules, length-append}
use Rattle.text.specs.Numbers.{newline}
use Rattle.text.specs.Quoted.{text}
use Rattle.text.proofs.Parts.{wrote_part, room_at, room-part, ends-in, room-two}
use Rattle.frames.specs.Explained.{found, line_text}
use Rattle.frames.specs.Line.{spells}
use Rattle.frames.proofs.told.put_line.Goals as goal

pub put-a-requires : goal.put-a-requires
unfolding text line_text
put-a-requires c = rw c.number.ensures (omega (arith, simp length-append at c.requires))

pub slice_bounds-put_found-count : goal.slice_bounds-put_found-count
unfolding text line_text
slice_bounds-put_found-count c =
    let first = rw c.number.ensures at c.put-a.ensures in
    room_at (found (spells c.args.line.now)) first (room-two _ newline first c.requires)

pub slice_bounds-put_found-start : goal.slice_bounds-put_found-start
unfolding text line_text
slice_bounds-put_found-start c =
    let first = rw c.number.ensures at c.put-a.ensures in
    room_at (found (spells c.args.line.now)) first (room-two _ newline first c.requires)

pub put_found-requires : goal.put_found-requires
unfolding text line_text
put_found-requires c =
    let first = rw c.number.ensures at c.put-a.ensures in
    room-part (found (spells c.args.line.now)) first (room-two _ newline first c.requires)

pub overflow_add-b : goal.overflow_add-b
unfolding text line_text
overflow_add-b c =
    let first = rw c.number.ensures at c.put-a.ensures in
    record { fits = ends-in (wrote_part first c.put_found.ensures) (room-two _ newline first c.requires) (search rules) }

pub slice_bounds-put-count : goal.slice_bounds-put-count
unfolding text line_text
slice_bounds-put-count c = room_at newline (wrote_part (rw c.number.ensures at c.put-a.ensures) c.put_found.ensures) c.requires

pub slice_bounds-put-start : goal.slice_bounds-put-start
unfolding text line_text
slice_bounds-put-start c = room_at newline (wrote_part (rw c.number.ensures at c.put-a.ensures) c.put_found.ensures) c.requires

pub put-requires : goal.put-requires
unfolding text line_text
put-requires c = room-part newline (wrote_part (rw c.number.ensures at c.put-a.ensures) c.put_found.ensures) c.requires

pub overflow_add-result : goal.overflow_add-result
unfolding text line_text
overflow_add-result c = record { fits = ends-in (wrote_part (wrote_part (rw c.number.ensures at c.put-a.ensures) c.put_found.ensures) c.put.ensures) c.requires (search rules) }

pub returns : goal.returns
unfolding text line_text
returns c = wrote_part (wrote_part (rw c.number.ensures at c.put-a.ensures) c.put_found.ensures) c.put.ensures
