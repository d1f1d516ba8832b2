use native.Mathlib.Omega.{arith}
use Rattle.text.proofs.Parts.{room_at, room-part, ends-in, wrote_part}
use Rattle.script.proofs.Passing.{read_at, filled_none, filled_read, filled_room, filled_next, filled_all}
use Rattle.script.proofs.rules.assembling.fill.Goals as goal

pub loop-at-init : goal.loop-at-init
loop-at-init c = filled_none _ _ c.requires

pub unwrap-line-requires : goal.unwrap-line-requires
unwrap-line-requires c = filled_read c.loop-at.invariant c.line_at-turn.ensures

pub slice_bounds-put_line-count : goal.slice_bounds-put_line-count
slice_bounds-put_line-count c = room_at _ c.loop-at.invariant.wrote (filled_room c.loop-at.invariant c.line_at-turn.ensures)

pub slice_bounds-put_line-start : goal.slice_bounds-put_line-start
slice_bounds-put_line-start c = slice_bounds-put_line-count c

pub put_line-size-requires : goal.put_line-size-requires
put_line-size-requires c =
    let here = read_at c.line_at-turn.ensures c.unwrap-line.ensures in
    (here.reads.proper, room-part _ c.loop-at.invariant.wrote (filled_room c.loop-at.invariant here))

pub overflow_add-size : goal.overflow_add-size
overflow_add-size c =
    record {
      fits = ends-in (wrote_part c.loop-at.invariant.wrote c.put_line-size.ensures) (filled_room c.loop-at.invariant (read_at c.line_at-turn.ensures c.unwrap-line.ensures)) c.well_formed.1.0.0;
    }

pub loop-at-preserved : goal.loop-at-preserved
loop-at-preserved c = filled_next c.loop-at.invariant (read_at c.line_at-turn.ensures c.unwrap-line.ensures) c.put_line-size.ensures

pub returns : goal.returns
returns c = filled_all c.loop-at.invariant (omega arith)
