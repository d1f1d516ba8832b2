use Rattle.std.proofs.Common.{rules, arith}
use Rattle.text.proofs.Parts.{join_none, join_turn, join_room, room_at, room-part, ends-in, wrote_part}
use Rattle.text.proofs.rules.JoinedText.put.Goals as goal

pub loop-place-init : goal.loop-place-init
loop-place-init g c = (search rules, join_none _ _)

pub slice_bounds-put-count : goal.slice_bounds-put-count
slice_bounds-put-count g c = room_at _ c.loop-place.invariant.1 (join_room _ _ _ (rw c.count-place-end.ensures at c.loop-place-test.true) c.requires)

pub slice_bounds-put-start : goal.slice_bounds-put-start
slice_bounds-put-start g c = room_at _ c.loop-place.invariant.1 (join_room _ _ _ (rw c.count-place-end.ensures at c.loop-place-test.true) c.requires)

pub put-at-requires : goal.put-at-requires
put-at-requires g c = rw c.piece.ensures (room-part _ c.loop-place.invariant.1 (join_room _ _ _ (rw c.count-place-end.ensures at c.loop-place-test.true) c.requires))

pub overflow_add-at : goal.overflow_add-at
overflow_add-at g c = record {
  fits = ends-in (wrote_part c.loop-place.invariant.1 (rw c.piece.ensures at c.put-at.ensures)) (join_room _ _ _ (rw c.count-place-end.ensures at c.loop-place-test.true) c.requires) (omega arith);
}

pub loop-place-preserved : goal.loop-place-preserved
loop-place-preserved g c = (search rules, join_turn _ _ c.loop-place.invariant.1 (rw c.piece.ensures at c.put-at.ensures))
