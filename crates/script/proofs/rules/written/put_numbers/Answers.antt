use mathlib.Core.Path.{◌≡◌}
use native.Mathlib.Omega.{arith}
use lib.ListN.{length}
use Rattle.text.specs.Quoted.{text}
use Rattle.text.proofs.Parts.{join_none, join_turn, join_room, room_at, room-part, ends-in, wrote_part}
use Rattle.script.proofs.Worded.{nth, spaced-join}
use Rattle.script.proofs.rules.written.put_numbers.Goals as goal

pub loop-x-init : goal.loop-x-init
loop-x-init c = join_none _ _

pub slice_bounds-put-count : goal.slice_bounds-put-count
unfolding text
slice_bounds-put-count c = room_at _ c.loop-x.invariant (join_room _ _ _ (omega arith) (rw (spaced-join _) at c.requires))

pub slice_bounds-put-start : goal.slice_bounds-put-start
slice_bounds-put-start c = slice_bounds-put-count c

pub put-at-requires : goal.put-at-requires
unfolding text
put-at-requires c = room-part (nth c.args.numbers.now c.loop-x.x-index) c.loop-x.invariant (join_room _ _ _ (omega arith) (rw (spaced-join _) at c.requires))

pub overflow_add-at : goal.overflow_add-at
unfolding text
overflow_add-at c = record { fits = ends-in (wrote_part c.loop-x.invariant c.put-at.ensures) (join_room _ _ _ (omega arith) (rw (spaced-join _) at c.requires)) c.well_formed.1.0.0 }

pub loop-x-preserved : goal.loop-x-preserved
unfolding text
loop-x-preserved c = join_turn _ _ c.loop-x.invariant c.put-at.ensures

pub returns : goal.returns
returns c = let e : c.loop-x.x-index ≡ length c.args.numbers.now = omega arith in rw (spaced-join _) (rw e at c.loop-x.invariant)
