use Rattle.std.proofs.Common.{arith, rules}
use Rattle.text.proofs.Parts.{wrote_none}
use Rattle.frames.proofs.Going.{stands_first, stands_last, stands_at, stands_inside, stands_room, stands_number, stands_turn}
use Rattle.frames.proofs.told.feed.Goals as goal

pub loop-c-init : goal.loop-c-init
loop-c-init c = stands_first _ _ _ (wrote_none _)

pub slice_bounds-step-count : goal.slice_bounds-step-count
slice_bounds-step-count c = stands_inside c.loop-c.invariant (search rules) c.requires.1

pub slice_bounds-step-start : goal.slice_bounds-step-start
slice_bounds-step-start c = stands_inside c.loop-c.invariant (search rules) c.requires.1

pub step-at-requires : goal.step-at-requires
step-at-requires c =
    let here = c.loop-c.invariant in
    (omega (arith, stands_number here (search rules) c.requires.1, c.requires.0), stands_room here (search rules) c.requires.1)

pub overflow_add-at : goal.overflow_add-at
overflow_add-at c =
    let here = stands_turn c.loop-c.invariant (search rules) c.requires.1 c.step-at.ensures.line_value c.step-at.ensures.wrote in
    record { fits = omega (arith, stands_at here (search rules), c.requires.1) }

pub loop-c-preserved : goal.loop-c-preserved
loop-c-preserved c = stands_turn c.loop-c.invariant (search rules) c.requires.1 c.step-at.ensures.line_value c.step-at.ensures.wrote

pub returns : goal.returns
returns c =
    let last = stands_last c.loop-c.invariant (search rules) in
    record { line_value = last.0; wrote = last.1 }
