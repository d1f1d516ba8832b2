use Rattle.text.proofs.Parts.{room-part, ends-in, wrote_part}
use Rattle.script.proofs.LineBytes.{runs_none, runs-room, last-room, runs-more, runs_last}
use Rattle.script.proofs.rules.lines.put_runs.Goals as goal

pub loop-left-init : goal.loop-left-init
loop-left-init c = runs_none _ _ c.requires.0

pub put_run-at-requires : goal.put_run-at-requires
put_run-at-requires c = room-part _ c.loop-left.invariant.wrote (runs-room c.loop-left.invariant c.loop-left-test.true c.requires.1)

pub overflow_add-at : goal.overflow_add-at
overflow_add-at c = record { fits = ends-in (wrote_part c.loop-left.invariant.wrote c.put_run-at.ensures) (runs-room c.loop-left.invariant c.loop-left-test.true c.requires.1) c.well_formed.1.0.0 }

pub loop-left-preserved : goal.loop-left-preserved
loop-left-preserved c = runs-more c.loop-left.invariant c.loop-left-test.true c.put_run-at.ensures

pub put_run-requires : goal.put_run-requires
put_run-requires c = room-part _ c.loop-left.invariant.wrote (last-room c.loop-left.invariant c.loop-left-test.false c.requires.1)

pub overflow_add-result : goal.overflow_add-result
overflow_add-result c = record { fits = ends-in (runs_last c.loop-left.invariant c.loop-left-test.false c.put_run.ensures) c.requires.1 c.well_formed.1.0.0 }

pub returns : goal.returns
returns c = runs_last c.loop-left.invariant c.loop-left-test.false c.put_run.ensures
