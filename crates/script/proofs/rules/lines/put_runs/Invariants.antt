use Rattle.script.proofs.LineBytes.{RunsTo}
use Rattle.script.proofs.rules.lines.put_runs.Given as goal

abbrev pub invariant-loop-left : goal.invariant-loop-left
invariant-loop-left l = RunsTo l.t l.left l.initial.buffer l.at l.buffer

abbrev pub decreases-loop-left : goal.decreases-loop-left
decreases-loop-left l = l.left
