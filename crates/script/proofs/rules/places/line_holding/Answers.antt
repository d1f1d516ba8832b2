use native.Mathlib.Omega.{arith}
use Rattle.script.proofs.Holding.{held-here, not_here, held-nowhere}
use Rattle.script.proofs.rules.places.line_holding.Goals as goal

pub returns-then-offset-size : goal.returns-then-offset-size
returns-then-offset-size c = held-here c.loop-at.invariant c.line_at-turn.ensures c.read_size-size.ensures.0 c.if-offset-size.true

pub loop-at-preserved : goal.loop-at-preserved
loop-at-preserved c = not_here c.loop-at.invariant c.line_at-turn.ensures c.read_size-size.ensures.0 c.if-offset-size.false

pub returns : goal.returns
returns c = held-nowhere c.loop-at.invariant (omega arith)
