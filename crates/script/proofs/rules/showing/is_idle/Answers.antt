use mathlib.Core.Path.{sym, ◌∙◌}
use Rattle.decision.proofs.Bytes.{run-read}
use Rattle.script.proofs.Worded.{no_run}
use Rattle.script.proofs.rules.showing.is_idle.Goals as goal

pub returns-then-number_at-ne5 : goal.returns-then-number_at-ne5
returns-then-number_at-ne5 c = no_run c.args.bytes.now (rw c.number_at.ensures.0 at c.if-number_at-ne5.true)

pub returns : goal.returns
returns c = rw (run-read c.args.bytes.now (sym c.number_at.ensures.0 ∙ c.if-number_at-ne5.false), c.number_at-2.ensures.0, c.number_at-3.ensures.0)
