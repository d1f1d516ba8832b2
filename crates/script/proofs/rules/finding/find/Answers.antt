use mathlib.Core.Path.{◌∙◌}
use native.Mathlib.Omega.{arith}
use Rattle.script.proofs.Chosen.{tried-next, tried-found, tried-all}
use Rattle.script.proofs.rules.finding.find.Goals as goal

pub returns-in-Some : goal.returns-in-Some
returns-in-Some c = tried-found c.loop-k.invariant (omega arith) (c.as_bytes.ensures.value ∙ c.entry_at.ensures.name) c.in-Some.ensures

pub loop-k-preserved : goal.loop-k-preserved
loop-k-preserved c = tried-next c.loop-k.invariant (omega arith) (c.as_bytes.ensures.value ∙ c.entry_at.ensures.name) (c.in_default.ensures {u = tt})

pub returns : goal.returns
returns c = tried-all c.loop-k.invariant (omega arith)
