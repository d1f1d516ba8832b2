use mathlib.Core.Path.{◌∙◌}
use Rattle.script.proofs.Chosen.{same_words}
use Rattle.script.proofs.rules.finding.same.Goals as goal

pub returns : goal.returns
returns c = c.eq.ensures ∙ same_words _ _
