use Rattle.text.proofs.Parts.{wrote_part}
use Rattle.text.proofs.rules.Tuple2Text.put.Goals as goal

pub returns : goal.returns
returns g c = wrote_part c.put-at.ensures c.put.ensures
