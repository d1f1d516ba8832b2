use Rattle.text.proofs.Parts.{wrote_part}
use Rattle.text.proofs.rules.Tuple3Text.put.Goals as goal

pub returns : goal.returns
returns g c = wrote_part (wrote_part c.put-at.ensures c.put.ensures) c.put-2.ensures
