use Rattle.desk.specs.Wording.{refused_in}
use Rattle.text.proofs.Parts.{wrote_part}
use Rattle.desk.proofs.wording.put_refused_in.Goals as goal

pub returns : goal.returns
unfolding refused_in
returns c = wrote_part c.put_refused-size.ensures c.put_held_in.ensures
