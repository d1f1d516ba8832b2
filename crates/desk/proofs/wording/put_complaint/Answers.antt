use Rattle.text.specs.Quoted.{text}
use Rattle.desk.specs.Wording.{complaint}
use Rattle.text.proofs.Parts.{wrote_part}
use Rattle.desk.proofs.wording.put_complaint.Goals as goal

pub returns : goal.returns
unfolding text complaint
returns c = wrote_part c.put-size.ensures c.put_refused_in.ensures
