use Rattle.text.specs.Quoted.{text}
use Rattle.tryout.specs.Told.{because, turned_down}
use Rattle.tryout.proofs.told.put_turned_down.Goals as goal

pub returns : goal.returns
unfolding text turned_down because
returns c = rw (← c.reason.ensures, ← c.number.ensures, ← c.from.ensures) c.put.ensures
