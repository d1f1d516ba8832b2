use Rattle.text.specs.Numbers.{digits}
use Rattle.text.specs.Quoted.{text}
use Rattle.frames.specs.Explained.{reason}
use Rattle.frames.proofs.told.put_reason.Goals as goal

pub returns-in-Mark : goal.returns-in-Mark
unfolding text digits reason
returns-in-Mark c = rw c.in-Mark.is c.put-in-Mark.ensures

pub returns-in-Entry : goal.returns-in-Entry
unfolding text digits reason
returns-in-Entry c = rw c.in-Entry.is c.put-in-Entry.ensures
