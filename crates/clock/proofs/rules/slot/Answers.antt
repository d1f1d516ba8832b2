use Rattle.clock.proofs.Elimination.{slotted-of}
use Rattle.clock.proofs.rules.slot.Goals as goal

pub returns : goal.returns
returns c = slotted-of _ _ _ _ c.past_wait.new.station c.past_wait.ensures
