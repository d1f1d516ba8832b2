use Rattle.ticks.proofs.Quiet.{station-quiet}
use borrow.Author.Rules.{rules}
use Rattle.ticks.proofs.due.quiet_station.Goals as goal

pub returns : goal.returns
returns c = (search rules, search rules, station-quiet _ _ _ _ c.short_of.ensures.2 c.short_of-2.ensures.2 c.short_of-2.ensures.1)
