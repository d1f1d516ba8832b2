use Rattle.layout.proofs.Initial.{fresh-is}
use Rattle.layout.proofs.rules.fresh.Goals as goal

pub returns : goal.returns
returns c = fresh-is _ _ c.never_started.ensures c.unused.ensures
