use Rattle.layout.proofs.Initial.{set_up-is}
use Rattle.layout.proofs.rules.set_up.Goals as goal

pub returns : goal.returns
returns c = set_up-is _ _ _ _ _ _ c.first_stations.ensures c.first_delays.ensures c.unused.ensures
