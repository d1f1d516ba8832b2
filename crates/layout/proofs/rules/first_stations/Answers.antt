use Rattle.std.proofs.Common.{◌+◌, cond, rules}
use lib.Dec.{ltb}
use Rattle.lists.proofs.Places.{from_fn_is}
use Rattle.election.specs.System.{unstarted, initial}
use Rattle.layout.proofs.rules.first_stations.Goals as goal

pub returns : goal.returns
unfolding initial
returns c = from_fn_is _ _ (λ k. unstarted (cond (ltb k c.args.n) (k + 1) 0)) (λ i y q h. search rules) _ 8 c.from_fn.ensures.items
