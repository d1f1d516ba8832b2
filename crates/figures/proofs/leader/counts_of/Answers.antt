use Rattle.std.proofs.Common.{get_or, rules}
use Rattle.lists.proofs.Places.{from_fn_is}
use Rattle.election.specs.System.{no_station}
use Rattle.figures.specs.Pieces.{counts_of}
use Rattle.figures.proofs.leader.counts_of.Goals as goal

pub returns : goal.returns
unfolding counts_of
returns c = from_fn_is _ _ (λ k. (get_or c.args.stations.now k no_station).incarnation) (λ i y q h. search rules) _ 8 c.from_fn.ensures.items
