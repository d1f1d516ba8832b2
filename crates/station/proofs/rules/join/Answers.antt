use Rattle.std.proofs.Common.{get_or, max, rules}
use Rattle.station.specs.Rules.{joined}
use Rattle.lists.proofs.Places.{from_fn_is}
use Rattle.station.proofs.rules.join.Goals as goal

pub returns : goal.returns
unfolding joined
returns c = from_fn_is _ _ (λ k. max (get_or c.args.counts k 0) (get_or c.args.others k 0)) (λ i y q h. search rules) _ 8 c.from_fn.ensures.items
