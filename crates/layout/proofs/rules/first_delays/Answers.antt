use Rattle.std.proofs.Common.{cond, rules}
use Rattle.lists.proofs.Places.{from_fn_is}
use Rattle.election.specs.System.{from, to, is_link, initial}
use Rattle.layout.proofs.rules.first_delays.Goals as goal

pub returns : goal.returns
unfolding initial
returns c = from_fn_is _ _ (λ k. cond (is_link c.args.n (from k) (to k)) 1 0) (λ i y q h. search rules) _ 64 c.from_fn.ensures.items
