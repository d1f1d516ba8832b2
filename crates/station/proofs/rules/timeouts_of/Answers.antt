use Rattle.std.proofs.Common.{rules, cond}
use Rattle.station.specs.Rules.{timeouts_of, other}
use Rattle.lists.proofs.Places.{from_fn_is}
use Rattle.station.proofs.rules.timeouts_of.Goals as goal

pub returns : goal.returns
unfolding timeouts_of
returns c = from_fn_is _ _ (λ k. cond (other c.args.me c.args.n k) c.args.timeout 0) (λ i y q h. search rules) _ 8 c.from_fn.ensures.items
