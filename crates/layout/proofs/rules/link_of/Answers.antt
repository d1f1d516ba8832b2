use Rattle.std.proofs.Common.{◌+◌, ◌*◌, get_or, rules}
use Rattle.lists.proofs.Places.{from_fn_is}
use Rattle.election.specs.System.{no_message, places}
use Rattle.lists.specs.Segment.{segment}
use Rattle.layout.specs.Layout.{link_of}
use Rattle.layout.proofs.rules.link_of.Goals as goal

pub returns : goal.returns
unfolding link_of segment
returns c = let e = from_fn_is _ _ (λ i. get_or c.args.x.now.messages (places * c.args.k + i) no_message) (λ i y q h. search rules) _ 16 c.from_fn.ensures.items in λ i. record { used = get_or c.args.x.now.used c.args.k 0; messages = e i }
