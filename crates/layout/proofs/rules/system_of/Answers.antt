use Rattle.std.proofs.Common.{ap, rules}
use Rattle.lists.proofs.Places.{from_fn_is}
use Rattle.election.specs.System.{with_links}
use Rattle.layout.specs.Layout.{link_of, links_of, system_of}
use Rattle.layout.proofs.rules.system_of.Goals as goal

pub returns : goal.returns
unfolding links_of
returns c = ap (λ ls. with_links ls (system_of c.args.x.now)) (from_fn_is _ _ (link_of c.args.x.now.used c.args.x.now.messages) (λ i y q h. search rules) _ 64 c.from_fn.ensures.items)
