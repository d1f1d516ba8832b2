use Rattle.std.proofs.Common.{ap, rules}
use Rattle.lists.proofs.Places.{from_fn_is}
use Rattle.election.specs.System.{with_links}
use Rattle.layout.proofs.Between.{count_at, laid_at, links-laid, from_fn-tells, Full, links-full}
use Rattle.layout.proofs.rules.layout_of.Goals as goal

pub returns : goal.returns
returns c =
    let s = c.args.s.now in
    let used = from_fn_is _ _ (count_at s.links) (λ i y q h. search rules) _ 64 c.from_fn.ensures.items in
    let messages = from_fn_is _ _ (laid_at s.links) (λ i y q h. search rules) _ 1024 c.from_fn-2.ensures.items in
    ap (λ ls. with_links ls s) (links-laid s.links _ _ used messages (search rules) (links-full s.links (from_fn-tells _ _ (Full s.links) (λ i y q h. search rules) _ 1024 c.from_fn-2.ensures.items)))
