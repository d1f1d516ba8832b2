use Rattle.std.proofs.Common.{rules, tests}
use Rattle.std.specs.Prelude.{leb}
use Rattle.std.proofs.lemmas.Iterator.{YieldsList-from_slice}
use Rattle.std.proofs.lemmas.Iterator.Search.{all_from_yields_List}
use Rattle.frame.specs.Frame.{counts_in}
use Rattle.frame.proofs.Elements.{all_to-each}
use Rattle.frame.proofs.counts_in.Goals as goal

pub returns-then-all : goal.returns-then-all
unfolding counts_in
returns-then-all c =
    let each = all_from_yields_List (λ x. leb x 4095) _ _ c.all.result c.all.ensures.ran (YieldsList-from_slice c.args.counts.now (cc)) (λ x b q k. search (rules, tests)) in
    rw (all_to-each (λ x. leb x 4095) 0 c.args.counts.now, ← each, c.if-all.true, c.from.ensures)

pub returns-else-all : goal.returns-else-all
unfolding counts_in
returns-else-all c =
    let each = all_from_yields_List (λ x. leb x 4095) _ _ c.all.result c.all.ensures.ran (YieldsList-from_slice c.args.counts.now (cc)) (λ x b q k. search (rules, tests)) in
    rw (all_to-each (λ x. leb x 4095) 0 c.args.counts.now, ← each, c.if-all.false)
