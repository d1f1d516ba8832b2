use Rattle.std.proofs.Common.{◌∙◌, sym, eqb, rules, tests}
use Rattle.std.proofs.lemmas.Iterator.{YieldsList-from_slice}
use Rattle.std.proofs.lemmas.Iterator.Consumers.{YieldsList-from_filter, count_from_yields_List}
use Rattle.lists.proofs.Places.{count_to-filtered}
use Rattle.fit.specs.Fit.{timeouts_at}
use Rattle.fit.proofs.timeouts_at.Goals as goal

pub returns : goal.returns
unfolding timeouts_at
returns c =
    let a = c.args in
    count_from_yields_List _ c.count.result c.count.ensures.ran (YieldsList-from_filter _ (λ x. eqb x a.high) (YieldsList-from_slice a.timeouts.now (cc)) c.filter.ensures.closure (λ x b q k. search (rules, tests)))
    ∙ sym (count_to-filtered (λ x. eqb x a.high) 0 a.timeouts.now 8 c.told-timeouts)
