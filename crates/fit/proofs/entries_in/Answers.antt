use Rattle.std.proofs.Common.{ℕ, cond, ltb, rules, tests}
use Rattle.std.specs.Ordering.{partial_le}
use Rattle.std.proofs.lemmas.Iterator.{YieldsList-from_slice}
use Rattle.std.proofs.lemmas.Iterator.Consumers.{YieldsList-from_enumerate}
use Rattle.lists.proofs.Places.{all_places}
use Rattle.fit.proofs.entries_in.Goals as goal

pub returns : goal.returns
returns g c =
    let a = c.args in
    all_places (λ (k : ℕ) (x : g.row.T.Denot). partial_le g.T.PartialOrd.partial_cmp x (cond (ltb k a.n) a.most a.none)) a.none a.entries.now 8 _ _ c.all.result c.all.ensures.ran (YieldsList-from_enumerate (YieldsList-from_slice a.entries.now (cc)) (search rules)) c.told-entries (λ x b q k. search (rules, tests))
