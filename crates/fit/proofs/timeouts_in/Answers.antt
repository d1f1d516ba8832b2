use Rattle.std.proofs.Common.{rules, tests}
use Rattle.std.proofs.lemmas.Iterator.{YieldsList-from_slice}
use Rattle.std.proofs.lemmas.Iterator.Consumers.{YieldsList-from_enumerate}
use Rattle.lists.proofs.Places.{all_places}
use Rattle.fit.specs.Fit.{timeouts_in, timeout_in}
use Rattle.fit.proofs.timeouts_in.Goals as goal

pub returns : goal.returns
unfolding timeouts_in
returns c =
    let a = c.args in
    all_places (timeout_in a.seat.me a.seat.n a.seat.period a.high) 0 a.timeouts.now 8 _ _ c.all.result c.all.ensures.ran (YieldsList-from_enumerate (YieldsList-from_slice a.timeouts.now (cc)) (search rules)) c.told-timeouts (λ x b q k. search (rules, tests))
