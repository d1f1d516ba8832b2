use Rattle.std.proofs.Common.{◌≡◌, arith, sym, ap, ◌∙◌}
use Rattle.std.specs.Option.{option_or}
use Rattle.listing.proofs.Scan.{some-is, kept_none, kept_turn, kept-split, kept-dark, kept-agreed, kept-agreed_dark}
use Rattle.listing.proofs.search.search.Goals as goal

pub loop-k-init : goal.loop-k-init
loop-k-init c = kept_none _

pub returns-then-ends_search : goal.returns-then-ends_search
returns-then-ends_search c = kept-split _ _ _ (omega arith) (c.from.ensures ∙ c.min.ensures) _ _ c.loop-k.invariant c.loop-k-test.true (sym c.ends_search.ensures ∙ c.if-ends_search.true)

pub loop-k-preserved : goal.loop-k-preserved
loop-k-preserved c = kept_turn _ _ _ (omega arith) (c.from.ensures ∙ c.min.ensures) _ _ c.loop-k.invariant c.loop-k-test.true (sym c.ends_search.ensures ∙ c.if-ends_search.false) (c.or-leader.ensures ∙ ap (λ m. option_or m c.loop-k.leader) c.then_some.ensures)

pub returns-in-None : goal.returns-in-None
returns-in-None c = kept-dark _ _ _ (omega arith) (c.from.ensures ∙ c.min.ensures) _ _ c.loop-k.invariant c.loop-k.auto.k-end c.loop-k-test.false c.in-None.is

pub returns-in-Some : goal.returns-in-Some
returns-in-Some c = kept-agreed _ _ _ (omega arith) (c.from.ensures ∙ c.min.ensures) _ _ c.loop-k.invariant c.loop-k.auto.k-end c.loop-k-test.false c.in-Some.is (sym c.is_up.ensures ∙ c.if-is_up.true)

pub returns-in-Some-2 : goal.returns-in-Some-2
returns-in-Some-2 c =
    let same : c.in-Some-2.l ≡ c.in-Some.l = some-is (sym c.in-Some-2.is ∙ c.in-Some.is) in
    rw same (kept-agreed_dark _ _ _ (omega arith) (c.from.ensures ∙ c.min.ensures) _ _ c.loop-k.invariant c.loop-k.auto.k-end c.loop-k-test.false c.in-Some.is (sym c.is_up.ensures ∙ c.if-is_up.false))
