-- The function deliver::clear meets its contract.
use mathlib.Core.Path.{◌≡◌, refl, subst}
use native.Mathlib.Omega.{arith}
use Rattle.layout.proofs.Stores.{Clearing, clearing_none, clearing_turn}
use Rattle.ticks.proofs.deliver.clear.Goals as goal

pub loop-j-init : goal.loop-j-init
loop-j-init c = (omega arith, c.requires.within.0, clearing_none _ _ _ c.requires.full)

pub loop-j-preserved : goal.loop-j-preserved
loop-j-preserved c =
    let i = c.loop-j.invariant in
    (omega (arith, i.0), omega (arith, c.loop-j-test.true), clearing_turn c.args.k _ _ _ _ i.2 c.requires.place (omega (arith, c.loop-j-test.true, c.requires.within.1)) i.0 _ _ c.unused-empty.ensures refl)

pub returns : goal.returns
returns c =
    let i = c.loop-j.invariant in
    let z : c.loop-j.j ≡ c.args.to = omega (arith, i.1, c.loop-j-test.false) in
    subst (Clearing c.args.k c.args.s.now c.loop-j.s c.args.from) z i.2
