use mathlib.Core.Path.{refl}
use native.Mathlib.Omega.{arith}
use borrow.Author.Rules.{rules}
use Rattle.layout.proofs.Stores.{Wide, clearing_none, clearing_turn}
use Rattle.simulator.proofs.Stored.{messages-stored}
use Rattle.simulator.proofs.obeying.lose.Goals as goal

pub loop-i-init : goal.loop-i-init
loop-i-init c =
    let wide : Wide c.args.s.now = record { used = c.full.ensures.0; messages = c.full.ensures.1 } in
    (search rules, c.place_of-link.ensures.1, wide, clearing_none _ _ 0 wide.messages)

pub loop-i-preserved : goal.loop-i-preserved
loop-i-preserved c =
    let h = c.loop-i.invariant in
    (search rules, h.1, h.2, clearing_turn _ _ c.loop-i.s 0 c.loop-i.i h.3 h.1 c.loop-i-test.true (search rules) _ _ c.unused-empty.ensures refl)

pub returns : goal.returns
returns c =
    let link = c.place_of-link in
    let h = c.loop-i.invariant in
    (messages-stored c.args.s.now c.loop-i.s _ _ _ _ c.loop-i.i link.ensures.0 link.ensures.1 h.2 h.3 (omega (arith, h.0, c.loop-i-test.false)) refl).1
