use native.Mathlib.Omega.{arith}
use Rattle.script.proofs.Filled.{filling_first, filled, room-here, filling_on}
use Rattle.script.proofs.rules.showing.fill.Goals as goal

pub loop-at-init : goal.loop-at-init
loop-at-init c = filling_first _ _

pub put_line-size-requires : goal.put_line-size-requires
put_line-size-requires c = room-here _ _ _ _ _ c.loop-at.invariant c.requires c.loop-at-test.true

pub loop-at-preserved : goal.loop-at-preserved
loop-at-preserved c = filling_on _ _ _ _ _ c.loop-at.invariant c.requires c.loop-at-test.true _ _ _ c.width-w.ensures c.put_line-size.ensures

pub overflow_add-size : goal.overflow_add-size
overflow_add-size c = omega (arith, (loop-at-preserved c).fits)

pub returns : goal.returns
returns c = filled _ _ _ _ _ c.loop-at.invariant c.loop-at-test.false
