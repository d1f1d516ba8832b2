use mathlib.Core.Path.{◌≡◌}
use Prim.Native.Nat.{◌≤◌}
use native.Mathlib.Omega.{arith}
use lib.ListN.{length}
use borrow.Author.Rules.{rules}
use Rattle.figures.proofs.Leading.{led-turn, led-all}
use Rattle.figures.proofs.leader.leader.Goals as goal

pub loop-k-preserved : goal.loop-k-preserved
loop-k-preserved c = let eight : length c.args.stations.now ≤ 8 = omega arith in
    (search rules, c.loop-k.invariant.1, rw (c.first_of-l.ensures, c.up_at.ensures, c.loop-k.invariant.1) (led-turn _ _ _ eight _ c.loop-k.invariant.2))

pub returns : goal.returns
returns c = let e : c.loop-k.k ≡ c.args.n = omega arith in
    led-all _ _ _ _ (rw e at c.loop-k.invariant.2)
