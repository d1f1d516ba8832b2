use Prim.Native.Nat.{◌-◌}
use lib.ListN.{length}
use Rattle.script.proofs.Chosen.{BegunTo}
use Rattle.script.proofs.rules.finding.begin_with.Given as goal

abbrev pub invariant-loop-n : goal.invariant-loop-n
invariant-loop-n l = BegunTo l.name l.text l.i l.at

abbrev pub decreases-loop-n : goal.decreases-loop-n
decreases-loop-n l = length l.name - l.i
