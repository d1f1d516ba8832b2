use Prim.Native.Nat.{◌-◌}
use Rattle.script.specs.Entries.{entries}
use Rattle.script.proofs.Chosen.{TriedTo}
use Rattle.script.proofs.rules.finding.find.Given as goal

abbrev pub invariant-loop-k : goal.invariant-loop-k
invariant-loop-k l = TriedTo l.text l.k

abbrev pub decreases-loop-k : goal.decreases-loop-k
decreases-loop-k l = entries - l.k
