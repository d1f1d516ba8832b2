-- What the loop of deliver::clear keeps.
use Prim.Native.Nat.{◌≤◌}
use Rattle.layout.proofs.Stores.{Clearing}
use Rattle.ticks.proofs.deliver.clear.Given as goal

abbrev pub invariant-loop-j : goal.invariant-loop-j
invariant-loop-j l = (l.from ≤ l.j) × (l.j ≤ l.to) × Clearing l.k l.initial.s l.s l.from l.j
