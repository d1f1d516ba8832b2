-- What the loop of deliver::hear_due keeps.
use Prim.Native.Nat.{◌≤◌}
use Rattle.election.specs.System.{places}
use Rattle.ticks.specs.Delivering.{Reading}
use Rattle.ticks.proofs.deliver.hear_due.Given as goal

abbrev pub invariant-loop-i : goal.invariant-loop-i
invariant-loop-i l = (l.i ≤ l.u) × (l.u ≤ places) × (l.now ≤ l.until) × (l.until ≤ l.initial.until) × (l.to ≤ l.i) × Reading l.q l.p l.k l.now l.initial.s l.s l.until l.to l.i
