use Prim.Native.Nat.{◌-◌, ◌<◌, ◌≤◌}
use Rattle.election.specs.System.{places}
use Rattle.layout.proofs.Stores.{Wide, Clearing}
use Rattle.simulator.proofs.obeying.lose.Given as goal

abbrev pub invariant-loop-i : goal.invariant-loop-i
invariant-loop-i l = (l.i ≤ places) × (l.link < 64) × Wide l.initial.s × Clearing l.link l.initial.s l.s 0 l.i

abbrev pub decreases-loop-i : goal.decreases-loop-i
decreases-loop-i l = places - l.i
