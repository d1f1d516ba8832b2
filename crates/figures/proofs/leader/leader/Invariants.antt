use mathlib.Core.Path.{◌≡◌}
use Prim.Native.Nat.{◌-◌, ◌≤◌}
use Rattle.figures.specs.Pieces.{counts_of}
use Rattle.figures.proofs.Leading.{Led}
use Rattle.figures.proofs.leader.leader.Given as goal

abbrev pub invariant-loop-k : goal.invariant-loop-k
invariant-loop-k l = (l.k ≤ l.n) × (l.counts ≡ counts_of l.stations) × Led l.stations l.ranks l.k l.l

abbrev pub decreases-loop-k : goal.decreases-loop-k
decreases-loop-k l = l.n - l.k
