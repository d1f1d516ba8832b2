-- What the loop of rules::go_on keeps.
use mathlib.Core.Path.{◌≡◌}
use Prim.Native.Nat.{◌-◌}
use lib.ListN.{length}
use Rattle.election.specs.Idle.{Still}
use Rattle.layout.specs.Layout.{system_of}
use Rattle.simulator.proofs.Turns.{Going}
use Rattle.simulator.proofs.rules.go_on.Given as goal

abbrev pub invariant-loop-at : goal.invariant-loop-at
invariant-loop-at l =
    (length l.buffer ≡ length l.initial.buffer) × Going l.list l.bytes l.initial.buffer (system_of l.initial.s) l.initial.at l.s l.at l.size l.buffer × Still l.quiet (system_of l.s)

abbrev pub decreases-loop-at : goal.decreases-loop-at
decreases-loop-at l = length l.bytes - l.at
