-- What the loop of rules::run keeps, and the systems that it hands on.
use Prim.Native.Nat.{◌-◌, ◌*◌, ◌≤◌}
use Rattle.station.specs.Limits.{last_tick}
use Rattle.layout.specs.Layout.{system_of}
use Rattle.layout.proofs.Stores.{Wide}
use Rattle.election.specs.Idle.{Still}
use Rattle.ticks.specs.Delivering.{Silent}
use Rattle.ticks.proofs.Run.{Going}
use Rattle.ticks.proofs.rules.run.Given as goal

abbrev pub ghost-hear : goal.ghost-hear
ghost-hear a = system_of a.s.now

abbrev pub ghost-chances : goal.ghost-chances
ghost-chances a = system_of a.s.now

abbrev pub invariant-loop-s : goal.invariant-loop-s
invariant-loop-s l =
    (l.end ≤ last_tick) × (l.s.tick ≤ l.end) × Going l.t (system_of l.initial.s) (system_of l.s) × Wide l.s × Silent l.s.n l.s.used l.busy (8 * l.s.n) × Still l.quiet (system_of l.s)

abbrev pub decreases-loop-s : goal.decreases-loop-s
decreases-loop-s l = l.end - l.s.tick
