-- What the loop of deliver::hear keeps, and the system that it hands on.
use mathlib.Core.Path.{◌≡◌}
use Prim.Native.Nat.{◌*◌, ◌≤◌}
use Rattle.ticks.specs.Delivering.{Delivered, Silent}
use Rattle.ticks.proofs.deliver.hear.Given as goal

abbrev pub ghost-deliver : goal.ghost-deliver
ghost-deliver g a = g.r

abbrev pub invariant-loop-q : goal.invariant-loop-q
invariant-loop-q g l = (l.q ≤ l.n) × (l.n ≡ g.r.n) × Delivered g.r l.now l.until l.s l.q 0 × Silent g.r.n l.s.used l.busy (8 * g.r.n)
