-- What the loop of deliver::deliver keeps, and the system that it hands on.
use mathlib.Core.Path.{◌≡◌}
use mathlib.Core.List.{List}
use mathlib.Core.Bool.{Bool, true, false}
use Prim.Native.Nat.{◌*◌, ◌≤◌}
use lib.ListN.{get_or}
use Rattle.ticks.specs.Delivering.{Delivered, Silent, Gone}
use Rattle.ticks.proofs.deliver.deliver.Given as goal

abbrev pub ghost-deliver_link : goal.ghost-deliver_link
ghost-deliver_link g a = g.r

abbrev pub invariant-loop-p : goal.invariant-loop-p
invariant-loop-p g l =
    (l.p ≤ l.n) × (l.n ≡ g.r.n) × Delivered g.r l.now l.until l.s l.q l.p × Gone l.s.used l.q l.p l.more
    × ((busy : List Bool) → get_or busy l.q false ≡ true → Silent g.r.n l.initial.s.used busy (8 * g.r.n) → Silent g.r.n l.s.used busy (8 * g.r.n))
