-- What the loop of chance::chances keeps, and the system that it hands on.
use mathlib.Core.Path.{◌≡◌}
use Prim.Native.Nat.{◌*◌, ◌≤◌}
use Rattle.station.specs.Limits.{last_tick}
use Rattle.ticks.specs.Chances.{Turn}
use Rattle.ticks.proofs.chance.chances.Given as goal

abbrev pub ghost-chance : goal.ghost-chance
ghost-chance g a = g.heard

abbrev pub invariant-loop-p : goal.invariant-loop-p
invariant-loop-p g l = (l.p ≤ l.n) × (l.n ≡ g.heard.n) × (l.now ≤ l.until) × Turn g.heard.n l.now g.heard last_tick l.until l.s l.busy l.p l.p l.p (8 * l.p)
