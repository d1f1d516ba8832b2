-- What the loop of chance::send keeps.
use mathlib.Core.Path.{◌≡◌}
use mathlib.Core.Bool.{true, false}
use Prim.Native.Nat.{◌+◌, ◌*◌, ◌≤◌}
use lib.ListN.{get_or}
use Rattle.station.specs.Limits.{last_tick}
use Rattle.ticks.specs.Chances.{Turn}
use Rattle.ticks.proofs.chance.send.Given as goal

abbrev pub invariant-loop-q : goal.invariant-loop-q
invariant-loop-q g l =
    (l.q ≤ l.n) × (l.n ≡ g.heard.n) × (l.now ≤ l.until) × (get_or l.busy l.p false ≡ true)
    × Turn g.heard.n l.now g.heard last_tick l.until l.s l.busy (l.p + 1) l.p l.p (8 * l.p + l.q)
