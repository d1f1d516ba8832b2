-- The function chance::chances meets its contract.
use mathlib.Core.Path.{◌≡◌, sym, subst}
use Prim.Native.Nat.{ℕ, ◌*◌, ◌<◌, ◌≤◌}
use native.Mathlib.Omega.{arith}
use Rattle.station.specs.Limits.{last_tick}
use Rattle.ticks.specs.Chances.{Turn, CanEnd}
use Rattle.ticks.proofs.After.{part_n}
use Rattle.ticks.proofs.Chances.{turn_ended}
use Rattle.ticks.proofs.chance.chances.Goals as goal

pub loop-p-init : goal.loop-p-init
loop-p-init g c = let (can, (low, t)) = c.requires in (omega arith, part_n _ _ _ _ _ _ _ _ t.chances.part, low, t)

pub expire-requires-clause-place : goal.expire-requires-clause-place
expire-requires-clause-place g c =
    let i = c.loop-p.invariant in
    let n-high : g.heard.n ≤ 8 = i.3.chances.part.mid.n-high in
    (omega (arith, i.1, c.loop-p-test.true, n-high), omega (arith, i.1, c.loop-p-test.true, n-high, i.3.chances.long))

pub expire-requires-clause-ends : goal.expire-requires-clause-ends
expire-requires-clause-ends g c =
    let i = c.loop-p.invariant in
    subst (CanEnd c.args.now) (sym (i.3.chances.rest c.loop-p.p (omega arith))) (c.requires.0 c.loop-p.p (omega (arith, i.1, c.loop-p-test.true)))

pub chance-until-requires : goal.chance-until-requires
chance-until-requires g c =
    let i = c.loop-p.invariant in
    let hp : c.loop-p.p < g.heard.n = omega (arith, i.1, c.loop-p-test.true) in
    (hp, (i.2, turn_ended g.heard.n _ g.heard _ _ _ _ _ hp i.3.chances.part.mid.n-high i.3 _ c.expire.ensures))

pub returns-clause-turn : goal.returns-clause-turn
returns-clause-turn g c =
    let i = c.loop-p.invariant in
    let z : c.loop-p.p ≡ g.heard.n = omega (arith, i.0, i.1, c.loop-p-test.false) in
    subst (λ (j : ℕ). Turn g.heard.n c.args.now g.heard last_tick c.loop-p.until c.loop-p.s c.loop-p.busy j j j (8 * j)) z i.3
