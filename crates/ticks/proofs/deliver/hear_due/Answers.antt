-- The function deliver::hear_due meets its contract.
use mathlib.Core.Path.{◌≡◌, sym, subst}
use mathlib.Core.List.{List}
use Prim.Native.Nat.{ℕ, ◌+◌, ◌*◌, ◌≤◌}
use native.Mathlib.Omega.{arith}
use lib.ListN.{get_or}
use Rattle.station.specs.Order.{entry}
use Rattle.station.specs.Limits.{last_tick, longest}
use Rattle.ticks.specs.Delivering.{Reading}
use Rattle.ticks.proofs.ByKind.{heard-clock, heard-flash}
use Rattle.ticks.proofs.Indices.{Ends, place_of, link-low, next_low, at_least, at_most, as_most, one_more, no_more}
use Rattle.ticks.proofs.Reading.{reading-none, reading-keeps, reading-hears, reading-passes}
use Rattle.ticks.proofs.deliver.hear_due.Goals as goal
use Rattle.ticks.proofs.deliver.hear_due.Goals.{then-due-now, else-due-now+then-s-p+then-s, else-due-now+then-s-p+else-s, else-due-now+else-s-p}

pub loop-i-init : goal.loop-i-init
loop-i-init c = (omega arith, omega (arith, c.requires.room.1, c.from-u.ensures), c.requires.ticks.0, omega arith, omega arith, reading-none _ _ _ _ _ _ c.requires.room.0)

pub hear-requires : goal.hear-requires
hear-requires c = (c.requires.ticks.1, omega (arith, c.loop-i.invariant.5.heard.timeout, c.requires.timeouts.1))

pub hear-requires-else-s : goal.hear-requires-else-s
hear-requires-else-s c = (c.requires.ticks.1, subst (λ (l : List ℕ). entry l (c.args.q + 1) ≤ longest last_tick) (sym c.loop-i.invariant.5.heard.timeouts) c.requires.timeouts.0)

pub loop-i-preserved : goal.loop-i-preserved
loop-i-preserved c =
    let ends : Ends c.args.q c.args.p = record { from = record { low = c.requires.ends.0 }; to = record { low = c.requires.ends.1 } } in
    let hk = link-low ends in
    let i6 = c.loop-i.invariant in
    let hj = (place_of _ _ _ _ ends c.loop-i-test.true i6.1).low in
    let s = c.loop-i.s in
    let next = next_low _ _ c.loop-i-test.true in
    elim c.if-due-now.branch [
      | then-due-now w ↦ (
        next,
        i6.1,
        at_least _ _ _ w.until-is w.short_of-until.ensures.0,
        at_most _ _ _ _ w.until-is w.short_of-until.ensures.1 i6.3,
        one_more _ _ _ w.to-is i6.4,
        reading-keeps _ _ _ _ _ s _ _ _ i6.5 hk hj _ _ _ _ w.if-due-now.true w.short_of-until.ensures.1 w.short_of-until.ensures.2 w.s-is w.until-is w.to-is,
      )
      | else-due-now+then-s-p+then-s w ↦ (
        next,
        i6.1,
        at_least _ _ _ w.until-is i6.2,
        as_most _ _ _ w.until-is i6.3,
        no_more _ _ _ w.to-is i6.4,
        reading-hears _ _ _ _ _ s _ _ _ i6.5 hk hj _ _ _ w.if-due-now.false w.until-is w.to-is _ (omega (arith, i6.5.beside.long, c.requires.ends.2)) w.if-s-p.true (heard-clock s _ _ _ _ _ _ w.if-s.true w.hear.ensures) w.s-is,
      )
      | else-due-now+then-s-p+else-s w ↦ (
        next,
        i6.1,
        at_least _ _ _ w.until-is i6.2,
        as_most _ _ _ w.until-is i6.3,
        no_more _ _ _ w.to-is i6.4,
        reading-hears _ _ _ _ _ s _ _ _ i6.5 hk hj _ _ _ w.if-due-now.false w.until-is w.to-is _ (omega (arith, i6.5.beside.long, c.requires.ends.2)) w.if-s-p.true (heard-flash s _ _ _ _ _ _ w.if-s.false w.hear-else-s.ensures) w.s-is,
      )
      | else-due-now+else-s-p w ↦ (
        next,
        i6.1,
        at_least _ _ _ w.until-is i6.2,
        as_most _ _ _ w.until-is i6.3,
        no_more _ _ _ w.to-is i6.4,
        reading-passes _ _ _ _ _ s _ _ _ i6.5 hk hj _ _ _ w.if-due-now.false w.until-is w.to-is w.if-s-p.false w.s-is,
      )
    ]

pub returns-clause-bound : goal.returns-clause-bound
returns-clause-bound c = (c.loop-i.invariant.2, c.loop-i.invariant.3)

pub returns-clause-read : goal.returns-clause-read
returns-clause-read c =
    let i = c.loop-i.invariant in
    let z : c.loop-i.i ≡ get_or c.args.s.now.used (8 * c.args.q + c.args.p) 0 = omega (arith, i.0, c.loop-i-test.false, c.from-u.ensures) in
    subst (Reading c.args.q c.args.p (8 * c.args.q + c.args.p) c.args.now c.args.s.now c.loop-i.s c.loop-i.until c.loop-i.to) z i.5
