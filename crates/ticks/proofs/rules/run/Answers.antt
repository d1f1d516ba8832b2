-- The function rules::run meets its contract.
use mathlib.Core.Path.{◌≡◌, refl, sym, ap, subst}
use Prim.Native.Nat.{ℕ, ◌+◌, ◌*◌}
use native.Mathlib.Omega.{arith}
use Rattle.station.specs.Limits.{last_tick}
use Rattle.layout.specs.Layout.{system_of}
use Rattle.layout.proofs.Full.{held_of}
use Rattle.layout.proofs.Stores.{length-links}
use Rattle.election.specs.Idle.{Still}
use Rattle.election.specs.System.{at_tick}
use Rattle.election.specs.declared.System.{System}
use Rattle.election.proofs.Idle.{still_none}
use Rattle.election.proofs.Soundness.{sound-of}
use Rattle.ticks.specs.Chances.{Turn}
use Rattle.ticks.specs.Delivering.{Silent, Taken}
use Rattle.ticks.proofs.After.{part_n}
use Rattle.ticks.proofs.Chances.{chances_first, chances_done}
use Rattle.ticks.proofs.Hearing.{hearing-none, timer_ready}
use Rattle.ticks.proofs.Indices.{least_first, least-second, least_above}
use Rattle.ticks.proofs.Ready.{is}
use Rattle.ticks.proofs.Run.{Going, going_first, going_done, going_ticking, going_on, going_still}
use Rattle.ticks.proofs.Silent.{silent_all}
use Rattle.ticks.proofs.Taken.{taken_none}
use Rattle.ticks.proofs.Whole.{part_first, run-tick, run-calm}
use Rattle.ticks.proofs.rules.run.Goals as goal

pub loop-s-init : goal.loop-s-init
loop-s-init c =
    let s = c.args.s.now in
    let full = c.full.ensures in
    let held = held_of s full.stations full.sent full.counts c.requires.0 c.requires.1 in
    (c.requires.2, omega arith, going_first _ _ c.requires.0 c.requires.1 held c.requires.2, record { used = full.used; messages = full.messages }, silent_all _ _ _ (sound-of (system_of s) c.requires.0 c.requires.1).n-high, still_none (system_of s))

pub hear-until-requires : goal.hear-until-requires
hear-until-requires c =
    let i = c.loop-s.invariant in
    let r = system_of c.loop-s.s in
    let ticking = going_ticking _ _ r i.2 c.loop-s-test.true in (
      record {
        now-is = refl;
        n-high = (is r ticking).n-high;
        low = omega (arith, i.0, c.loop-s-test.true);
        high = omega arith;
        wide = i.3;
        taken = taken_none _ _ _ _ ticking i.2.held refl;
        hearing = hearing-none _ _ i.2.held.stations;
      },
      i.4,
    )

pub chances-quiet-requires : goal.chances-quiet-requires
chances-quiet-requires c =
    let i = c.loop-s.invariant in
    let r = system_of c.loop-s.s in
    let now = c.loop-s.s.tick + 1 in
    let y = c.hear-until.new.s in
    let until = c.hear-until.result in
    let busy = c.hear-until.new.busy in
    let d = c.hear-until.ensures.delivered in
    let ticking = going_ticking _ _ r i.2 c.loop-s-test.true in
    let same : y.n ≡ r.n = ap (λ (z : System). z.n) d.hearing.same in
    let z : 8 * r.n + 0 ≡ 8 * r.n = omega arith in
    let taken = subst (Taken r.n now r until (system_of y).links) z d.taken in (
      (λ p h t. timer_ready r r.n r.n (system_of y) d.hearing refl refl ticking p (omega (arith, h, same)) _ refl t),
      (
        d.low,
        subst (λ (n : ℕ). Turn n now (system_of y) last_tick until y busy 0 0 0 0) (sym same)
            (record { high = d.high; wide = d.wide; silent = c.hear-until.ensures.silent; chances = chances_first _ _ _ y d.hearing.long (part_first r r.n r.n until (system_of y) (length-links _ _) taken refl d.hearing) }),
      ),
    )

pub loop-s-preserved : goal.loop-s-preserved
unfolding at_tick
loop-s-preserved c =
    let i = c.loop-s.invariant in
    let r = system_of c.loop-s.s in
    let now = c.loop-s.s.tick + 1 in
    let y = c.hear-until.new.s in
    let d = c.hear-until.ensures.delivered in
    let same : y.n ≡ r.n = ap (λ (z : System). z.n) d.hearing.same in
    let z : 8 * r.n + 0 ≡ 8 * r.n = omega arith in
    let taken = subst (Taken r.n now r c.hear-until.result (system_of y).links) z d.taken in
    let x = c.chances-quiet.new.s in
    let busy = c.chances-quiet.new.busy in
    let until = c.chances-quiet.result in
    let bound = c.chances-quiet.ensures.bound in
    let done = c.chances-quiet.ensures.turn in
    let size : x.n ≡ y.n = part_n _ _ _ _ _ _ _ _ done.chances.part in
    let turn = subst (λ (n : ℕ). Turn n now (system_of y) last_tick until x busy n n n (8 * n)) same done in
    let all = chances_done r.n now (system_of y) until x r.n turn.chances refl d.n-high in
    let to = c.min-s.result in
    let tick = ap (at_tick to) (run-tick r r.n r.n _ (system_of y) (length-links _ _) taken refl d.hearing (system_of x) until all) in
    let calm = run-calm r r.n r.n _ (system_of y) (length-links _ _) taken refl d.hearing (system_of x) until all in
    let before = c.loop-s-test.true in
    let by = least_first _ _ _ c.min-s.ensures in
    let high = least-second _ _ _ c.min-s.ensures in
    let low = least_above _ _ _ _ c.min-s.ensures bound (omega (arith, before)) in
    (i.0, high, subst (Going _ _) (sym tick) (going_on _ _ r i.2 before until to low high by calm), record { used = done.wide.used; messages = done.wide.messages }, subst (λ (n : ℕ). Silent n x.used busy (8 * n)) (sym size) done.silent, subst (Still until) (sym tick) (going_still _ _ r i.2 before until to low high by calm))

pub returns-clause-system_value : goal.returns-clause-system_value
returns-clause-system_value c = going_done _ _ _ c.loop-s.invariant.2 c.loop-s-test.false
