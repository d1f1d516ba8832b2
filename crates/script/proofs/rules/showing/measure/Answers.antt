use mathlib.Core.Path.{◌≡◌, sym, ap, ◌∙◌}
use Rattle.std.specs.Prelude.{Err}
use borrow.Author.Rules.{rules}
use native.Mathlib.Omega.{arith}
use Rattle.script.proofs.Measured.{wide, measured-end, measured-stop, measuring_on}
use Rattle.script.proofs.Told.{kept, turned}
use Rattle.script.proofs.rules.showing.measure.Goals as goal

pub returns-in_err-piece : goal.returns-in_err-piece
returns-in_err-piece c =
    let e : c.from_residual.result ≡ Err c.in_err-piece.field-0.0 = search rules in
    let t = turned _ _ _ c.map_err.ensures.cases c.in_err-piece.was in
    let s : record { at = c.loop-at.at; why = t.why } ≡ c.in_err-piece.field-0.0 = search (rules, t.told) in
    e ∙ sym (ap Err s) ∙ measured-stop _ _ _ _ c.loop-at.invariant c.loop-at-test.true _ c.look.ensures t.why t.is

pub loop-at-preserved : goal.loop-at-preserved
loop-at-preserved c = measuring_on _ _ _ _ c.loop-at.invariant c.loop-at-test.true _ c.look.ensures _ (kept _ _ _ _ c.map_err.ensures.cases c.in_ok-piece.was)

pub overflow_add-at : goal.overflow_add-at
overflow_add-at c = omega (arith, (measuring_on _ _ _ _ c.loop-at.invariant c.loop-at-test.true _ c.look.ensures _ (kept _ _ _ _ c.map_err.ensures.cases c.in_ok-piece.was)).inside)

pub overflow_add-size : goal.overflow_add-size
overflow_add-size c = omega (arith, (measuring_on _ _ _ _ c.loop-at.invariant c.loop-at-test.true _ c.look.ensures _ (kept _ _ _ _ c.map_err.ensures.cases c.in_ok-piece.was)).fits)

pub loop-at-smaller : goal.loop-at-smaller
loop-at-smaller c = omega (arith, (loop-at-preserved c).inside, wide _ _ _ _ c.loop-at.invariant c.loop-at-test.true _ c.look.ensures _ (kept _ _ _ _ c.map_err.ensures.cases c.in_ok-piece.was))

pub returns : goal.returns
returns c = measured-end _ _ _ _ c.loop-at.invariant c.loop-at-test.false
