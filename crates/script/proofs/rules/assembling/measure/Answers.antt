use mathlib.Core.Path.{◌≡◌, sym, ap, ◌∙◌}
use Prim.Native.Nat.{◌+◌}
use native.Mathlib.Omega.{arith}
use Rattle.std.specs.Prelude.{Err}
use borrow.Author.Rules.{rules}
use Rattle.script.proofs.Passing.{measured-wrong, measured-next, measured-all}
use Rattle.script.proofs.Told.{kept, turned}
use Rattle.script.proofs.rules.assembling.measure.Goals as goal

pub returns-in_err-size : goal.returns-in_err-size
returns-in_err-size c =
    let e : c.from_residual.result ≡ Err c.in_err-size.field-0.0 = search rules in
    let t = turned _ _ _ c.map_err.ensures.cases c.in_err-size.was in
    let s : record { line = c.loop-at.passed + 1; why = t.why } ≡ c.in_err-size.field-0.0 = search (rules, t.told) in
    e ∙ sym (ap Err s) ∙ measured-wrong c.loop-at.invariant c.line_at-turn.ensures t.why (sym t.is ∙ c.count_line.ensures)

pub loop-at-preserved : goal.loop-at-preserved
loop-at-preserved c = measured-next c.loop-at.invariant c.line_at-turn.ensures _ (sym (kept _ _ _ _ c.map_err.ensures.cases c.in_ok-size.was) ∙ c.count_line.ensures)

pub returns : goal.returns
returns c = measured-all c.loop-at.invariant (omega arith)
