use mathlib.Core.Path.{◌≡◌, sym, ◌∙◌}
use Rattle.std.specs.Prelude.{Err}
use borrow.Author.Rules.{rules}
use Rattle.script.proofs.Answers.{is-accepted, bytes_left, wrong_left}
use Rattle.script.proofs.assemble.Goals as goal

pub returns : goal.returns
returns c = bytes_left _ _ _ _ (is-accepted _ _ _ (sym c.measure.ensures ∙ c.in_ok-measure.was)) c.fill.ensures

pub returns-in_err-measure : goal.returns-in_err-measure
returns-in_err-measure c =
    let e : c.from_residual.result ≡ Err c.in_err-measure.field-0.0 = search rules in
    rw e (wrong_left _ _ _ (sym c.measure.ensures ∙ c.in_err-measure.was))
