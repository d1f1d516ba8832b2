use mathlib.Core.Path.{◌≡◌, sym, ◌∙◌}
use Rattle.std.specs.Prelude.{Err}
use borrow.Author.Rules.{rules}
use Rattle.script.proofs.Leaving.{has_text, long_shown, text-shown, refused-shown}
use Rattle.script.proofs.show.Goals as goal

pub returns-then-bytes-gt65536 : goal.returns-then-bytes-gt65536
returns-then-bytes-gt65536 c = long_shown _ _ c.if-bytes-gt65536.true

pub returns : goal.returns
returns c = text-shown _ _ c.if-bytes-gt65536.false _ _ (has_text _ _ (sym c.measure.ensures ∙ c.in_ok-measure.was)) c.fill.ensures

pub returns-in_err-measure : goal.returns-in_err-measure
returns-in_err-measure c =
    let e : c.from_residual.result ≡ Err c.in_err-measure.field-0.0 = search rules in
    rw e (refused-shown _ _ c.if-bytes-gt65536.false _ (sym c.measure.ensures ∙ c.in_err-measure.was))
