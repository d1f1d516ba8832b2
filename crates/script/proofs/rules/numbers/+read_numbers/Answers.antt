use mathlib.Core.Path.{◌≡◌, sym, ◌∙◌}
use Rattle.std.specs.Prelude.{Err}
use borrow.Author.Rules.{rules}
use Rattle.script.proofs.Reading.{numbers-next}
use Rattle.script.proofs.rules.numbers.+read_numbers.Goals as goal

pub returns-then-left-eq0 : goal.returns-then-left-eq0
returns-then-left-eq0 t c = c.read_none.ensures ∙ rw c.if-left-eq0.true

pub returns-in_err-first : goal.returns-in_err-first
returns-in_err-first t c =
    let e : c.from_residual.result ≡ Err c.in_err-first.field-0.0 = search rules in
    e ∙ sym (numbers-next _ c.if-left-eq0.false c.read_first.ensures ∙ rw c.in_err-first.was)
