use mathlib.Core.Path.{sym, ◌∙◌}
use Rattle.text.specs.Quoted.{text}
use Rattle.desk.proofs.Asking.{asks_none, asks_bytes, asks_text, asks_figure, asks_nothing}
use Rattle.desk.proofs.asked.read_mode.Goals as goal

pub returns-in_default : goal.returns-in_default
returns-in_default c = asks_none _ (c.in_default.ensures {u = tt})

pub returns-then-same : goal.returns-then-same
unfolding text
returns-then-same c = asks_bytes c.in-Some.ensures.0 c.in-Some.ensures.1 (sym c.same.ensures ∙ c.if-same.true) c.alone.ensures

pub returns-then-same-2 : goal.returns-then-same-2
unfolding text
returns-then-same-2 c = asks_text c.in-Some.ensures.0 c.in-Some.ensures.1 (sym c.same.ensures ∙ c.if-same.false) (sym c.same-2.ensures ∙ c.if-same-2.true) c.alone-then-same-2.ensures

pub returns-then-same-3 : goal.returns-then-same-3
unfolding text
returns-then-same-3 c = asks_figure c.in-Some.ensures.0 c.in-Some.ensures.1 (sym c.same.ensures ∙ c.if-same.false) (sym c.same-2.ensures ∙ c.if-same-2.false) (sym c.same-3.ensures ∙ c.if-same-3.true) c.read_delay.ensures

pub returns : goal.returns
unfolding text
returns c = asks_nothing c.in-Some.ensures.0 c.in-Some.ensures.1 (sym c.same.ensures ∙ c.if-same.false) (sym c.same-2.ensures ∙ c.if-same-2.false) (sym c.same-3.ensures ∙ c.if-same-3.false)
