use mathlib.Core.Path.{sym, ◌∙◌}
use native.Mathlib.Omega.{arith}
use Rattle.script.proofs.Capping.{read_none, read-digit, read-other, read_all}
use Rattle.script.proofs.rules.numbers.value_of.Goals as goal

pub loop-c-init : goal.loop-c-init
loop-c-init c = read_none _

pub returns-then-not-is_ascii_digit : goal.returns-then-not-is_ascii_digit
returns-then-not-is_ascii_digit c = read-other c.loop-c.invariant (omega arith) (sym c.is_ascii_digit.ensures.value ∙ c.if-not-is_ascii_digit.true)

pub loop-c-preserved : goal.loop-c-preserved
loop-c-preserved c = read-digit c.loop-c.invariant (omega arith) (sym c.is_ascii_digit.ensures.value ∙ c.if-not-is_ascii_digit.false) c.grown-v.result c.grown-v.ensures

pub returns : goal.returns
returns c = read_all c.loop-c.invariant (omega arith)
