use mathlib.Core.Path.{sym, ◌∙◌}
use native.Mathlib.Omega.{arith}
use Rattle.desk.proofs.Asking.{delay-small}
use Rattle.desk.proofs.asked.read_delay.Goals as goal

pub overflow_cast-result : goal.overflow_cast-result
overflow_cast-result c = omega (arith, delay-small _ _ c.read_numbers.ensures (sym c.ok.ensures.value ∙ c.in_ok-delay.was {u = tt}))
