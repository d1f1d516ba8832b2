use native.Mathlib.Omega.{arith}
use Rattle.figures.proofs.Products.{three-factors}
use Rattle.figures.proofs.rules.followers.Goals as goal

pub returns-clause-upper_bound : goal.returns-clause-upper_bound
returns-clause-upper_bound c =
    omega (arith, three-factors c.from.result c.saturating_sub-2.result c.saturating_sub-3.result (omega arith) (omega arith) (omega arith))
