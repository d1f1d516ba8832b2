use Rattle.election.specs.Commands.{decode}
use Rattle.lists.specs.Test.{all_to}
use native.Mathlib.Omega.{arith}
use Rattle.decision.proofs.Bytes.{widths_rule, none_at_zero, none_above}
use borrow.Author.Rules.{rules}
use Rattle.decision.proofs.widths.width.Goals as goal

pub returns-in-1-to-9 : goal.returns-in-1-to-9
unfolding all_to decode
returns-in-1-to-9 c = search (rules, widths_rule)

pub returns-in_default : goal.returns-in_default
returns-in_default c = none_at_zero _ (omega arith)

pub returns-in_default-2 : goal.returns-in_default-2
returns-in_default-2 c = none_above _ (search rules)
