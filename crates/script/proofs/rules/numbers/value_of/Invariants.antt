use Rattle.script.proofs.Capping.{ReadTo}
use Rattle.script.proofs.rules.numbers.value_of.Given as goal

abbrev pub invariant-loop-c : goal.invariant-loop-c
invariant-loop-c l = ReadTo l.word l.c-index l.v
