use Rattle.lists.specs.Join.{join_to}
use Rattle.text.specs.Wrote.{Wrote}
use Rattle.script.proofs.Worded.{nth}
use Rattle.script.proofs.rules.written.put_numbers.Given as goal

abbrev pub invariant-loop-x : goal.invariant-loop-x
invariant-loop-x l = Wrote (join_to l.x-index (nth l.numbers)) l.initial.buffer l.at l.buffer
