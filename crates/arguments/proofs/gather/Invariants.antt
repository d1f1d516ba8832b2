use Rattle.std.proofs.Common.{◌≤◌, length}
use Rattle.arguments.proofs.gather.Given as goal

abbrev pub invariant-loop-k : goal.invariant-loop-k
invariant-loop-k g l = l.at ≤ length l.line
