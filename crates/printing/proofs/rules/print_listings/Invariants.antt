use Rattle.std.proofs.Common.{◌-◌, length}
use Rattle.printing.proofs.Going.{Standing}
use Rattle.printing.proofs.rules.print_listings.Given as goal

abbrev pub invariant-loop-cut : goal.invariant-loop-cut
invariant-loop-cut g l = Standing l.bytes l.buffer l.s l.at l.size (g.W.Write.contents l.fn.writer) (g.W.Write.contents l.writer)

abbrev pub decreases-loop-cut : goal.decreases-loop-cut
decreases-loop-cut g l = length l.bytes - l.at
