use Rattle.std.proofs.Common.{◌+◌, ◌*◌, ◌≤◌}
use Rattle.frames.proofs.Moving.{Reached}
use Rattle.frames.proofs.run.Given as goal

-- every read so far brought something, and at most 1,024 bytes, so that there were at most as many lines
abbrev pub invariant-loop : goal.invariant-loop
invariant-loop g l = record {
  number : l.line.number ≤ 1 + 1024 * l.counter;
  reached : Reached l.counter l.line (g.R.Read.remaining l.fn.reader) (g.R.Read.remaining l.reader) (g.W.Write.contents l.fn.writer) (g.W.Write.contents l.writer);
}
