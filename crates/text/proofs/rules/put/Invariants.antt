use Rattle.std.proofs.Common.{◌≡◌, length, take}
use Rattle.text.specs.Wrote.{Wrote}
use Rattle.text.proofs.rules.put.Given as goal

abbrev pub invariant-loop-i : goal.invariant-loop-i
invariant-loop-i l = record {
  same : length l.buffer ≡ length l.fn.buffer;
  written : Wrote (take l.i l.word) l.fn.buffer l.i l.buffer;
}
