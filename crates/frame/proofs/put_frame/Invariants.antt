use mathlib.Core.Path.{◌≡◌}
use Prim.Native.Nat.{◌≤◌}
use lib.ListN.{length, take}
use Rattle.lists.specs.Entries.{over}
use Rattle.frame.specs.Frame.{frame, frame_size}
use Rattle.frame.proofs.put_frame.Given as goal

abbrev pub invariant-loop-k : goal.invariant-loop-k
invariant-loop-k l = record {
  room : frame_size (length l.counts) ≤ length l.initial.buffer;
  size : length l.buffer ≡ length l.initial.buffer;
  laid : l.buffer ≡ over (frame l.n l.sender (take l.k l.counts)) l.initial.buffer;
}
