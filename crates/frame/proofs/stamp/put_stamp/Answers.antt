use Rattle.std.proofs.Common.{◌≡◌, ◌/◌, ◌%◌, arith}
use Rattle.lists.specs.Entries.{over}
use Rattle.frame.specs.Stamp.{stamp_frame}
use Rattle.frame.proofs.stamp.put_stamp.Goals as goal

pub returns : goal.returns
unfolding over stamp_frame
returns c =
    let top : c.args.stamp / 16777216 % 256 ≡ c.args.stamp / 16777216 = omega arith in
    rw (c.copy_from_slice.ensures.after, c.to_le_bytes.ensures, top)
