use Rattle.std.proofs.Common.{sym}
use lib.Seq.{length-take-le}
use Rattle.text.proofs.Parts.{wrote_front, wrote_inside}
use Rattle.frames.proofs.output.tell.Goals as goal

pub slice_bounds-write_whole-end : goal.slice_bounds-write_whole-end
slice_bounds-write_whole-end g c = wrote_inside c.feed-size.ensures.wrote

pub slice_bounds-write_whole-end-2 : goal.slice_bounds-write_whole-end-2
slice_bounds-write_whole-end-2 g c = sym (length-take-le _ _ (wrote_inside c.feed-size.ensures.wrote))

pub returns-clause-taken : goal.returns-clause-taken
returns-clause-taken g c = rw (wrote_front c.feed-size.ensures.wrote) at c.write_whole.ensures.taken
