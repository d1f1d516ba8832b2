use mathlib.Core.Path.{sym}
use lib.IntN.{pos}
use lib.ListN.{take}
use lib.Seq.{length-take-le}
use Rattle.desk.proofs.Saying.{was_read, was_unread, says-bytes, says-no_bytes, spoken}
use Rattle.desk.proofs.said.say_bytes.Goals as goal

pub slice_bounds-write_to-end : goal.slice_bounds-write_to-end
slice_bounds-write_to-end g c = (was_read c.prepare-r.ensures _ c.in-Ok.is).1

pub slice_bounds-write_to-end-in-Ok : goal.slice_bounds-write_to-end-in-Ok
slice_bounds-write_to-end-in-Ok g c = sym (length-take-le _ _ (was_read c.prepare-r.ensures _ c.in-Ok.is).1)

pub slice_bounds-line-end : goal.slice_bounds-line-end
slice_bounds-line-end g c = (was_unread c.prepare-r.ensures _ c.in-Err.is).1

pub slice_bounds-write_to-end-in-Err : goal.slice_bounds-write_to-end-in-Err
slice_bounds-write_to-end-in-Err g c = sym (length-take-le _ _ (was_unread c.prepare-r.ensures _ c.in-Err.is).1)

pub returns-in-Ok : goal.returns-in-Ok
returns-in-Ok g c = spoken (record { out = pos 1; text = take c.in-Ok.n c.prepare-r.new.bytes }) (says-bytes _ _ (was_read c.prepare-r.ensures _ c.in-Ok.is).0) c.write_to.ensures.last c.write_to.ensures.taken

pub returns-in-Err : goal.returns-in-Err
returns-in-Err g c = spoken (record { out = pos 2; text = take c.in-Err.n c.prepare-r.new.line }) (says-no_bytes _ _ (was_unread c.prepare-r.ensures _ c.in-Err.is).0) c.write_to-in-Err.ensures.last c.write_to-in-Err.ensures.taken
