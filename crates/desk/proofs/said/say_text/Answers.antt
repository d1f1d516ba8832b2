use mathlib.Core.Path.{sym}
use native.Mathlib.Omega.{arith}
use lib.IntN.{pos}
use lib.ListN.{take}
use lib.Seq.{length-take-le}
use Rattle.text.proofs.Parts.{wrote_inside}
use Rattle.desk.proofs.Room.{no_text-room}
use Rattle.desk.proofs.Saying.{shows_text, shows_none, says-text, says-no_text, spoken}
use Rattle.desk.proofs.said.say_text.Goals as goal

pub slice_bounds-write_to-end : goal.slice_bounds-write_to-end
slice_bounds-write_to-end g c = (shows_text _ _ _ c.requires _ (rw c.in-Ok.is at c.show-r.ensures)).1

pub slice_bounds-write_to-end-in-Ok : goal.slice_bounds-write_to-end-in-Ok
slice_bounds-write_to-end-in-Ok g c = sym (length-take-le _ _ (shows_text _ _ _ c.requires _ (rw c.in-Ok.is at c.show-r.ensures)).1)

pub put_no_text-n-requires : goal.put_no_text-n-requires
put_no_text-n-requires g c = omega (arith, no_text-room c.in-Err.none.at c.in-Err.none.why, c.buffer-line.ensures)

pub slice_bounds-line-end : goal.slice_bounds-line-end
slice_bounds-line-end g c = wrote_inside c.put_no_text-n.ensures

pub slice_bounds-write_to-end-in-Err : goal.slice_bounds-write_to-end-in-Err
slice_bounds-write_to-end-in-Err g c = sym (length-take-le _ _ (wrote_inside c.put_no_text-n.ensures))

pub returns-in-Ok : goal.returns-in-Ok
returns-in-Ok g c = spoken (record { out = pos 1; text = take c.in-Ok.n c.show-r.new.buffer }) (says-text _ _ (shows_text _ _ _ c.requires _ (rw c.in-Ok.is at c.show-r.ensures)).0) c.write_to.ensures.last c.write_to.ensures.taken

pub returns-in-Err : goal.returns-in-Err
returns-in-Err g c = spoken (record { out = pos 2; text = take c.put_no_text-n.result c.put_no_text-n.new.buffer }) (says-no_text _ _ (shows_none _ _ _ c.requires _ (rw c.in-Err.is at c.show-r.ensures)) c.put_no_text-n.ensures) c.write_to-in-Err.ensures.last c.write_to-in-Err.ensures.taken
