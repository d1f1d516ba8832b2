use mathlib.Core.Path.{sym}
use lib.IntN.{pos}
use lib.Seq.{length-take-le}
use lib.ListN.{take}
use Rattle.desk.proofs.Preparing.{read-few}
use Rattle.desk.proofs.Rehearsing.{rehearsal_to, says-no_rehearsal}
use Rattle.desk.proofs.Saying.{was_read, was_unread, spoken}
use Rattle.desk.proofs.rehearsal.say_rehearsal.Goals as goal

pub slice_bounds-rehearse-end : goal.slice_bounds-rehearse-end
slice_bounds-rehearse-end g c = (was_read c.prepare-r.ensures _ c.in-Ok.is).1

pub slice_bounds-rehearse-end-in-Ok : goal.slice_bounds-rehearse-end-in-Ok
slice_bounds-rehearse-end-in-Ok g c = sym (length-take-le _ _ (was_read c.prepare-r.ensures _ c.in-Ok.is).1)

pub rehearse-requires : goal.rehearse-requires
rehearse-requires g c = read-few _ _ (was_read c.prepare-r.ensures _ c.in-Ok.is).0

pub slice_bounds-line-end : goal.slice_bounds-line-end
slice_bounds-line-end g c = (was_unread c.prepare-r.ensures _ c.in-Err.is).1

pub slice_bounds-write_to-end : goal.slice_bounds-write_to-end
slice_bounds-write_to-end g c = sym (length-take-le _ _ (was_unread c.prepare-r.ensures _ c.in-Err.is).1)

pub returns-in-Ok : goal.returns-in-Ok
returns-in-Ok g c = rehearsal_to _ _ (was_read c.prepare-r.ensures _ c.in-Ok.is).0 c.rehearse.result _ _ _ c.rehearse.ensures.last c.rehearse.ensures.taken

pub returns-in-Err : goal.returns-in-Err
returns-in-Err g c = spoken (record { out = pos 2; text = take c.in-Err.n c.prepare-r.new.line }) (says-no_rehearsal _ _ (was_unread c.prepare-r.ensures _ c.in-Err.is).0) c.write_to.ensures.last c.write_to.ensures.taken
