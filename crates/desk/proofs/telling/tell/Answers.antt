use Rattle.std.proofs.Common.{sym, arith}
use lib.IntN.{pos}
use lib.ListN.{take}
use lib.Seq.{length-take-le}
use Rattle.election.specs.Commands.{number_of}
use Rattle.text.proofs.Parts.{wrote_inside}
use Rattle.desk.proofs.Figuring.{stopped_inside, says-refused, says-figure}
use Rattle.desk.proofs.Preparing.{read-few}
use Rattle.desk.proofs.Room.{complaint-room, figure-room}
use Rattle.desk.proofs.Saying.{spoken}
use Rattle.desk.proofs.telling.tell.Goals as goal

pub invariant_of-put_complaint : goal.invariant_of-put_complaint
invariant_of-put_complaint g c =
    let inside = stopped_inside c.args.given.now c.args.bytes.now c.schedule-r.result c.schedule-r.ensures _ _ c.in-Err.is in
    record { inside = (omega (arith, inside, read-few c.args.given.now c.args.bytes.now c.requires), inside) }

pub put_complaint-n-requires : goal.put_complaint-n-requires
put_complaint-n-requires g c = omega (arith, complaint-room (number_of c.in-Err.field-0.refusal) c.args.given.now c.in-Err.field-0.at c.args.bytes.now, c.buffer-line.ensures)

pub slice_bounds-line-end : goal.slice_bounds-line-end
slice_bounds-line-end g c = wrote_inside c.put_complaint-n.ensures

pub slice_bounds-write_to-end : goal.slice_bounds-write_to-end
slice_bounds-write_to-end g c = sym (length-take-le _ _ (wrote_inside c.put_complaint-n.ensures))

pub returns-in-Err : goal.returns-in-Err
returns-in-Err g c = spoken (record { out = pos 2; text = take c.put_complaint-n.result c.put_complaint-n.new.buffer }) (says-refused _ _ _ c.schedule-r.ensures _ _ c.in-Err.is _ c.requires c.put_complaint-n.ensures) c.write_to.ensures.last c.write_to.ensures.taken

pub put_figure-n-requires : goal.put_figure-n-requires
put_figure-n-requires g c = rw c.bound_ticks.ensures (omega (arith, figure-room c.args.d c.schedule-r.result.system c.figures-f.result, c.buffer-line.ensures))

pub slice_bounds-line-end-in-Ok : goal.slice_bounds-line-end-in-Ok
slice_bounds-line-end-in-Ok g c = wrote_inside c.put_figure-n.ensures

pub slice_bounds-write_to-end-in-Ok : goal.slice_bounds-write_to-end-in-Ok
slice_bounds-write_to-end-in-Ok g c = sym (length-take-le _ _ (wrote_inside c.put_figure-n.ensures))

pub returns-in-Ok : goal.returns-in-Ok
returns-in-Ok g c = spoken (record { out = pos 1; text = take c.put_figure-n.result c.put_figure-n.new.buffer }) (says-figure _ _ _ c.schedule-r.ensures _ c.in-Ok.is _ c.requires _ c.figures-f.ensures (rw c.bound_ticks.ensures at c.put_figure-n.ensures)) c.write_to-in-Ok.ensures.last c.write_to-in-Ok.ensures.taken
