use Rattle.std.proofs.Common.{sym, arith}
use Rattle.std.specs.Io.KnownBytes.{Appends}
use lib.Seq.{length-take-le}
use Rattle.std.proofs.lemmas.Result.{err_from_is_err_and}
use Rattle.text.proofs.Parts.{wrote_inside}
use Rattle.election.specs.Schedule.{refusal_of, offset_of}
use Rattle.desk.proofs.Room.{ending-room}
use Rattle.desk.proofs.Rehearsing.{listings_part, place_inside, ending_taken, ending_cut}
use Rattle.desk.proofs.rehearsal.rehearse.Goals as goal

pub returns-in_err-listed : goal.returns-in_err-listed
returns-in_err-listed g c =
    let cut = err_from_is_err_and c.from_residual.result c.from_residual.ensures.1 in
    let ensures = c.in_err-listed.ensures {u = tt} in
    rw (cut.1, cut.2)
    (record {
      last = ensures.last;
      taken = listings_part c.args.given.now c.args.bytes.now c.in_err-listed.field-0.0.at (Appends (g.O.Write.contents c.args.out.now) (g.O.Write.contents c.print_listings.new.writer)) ensures.taken;
    })

pub put_ending-n-requires : goal.put_ending-n-requires
put_ending-n-requires g c =
    let ended = c.in_ok-listed.listed.ended in
    let inside = place_inside c.args.given.now c.args.bytes.now c.in_ok-listed.ensures.printed in
    (omega (arith, inside, c.requires), inside, omega (arith, ending-room (refusal_of ended) c.args.given.now (offset_of ended) c.args.bytes.now, c.buffer-line.ensures))

pub slice_bounds-line-end : goal.slice_bounds-line-end
slice_bounds-line-end g c = wrote_inside c.put_ending-n.ensures

pub slice_bounds-write_whole-end : goal.slice_bounds-write_whole-end
slice_bounds-write_whole-end g c = sym (length-take-le _ _ (wrote_inside c.put_ending-n.ensures))

pub returns-in-Err-clause-taken : goal.returns-in-Err-clause-taken
returns-in-Err-clause-taken g c = ending_cut c.args.given.now c.args.bytes.now c.in_ok-listed.ensures.printed c.put_ending-n.ensures _ _ _ c.in_ok-listed.ensures.taken c.in-Err.cut.at c.in-Err.ensures.taken

pub returns-clause-taken : goal.returns-clause-taken
returns-clause-taken g c = ending_taken c.args.given.now c.args.bytes.now c.in_ok-listed.ensures.printed c.put_ending-n.ensures _ _ _ c.in_ok-listed.ensures.taken c.in_default.ensures.taken
