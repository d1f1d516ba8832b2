use Rattle.std.proofs.Common.{sym}
use Rattle.std.specs.Io.KnownBytes.{Appends}
use Rattle.std.proofs.lemmas.Result.{err_from_is_err_and}
use lib.Seq.{length-take-le}
use Rattle.text.proofs.Parts.{wrote_inside}
use Rattle.rehearse.proofs.Printed.{Before, line_room_lem, before_long, before_short, listings_part, last_printed, last_cut}
use Rattle.rehearse.proofs.output.rehearse.Goals as goal
use Rattle.rehearse.proofs.output.rehearse.Goals.{then-bytes-gt65536, else-bytes-gt65536+in_ok-listed}

pub returns-in_err-listed-clause-taken : goal.returns-in_err-listed-clause-taken
returns-in_err-listed-clause-taken g c =
    let cut = err_from_is_err_and c.from_residual.result c.from_residual.ensures.1 in
    rw (cut.1, cut.2)
    (listings_part c.args.bytes.now c.in_err-listed.field-0.0.at (Appends (g.W.Write.contents c.args.writer.now) (g.W.Write.contents c.print_listings.new.writer)) c.if-bytes-gt65536.false (c.in_err-listed.ensures {u = tt}).taken)

pub write_end-size-requires : goal.write_end-size-requires
write_end-size-requires g c = line_room_lem _ _

pub slice_bounds-line-end : goal.slice_bounds-line-end
slice_bounds-line-end g c = wrote_inside c.write_end-size.ensures

pub slice_bounds-write_whole-end : goal.slice_bounds-write_whole-end
slice_bounds-write_whole-end g c = sym (length-take-le _ _ (wrote_inside c.write_end-size.ensures))

pub returns-in-Err-clause-taken : goal.returns-in-Err-clause-taken
returns-in-Err-clause-taken g c =
    let before : Before c.args.bytes.now c.if-bytes-gt65536.listed (g.W.Write.contents c.args.writer.now) (g.W.Write.contents c.if-bytes-gt65536.writer) =
    elim c.if-bytes-gt65536.branch [
      | then-bytes-gt65536 w ↦ rw (w.listed-is, w.writer-is) (before_long c.args.bytes.now (g.W.Write.contents c.args.writer.now) w.if-bytes-gt65536.true)
      | else-bytes-gt65536+in_ok-listed w ↦ rw (w.listed-is, w.writer-is) (before_short c.args.bytes.now _ _ _ w.if-bytes-gt65536.false w.in_ok-listed.ensures.printed w.in_ok-listed.ensures.taken)
    ] in
    last_cut before _ c.write_end-size.ensures c.in-Err.cut.at c.in-Err.ensures.taken

pub returns-clause-taken : goal.returns-clause-taken
returns-clause-taken g c =
    let before : Before c.args.bytes.now c.if-bytes-gt65536.listed (g.W.Write.contents c.args.writer.now) (g.W.Write.contents c.if-bytes-gt65536.writer) =
    elim c.if-bytes-gt65536.branch [
      | then-bytes-gt65536 w ↦ rw (w.listed-is, w.writer-is) (before_long c.args.bytes.now (g.W.Write.contents c.args.writer.now) w.if-bytes-gt65536.true)
      | else-bytes-gt65536+in_ok-listed w ↦ rw (w.listed-is, w.writer-is) (before_short c.args.bytes.now _ _ _ w.if-bytes-gt65536.false w.in_ok-listed.ensures.printed w.in_ok-listed.ensures.taken)
    ] in
    last_printed before _ c.write_end-size.ensures c.in_default.ensures.taken
