use Rattle.std.proofs.Common.{◌∙◌, sym, subst, length-take-le}
use Rattle.desk.specs.Spoken.{SpareFor}
use Rattle.desk.proofs.Rooms.{text-rooms, bytes-rooms}
use Rattle.desk.proofs.run_in.Goals as goal

pub run-requires-clause-space_for : goal.run-requires-clause-space_for
run-requires-clause-space_for c = (text-rooms c.args.mode (sym c.is_text.ensures ∙ c.if-is_text.true) c.space-small.ensures c.space-big.ensures).0

pub run-requires-clause-spare_for : goal.run-requires-clause-spare_for
run-requires-clause-spare_for c =
    let rooms = text-rooms c.args.mode (sym c.is_text.ensures ∙ c.if-is_text.true) c.space-small.ensures c.space-big.ensures in
    subst (SpareFor c.args.mode) (sym (length-take-le 524288 _ rooms.2)) rooms.1

pub run-requires-2-clause-space_for : goal.run-requires-2-clause-space_for
run-requires-2-clause-space_for c = (bytes-rooms c.args.mode (sym c.is_text.ensures ∙ c.if-is_text.false) c.space-big.ensures c.space-small.ensures).0

pub run-requires-2-clause-spare_for : goal.run-requires-2-clause-spare_for
run-requires-2-clause-spare_for c =
    let rooms = bytes-rooms c.args.mode (sym c.is_text.ensures ∙ c.if-is_text.false) c.space-big.ensures c.space-small.ensures in
    subst (SpareFor c.args.mode) (sym (length-take-le 65536 _ rooms.2)) rooms.1

pub slice_bounds-run-end-then-is_text : goal.slice_bounds-run-end-then-is_text
slice_bounds-run-end-then-is_text c =
    let rooms = text-rooms c.args.mode (sym c.is_text.ensures ∙ c.if-is_text.true) c.space-small.ensures c.space-big.ensures in
    sym (length-take-le 524288 _ rooms.2)

pub slice_bounds-run-end-3 : goal.slice_bounds-run-end-3
slice_bounds-run-end-3 c =
    let rooms = bytes-rooms c.args.mode (sym c.is_text.ensures ∙ c.if-is_text.false) c.space-big.ensures c.space-small.ensures in
    sym (length-take-le 65536 _ rooms.2)
