use Rattle.std.proofs.Common.{◌≡◌, refl, sym, ap, Ok, Err, true, arith}
use lib.Seq.{length-take-le}
use Rattle.text.proofs.Parts.{wrote_inside}
use Rattle.simulator.specs.Gone.{full_of, refusal_of}
use Rattle.printing.proofs.Going.{stands_first, wrote, counted, part_printed, leads-on, stands, all_printed, ends}
use Rattle.printing.proofs.rules.print_listings.Goals as goal

pub loop-cut-init : goal.loop-cut-init
loop-cut-init g c = stands_first _ _ _ _ c.requires (omega arith) c.fresh-s.ensures

pub slice_bounds-buffer-end : goal.slice_bounds-buffer-end
slice_bounds-buffer-end g c = wrote_inside (wrote c.loop-cut.invariant c.go_on-r.new.buffer c.go_on-r.new.s c.go_on-r.result c.go_on-r.ensures)

pub slice_bounds-write_whole-end : goal.slice_bounds-write_whole-end
slice_bounds-write_whole-end g c = sym (length-take-le _ _ (wrote_inside (wrote c.loop-cut.invariant c.go_on-r.new.buffer c.go_on-r.new.s c.go_on-r.result c.go_on-r.ensures)))

pub returns-in-Err-clause-taken : goal.returns-in-Err-clause-taken
returns-in-Err-clause-taken g c =
    part_printed c.loop-cut.invariant c.go_on-r.new.buffer c.go_on-r.new.s c.go_on-r.result c.go_on-r.ensures _ c.in-Err.cut.at c.in-Err.ensures.taken

pub returns-in-Err-clause-few : goal.returns-in-Err-clause-few
returns-in-Err-clause-few g c =
    let inside = wrote_inside (wrote c.loop-cut.invariant c.go_on-r.new.buffer c.go_on-r.new.s c.go_on-r.result c.go_on-r.ensures) in
    omega (arith, counted c.loop-cut.invariant c.go_on-r.new.buffer c.go_on-r.new.s c.go_on-r.result c.go_on-r.ensures c.requires c.go_on-r.auto.buffer, c.in-Err.ensures.taken.0, length-take-le _ c.go_on-r.new.buffer inside)

pub overflow_add-size : goal.overflow_add-size
overflow_add-size g c = omega (arith, counted c.loop-cut.invariant c.go_on-r.new.buffer c.go_on-r.new.s c.go_on-r.result c.go_on-r.ensures c.requires c.go_on-r.auto.buffer)

pub loop-cut-smaller : goal.loop-cut-smaller
loop-cut-smaller g c =
    let more : full_of c.go_on-r.result.stop ≡ true = ap full_of c.in-Full.is in
    omega (arith, leads-on c.loop-cut.invariant c.go_on-r.new.buffer c.go_on-r.new.s c.go_on-r.result c.go_on-r.ensures more)

pub loop-cut-preserved : goal.loop-cut-preserved
loop-cut-preserved g c =
    stands c.loop-cut.invariant c.go_on-r.new.buffer c.go_on-r.new.s c.go_on-r.result c.go_on-r.ensures _ c.in_default.ensures.taken c.go_on-r.auto.buffer (ap full_of c.in-Full.is)

pub returns-in-End-clause-taken : goal.returns-in-End-clause-taken
returns-in-End-clause-taken g c = all_printed c.loop-cut.invariant c.go_on-r.new.buffer c.go_on-r.new.s c.go_on-r.result c.go_on-r.ensures _ c.in_default.ensures.taken (ap full_of c.in-End.is)

pub returns-in-End-clause-printed : goal.returns-in-End-clause-printed
returns-in-End-clause-printed g c =
    ends c.loop-cut.invariant c.go_on-r.new.buffer c.go_on-r.new.s c.go_on-r.result c.go_on-r.ensures (ap full_of c.in-End.is)
    (Ok c.go_on-r.result.at) (sym (ap refusal_of c.in-End.is)) refl c.requires c.go_on-r.auto.buffer

pub returns-in-Refused-clause-taken : goal.returns-in-Refused-clause-taken
returns-in-Refused-clause-taken g c = all_printed c.loop-cut.invariant c.go_on-r.new.buffer c.go_on-r.new.s c.go_on-r.result c.go_on-r.ensures _ c.in_default.ensures.taken (ap full_of c.in-Refused.is)

pub returns-in-Refused-clause-printed : goal.returns-in-Refused-clause-printed
returns-in-Refused-clause-printed g c =
    ends c.loop-cut.invariant c.go_on-r.new.buffer c.go_on-r.new.s c.go_on-r.result c.go_on-r.ensures (ap full_of c.in-Refused.is)
    (Err (record { at = c.go_on-r.result.at; refusal = c.in-Refused.refusal })) (sym (ap refusal_of c.in-Refused.is)) refl c.requires c.go_on-r.auto.buffer
