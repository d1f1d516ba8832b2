use mathlib.Core.List.{◌++◌}
use lib.ListN.{take}
use Rattle.text.specs.Numbers.{newline}
use Rattle.text.proofs.Parts.{wrote_part, room_at, room-part, room-first, ends-in}
use Rattle.script.specs.Entries.{entry}
use Rattle.script.specs.Shown.{spaced}
use Rattle.script.proofs.Worded.{entry-of, pieces, line_fits}
use Rattle.script.proofs.rules.written.put_line.Goals as goal

pub count_of-n-requires : goal.count_of-n-requires
count_of-n-requires c = rw c.phrase_of-phrase.ensures.place (entry-of _)

pub put_name-a-requires : goal.put_name-a-requires
put_name-a-requires c = let p = c.phrase_of-phrase in let n = c.count_of-n in (rw p.ensures.place (entry-of _), room-first (entry p.result.entry).name (spaced (take n.result p.result.numbers)) (room-first ((entry p.result.entry).name ++ (spaced (take n.result p.result.numbers))) newline (line_fits p.ensures n.ensures.0 c.requires)))

pub slice_bounds-put_numbers-count : goal.slice_bounds-put_numbers-count
slice_bounds-put_numbers-count c = let p = c.phrase_of-phrase in let n = c.count_of-n in room_at (spaced (take n.result p.result.numbers)) c.put_name-a.ensures (room-first ((entry p.result.entry).name ++ (spaced (take n.result p.result.numbers))) newline (line_fits p.ensures n.ensures.0 c.requires))

pub slice_bounds-put_numbers-start : goal.slice_bounds-put_numbers-start
slice_bounds-put_numbers-start c = slice_bounds-put_numbers-count c

pub put_numbers-requires : goal.put_numbers-requires
put_numbers-requires c = let p = c.phrase_of-phrase in let n = c.count_of-n in room-part (spaced (take n.result p.result.numbers)) c.put_name-a.ensures (room-first ((entry p.result.entry).name ++ (spaced (take n.result p.result.numbers))) newline (line_fits p.ensures n.ensures.0 c.requires))

pub overflow_add-b : goal.overflow_add-b
overflow_add-b c = let p = c.phrase_of-phrase in let n = c.count_of-n in record { fits = ends-in (wrote_part c.put_name-a.ensures c.put_numbers.ensures) (room-first ((entry p.result.entry).name ++ (spaced (take n.result p.result.numbers))) newline (line_fits p.ensures n.ensures.0 c.requires)) c.well_formed.1.0.0 }

pub slice_bounds-put-count : goal.slice_bounds-put-count
slice_bounds-put-count c = let p = c.phrase_of-phrase in let n = c.count_of-n in room_at newline (wrote_part c.put_name-a.ensures c.put_numbers.ensures) (line_fits p.ensures n.ensures.0 c.requires)

pub slice_bounds-put-start : goal.slice_bounds-put-start
slice_bounds-put-start c = slice_bounds-put-count c

pub put-requires : goal.put-requires
put-requires c = let p = c.phrase_of-phrase in let n = c.count_of-n in room-part newline (wrote_part c.put_name-a.ensures c.put_numbers.ensures) (line_fits p.ensures n.ensures.0 c.requires)

pub overflow_add-result : goal.overflow_add-result
overflow_add-result c = let p = c.phrase_of-phrase in let n = c.count_of-n in record { fits = ends-in (wrote_part (wrote_part c.put_name-a.ensures c.put_numbers.ensures) c.put.ensures) (line_fits p.ensures n.ensures.0 c.requires) c.well_formed.1.0.0 }

pub returns : goal.returns
returns c = let p = c.phrase_of-phrase in let n = c.count_of-n in rw (pieces p.ensures n.ensures.0) (wrote_part (wrote_part c.put_name-a.ensures c.put_numbers.ensures) c.put.ensures)
