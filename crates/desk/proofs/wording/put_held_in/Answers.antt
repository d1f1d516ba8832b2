use mathlib.Core.List.{◌++◌}
use lib.ListN.{drop}
use Rattle.text.specs.Numbers.{named}
use Rattle.text.specs.Quoted.{text}
use Rattle.election.specs.Commands.{decode}
use Rattle.script.specs.Places.{line_holding}
use Rattle.script.specs.Shown.{line_of}
use Rattle.script.proofs.Onward.{lent}
use Rattle.desk.specs.Wording.{held_in}
use Rattle.text.proofs.Parts.{wrote_part, room_at, room-part, room-first, ends-in}
use Rattle.desk.proofs.wording.put_held_in.Goals as goal

pub put-size-requires : goal.put-size-requires
unfolding text held_in
put-size-requires c = rw c.line_holding.ensures (room-first (named (text "; line ") (line_holding c.args.held.now.given.now c.args.held.now.at) ++ text ": ") (line_of (decode (drop c.args.held.now.at c.args.held.now.bytes.now))) c.requires)

pub slice_bounds-put_line-count-2 : goal.slice_bounds-put_line-count-2
unfolding text held_in
slice_bounds-put_line-count-2 c = let one = rw c.line_holding.ensures at c.put-size.ensures in room_at (line_of (decode (drop c.args.held.now.at c.args.held.now.bytes.now))) one c.requires

pub slice_bounds-put_line-start-2 : goal.slice_bounds-put_line-start-2
unfolding text held_in
slice_bounds-put_line-start-2 c = let one = rw c.line_holding.ensures at c.put-size.ensures in room_at (line_of (decode (drop c.args.held.now.at c.args.held.now.bytes.now))) one c.requires

pub put_line-requires : goal.put_line-requires
unfolding text held_in
put_line-requires c = let one = rw c.line_holding.ensures at c.put-size.ensures in rw (lent c.args.held.now.bytes.now c.args.held.now.at) (room-part (line_of (decode (drop c.args.held.now.at c.args.held.now.bytes.now))) one c.requires)

pub overflow_add-result : goal.overflow_add-result
unfolding text held_in
overflow_add-result c = let one = rw c.line_holding.ensures at c.put-size.ensures in let two = rw (lent c.args.held.now.bytes.now c.args.held.now.at) at c.put_line.ensures in record { fits = ends-in (wrote_part one two) c.requires c.well_formed.1.0.0 }

pub returns : goal.returns
unfolding text held_in
returns c = let one = rw c.line_holding.ensures at c.put-size.ensures in let two = rw (lent c.args.held.now.bytes.now c.args.held.now.at) at c.put_line.ensures in wrote_part one two
