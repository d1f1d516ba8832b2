use native.Mathlib.Omega.{arith}
use Rattle.script.proofs.LineBytes.{line_room_lem}
use Rattle.script.proofs.rules.lines.line_size.Goals as goal

pub put_line-requires : goal.put_line-requires
put_line-requires c = (c.requires, line_room_lem c.args.line c.requires)

pub returns : goal.returns
returns c = (c.put_line.ensures.count, omega (arith, c.put_line.ensures.count, line_room_lem c.args.line c.requires))
