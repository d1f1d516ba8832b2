use native.Mathlib.Omega.{arith}
use Rattle.desk.proofs.Preparing.{too_long, is_read, is-wrong}
use Rattle.desk.proofs.Room.{long_text-room, wrong_line-room}
use Rattle.desk.proofs.said.prepare.Goals as goal

pub put_long_text-requires : goal.put_long_text-requires
put_long_text-requires c = omega (arith, long_text-room, c.requires.1)

pub returns-then-given-gt524288 : goal.returns-then-given-gt524288
returns-then-given-gt524288 c = too_long _ _ c.if-given-gt524288.true c.put_long_text.ensures

pub put_wrong_line-requires : goal.put_wrong_line-requires
put_wrong_line-requires c = omega (arith, wrong_line-room c.in-Err.wrong.line c.in-Err.wrong.why, c.requires.1)

pub returns-in-Ok : goal.returns-in-Ok
returns-in-Ok c = is_read _ _ c.if-given-gt524288.false c.requires.0 _ _ _ (rw c.in-Ok.is at c.assemble-r.ensures)

pub returns-in-Err : goal.returns-in-Err
returns-in-Err c = is-wrong _ _ c.if-given-gt524288.false c.requires.0 _ _ (rw c.in-Err.is at c.assemble-r.ensures) c.put_wrong_line.ensures
