use Rattle.script.proofs.Worded.{line_room_lem}
use Rattle.script.proofs.rules.written.line_size.Goals as goal

pub put_line-requires : goal.put_line-requires
put_line-requires c = line_room_lem _

pub returns : goal.returns
returns c = let e = c.put_line.ensures.count in (e, rw e (line_room_lem _))
