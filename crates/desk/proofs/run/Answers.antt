use Rattle.std.proofs.Common.{sym, subst}
use Rattle.desk.specs.Spoken.{SpaceFor}
use Rattle.desk.proofs.Knowing.{known_said}
use Rattle.desk.proofs.run.Goals as goal

pub returns-in-Ok-answer : goal.returns-in-Ok-answer
returns-in-Ok-answer g c =
    let read = c.in-Ok.ensures in
    let room = subst (SpaceFor c.args.mode) (sym c.read_whole.auto.buffer) c.requires.space_for in
    known_said _ _ c.args.mode c.read_whole.new.buffer c.in-Ok.filled (record { inside = read.bound; whole = read.whole; bytes = read.bytes; end = read.end }) room c.in-Ok-answer.ensures

pub returns-in-Err-answer : goal.returns-in-Err-answer
returns-in-Err-answer g c =
    let read = c.in-Ok.ensures in
    let room = subst (SpaceFor c.args.mode) (sym c.read_whole.auto.buffer) c.requires.space_for in
    known_said _ _ c.args.mode c.read_whole.new.buffer c.in-Ok.filled (record { inside = read.bound; whole = read.whole; bytes = read.bytes; end = read.end }) room c.in-Err-answer.ensures
