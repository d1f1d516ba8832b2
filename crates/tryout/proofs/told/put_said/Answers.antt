use Rattle.std.proofs.Common.{cond, pos}
use native.Mathlib.Omega.{arith}
use lib.ListN.{length}
use mathlib.Core.Path.{ap}
use Rattle.tryout.proofs.Telling.{accepted-so, accepted-sound, accepted-said, refused-so, refused-said}
use Rattle.tryout.proofs.Room.{said-room}
use Rattle.tryout.proofs.told.put_said.Goals as goal

pub put_told-requires : goal.put_told-requires
put_told-requires c = let w = c.in-Ok.is in (accepted-sound c.args.given.now c.args.bytes.now c.schedule-r.result c.schedule-r.ensures _ w, c.requires.0, omega (arith, ap length (accepted-said c.args.given.now c.args.bytes.now c.schedule-r.result c.schedule-r.ensures _ w), said-room c.args.given.now c.args.bytes.now, c.requires.1))

pub put_turned_down-requires : goal.put_turned_down-requires
put_turned_down-requires c = let w = c.in-Err.is in omega (arith, ap length (refused-said c.args.given.now c.args.bytes.now c.schedule-r.result c.schedule-r.ensures _ w), said-room c.args.given.now c.args.bytes.now, c.requires.1)

pub returns-in-Err-clause-wrote : goal.returns-in-Err-clause-wrote
returns-in-Err-clause-wrote c = rw (← refused-said c.args.given.now c.args.bytes.now c.schedule-r.result c.schedule-r.ensures _ c.in-Err.is) c.put_turned_down.ensures

pub returns-in-Ok-clause-wrote : goal.returns-in-Ok-clause-wrote
returns-in-Ok-clause-wrote c = rw (← accepted-said c.args.given.now c.args.bytes.now c.schedule-r.result c.schedule-r.ensures _ c.in-Ok.is) c.put_told.ensures

pub returns-in-Err-clause-stream_value : goal.returns-in-Err-clause-stream_value
returns-in-Err-clause-stream_value c = ap (λ b. cond b (pos 1) (pos 2)) (refused-so c.args.given.now c.args.bytes.now c.schedule-r.result c.schedule-r.ensures _ c.in-Err.is)

pub returns-in-Ok-clause-stream_value : goal.returns-in-Ok-clause-stream_value
returns-in-Ok-clause-stream_value c = ap (λ b. cond b (pos 1) (pos 2)) (accepted-so c.args.given.now c.args.bytes.now c.schedule-r.result c.schedule-r.ensures _ c.in-Ok.is)
