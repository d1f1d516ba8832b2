use Rattle.std.proofs.Common.{◌≡◌, ◌*◌, length, arith}
use Rattle.election.specs.System.{places}
use Rattle.layout.proofs.Full.{counts-owned}
use Rattle.ticks.proofs.steps.full.Goals as goal

pub returns : goal.returns
returns c =
    let s = c.args._x in
    let owned = c.well_formed.0.1.1.1.1.1.1.1.1.1.1.0 in
    let size : length s.messages ≡ 64 * places = owned.1.0.1 in
    record {
      stations = c.well_formed.0.1.1.1.1.1.1.0.1.0.1;
      sent = c.well_formed.0.1.1.1.1.1.1.1.0.1.0.1;
      used = c.well_formed.0.1.1.1.1.1.1.1.1.1.0.1.0.1;
      messages = size;
      counts = λ j h. counts-owned s.messages owned.0 owned.1.1 j (omega arith);
    }
