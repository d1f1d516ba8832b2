use Rattle.std.proofs.Common.{rules, ◌+◌}
use Rattle.station.proofs.Vectors.{timeouts_of-small}
use Rattle.station.proofs.Station.start.Goals as goal

pub overflow_add-end : goal.overflow_add-end
overflow_add-end c = let small = timeouts_of-small c.args.seat.me c.args.seat.n (c.args.seat.period + (c.args.self.now.incarnation + 1)) c.args.self.now.stable in search rules
