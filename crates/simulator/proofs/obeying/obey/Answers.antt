use mathlib.Core.Path.{refl}
use native.Mathlib.Omega.{arith}
use Rattle.election.specs.Commands.{perform}
use Rattle.election.specs.System.{at_tick}
use Rattle.election.proofs.Idle.{still_none}
use Rattle.layout.specs.Layout.{system_of}
use Rattle.simulator.proofs.Stored.{tick-raised, may_start, may_link, may_lose, may_rank}
use Rattle.simulator.proofs.obeying.obey.Goals as goal

pub bounds-s-place : goal.bounds-s-place
bounds-s-place c = let m = may_start (system_of c.args.s.now) c.requires.sound c.in-Start.p (rw c.in-Start.is at c.requires.taken) in omega (arith, m.0, m.1, c.from-place.ensures)

pub start-requires-clause-me : goal.start-requires-clause-me
start-requires-clause-me c = let m = may_start (system_of c.args.s.now) c.requires.sound c.in-Start.p (rw c.in-Start.is at c.requires.taken) in (m.0, m.1)

pub start-requires-clause-sums : goal.start-requires-clause-sums
start-requires-clause-sums c = let m = may_start (system_of c.args.s.now) c.requires.sound c.in-Start.p (rw c.in-Start.is at c.requires.taken) in (m.2, m.3, rw c.from-place.ensures m.4)

pub place_of-requires : goal.place_of-requires
place_of-requires c = may_link (system_of c.args.s.now) c.requires.sound c.in-Link.from c.in-Link.to c.in-Link.delay (rw c.in-Link.is at c.requires.taken)

pub lose-requires : goal.lose-requires
lose-requires c = may_lose (system_of c.args.s.now) c.requires.sound c.in-Lose.from c.in-Lose.to (rw c.in-Lose.is at c.requires.taken)

pub bounds-s-from : goal.bounds-s-from
bounds-s-from c = let m = may_rank (system_of c.args.s.now) c.requires.sound c.in-Rank.station c.in-Rank.rank (rw c.in-Rank.is at c.requires.taken) in omega (arith, m.0, m.1, c.from-in-Rank.ensures)

pub returns-in-SetUp-clause-done : goal.returns-in-SetUp-clause-done
unfolding perform
returns-in-SetUp-clause-done c = rw (c.in-SetUp.is, c.set_up.ensures, c.from.ensures) refl

pub returns-in-SetUp-clause-still : goal.returns-in-SetUp-clause-still
returns-in-SetUp-clause-still c = still_none _

pub returns-in-Start-clause-done : goal.returns-in-Start-clause-done
unfolding perform
returns-in-Start-clause-done c = rw (c.in-Start.is, c.start.ensures, c.from-place.ensures) refl

pub returns-in-Start-clause-still : goal.returns-in-Start-clause-still
returns-in-Start-clause-still c = still_none _

pub returns-in-Crash-clause-done : goal.returns-in-Crash-clause-done
unfolding perform
returns-in-Crash-clause-done c = rw (c.in-Crash.is, c.crash.ensures, c.from-place-in-Crash.ensures) refl

pub returns-in-Crash-clause-still : goal.returns-in-Crash-clause-still
returns-in-Crash-clause-still c = still_none _

pub returns-in-Link-clause-done : goal.returns-in-Link-clause-done
unfolding perform
returns-in-Link-clause-done c = rw (c.in-Link.is, c.place_of.ensures.0) refl

pub returns-in-Link-clause-still : goal.returns-in-Link-clause-still
returns-in-Link-clause-still c = still_none _

pub returns-in-Run-clause-done : goal.returns-in-Run-clause-done
unfolding perform at_tick
returns-in-Run-clause-done c = rw c.in-Run.is (tick-raised (system_of c.args.s.now) _ c.args.quiet c.in-Run.ticks c.requires.still c.if-s-ticks.true refl).0

pub returns-in-Run-clause-still : goal.returns-in-Run-clause-still
unfolding at_tick
returns-in-Run-clause-still c = (tick-raised (system_of c.args.s.now) _ c.args.quiet c.in-Run.ticks c.requires.still c.if-s-ticks.true refl).1

pub returns-in-Run-2-clause-done : goal.returns-in-Run-2-clause-done
unfolding perform
returns-in-Run-2-clause-done c = rw c.in-Run-2.is c.run.ensures.system_value

pub returns-in-Lose-clause-done : goal.returns-in-Lose-clause-done
unfolding perform
returns-in-Lose-clause-done c = rw c.in-Lose.is c.lose.ensures

pub returns-in-Lose-clause-still : goal.returns-in-Lose-clause-still
returns-in-Lose-clause-still c = still_none _

pub returns-in-Rank-clause-done : goal.returns-in-Rank-clause-done
unfolding perform
returns-in-Rank-clause-done c = rw (c.in-Rank.is, c.from-in-Rank.ensures) refl

pub returns-in-Rank-clause-still : goal.returns-in-Rank-clause-still
returns-in-Rank-clause-still c = still_none _

pub returns-in-Report-clause-done : goal.returns-in-Report-clause-done
unfolding perform
returns-in-Report-clause-done c = rw c.in-Report.is refl
