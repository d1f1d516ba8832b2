use Rattle.std.proofs.Common.{arith}
use Rattle.text.specs.Quoted.{text}
use Rattle.text.proofs.Same.{vector_front}
use Rattle.frames.specs.Explained.{counted, received}
use Rattle.frames.proofs.told.put_received.Goals as goal

pub put-requires : goal.put-requires
unfolding text counted received
put-requires c = rw (c.from.ensures, c.from-2.ensures, c.from-3.ensures, vector_front c.args.n c.args.leader.now.counts (omega arith)) c.requires.1

pub returns : goal.returns
unfolding text counted received
returns c = rw (c.from.ensures, c.from-2.ensures, c.from-3.ensures, vector_front c.args.n c.args.leader.now.counts (omega arith)) at c.put.ensures
