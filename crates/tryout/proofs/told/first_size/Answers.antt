use native.Mathlib.Omega.{arith}
use Rattle.decision.proofs.Bytes.{width_of}
use Rattle.tryout.proofs.Room.{first-length}
use Rattle.tryout.proofs.told.first_size.Goals as goal

pub returns-in-len1-up : goal.returns-in-len1-up
returns-in-len1-up c = let bytes = c.args.bytes.now in omega (arith, first-length bytes, width_of bytes, c.width.ensures, c.min.ensures)
