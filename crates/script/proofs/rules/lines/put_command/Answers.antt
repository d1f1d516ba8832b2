use Rattle.script.proofs.LineBytes.{command-bytes}
use Rattle.script.proofs.rules.lines.put_command.Goals as goal

pub put-requires : goal.put-requires
put-requires c = rw (c.width-size.ensures, command-bytes _ _ _ _ c.requires.0 c.requires.1 (c.ranges.x.fits, (c.ranges.y.fits, (c.ranges.z.fits, tt)))) c.requires.2

pub returns : goal.returns
returns c = rw (c.width-size.ensures, command-bytes _ _ _ _ c.requires.0 c.requires.1 (c.ranges.x.fits, (c.ranges.y.fits, (c.ranges.z.fits, tt)))) at c.put.ensures
