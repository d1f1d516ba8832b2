use Rattle.text.proofs.Parts.{wrote_none}
use Rattle.script.specs.Encoded.{encode_all}
use Rattle.script.proofs.Coded.{encode_one}
use Rattle.script.proofs.rules.lines.put_line.Goals as goal

pub put_command-requires : goal.put_command-requires
put_command-requires c = let p = rw c.in-Command.is at c.requires.0 in (p.0, p.1, rw (c.in-Command.is, encode_one) at c.requires.1)

pub returns-in-Nothing : goal.returns-in-Nothing
unfolding encode_all
returns-in-Nothing c = rw c.in-Nothing.is (wrote_none _)

pub returns-in-Command : goal.returns-in-Command
returns-in-Command c = rw (c.in-Command.is, encode_one) c.put_command.ensures
