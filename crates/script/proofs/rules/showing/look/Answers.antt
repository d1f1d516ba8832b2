use lib.ListN.{get_or}
use borrow.Author.Tests.{le-leb, lt-leb}
use Rattle.fit.proofs.Tests.{of_within}
use Rattle.election.specs.Commands.{last_command}
use Rattle.script.specs.Pieces.{found}
use borrow.Author.Rules.{rules}
use Rattle.script.proofs.rules.showing.look.Goals as goal

pub returns-in-1-to-9 : goal.returns-in-1-to-9
unfolding found
returns-in-1-to-9 c = rw (of_within 1 (get_or c.args.bytes.now 0 0) last_command (search rules) (search rules)) c.look_known.ensures

pub returns-in_default : goal.returns-in_default
unfolding found
returns-in_default c = rw (lt-leb 1 (get_or c.args.bytes.now 0 0) (search rules))

pub returns-in_default-2 : goal.returns-in_default-2
unfolding found
returns-in_default-2 c = rw (le-leb 1 (get_or c.args.bytes.now 0 0) (search rules), lt-leb (get_or c.args.bytes.now 0 0) last_command (search rules))
