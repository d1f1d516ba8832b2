use Rattle.tryout.proofs.Asking.{over-known}
use borrow.Author.Rules.{rules}
use Rattle.tryout.proofs.command.is_left_over.Goals as goal

pub returns-in-1-to-9 : goal.returns-in-1-to-9
returns-in-1-to-9 c = over-known c.args.bytes.now c.width.result (search rules) (search rules) c.width.ensures
