use borrow.Author.Rules.{rules}
use Rattle.script.specs.Encoded.{encode_all}
use Rattle.script.proofs.rules.lines.read_size.Goals as goal

pub returns : goal.returns
unfolding encode_all
returns c = search rules
