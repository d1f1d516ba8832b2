use Rattle.std.proofs.Common.{◌∙◌, rules, cond}
use Rattle.std.specs.Prelude.{ltb}
use Rattle.lists.proofs.Places.{from_fn_is}
use Rattle.frame.specs.Reading.{count_at}
use Rattle.frame.proofs.Body.{padded}
use Rattle.frame.proofs.counts_of.Goals as goal

pub returns : goal.returns
returns c = from_fn_is _ _ (λ k. cond (ltb k c.args.n) (count_at c.args.bytes.now k) 0) (λ i y q h. search rules) _ 8 c.from_fn.ensures.items ∙ padded c.args.n c.args.bytes.now c.requires.0
