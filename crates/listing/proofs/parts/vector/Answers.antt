use mathlib.Core.Path.{ap, ◌∙◌}
use mathlib.Core.List.{◌++◌}
use mathlib.Core.Bool.{cond}
use Rattle.std.proofs.Common.{arith}
use Rattle.text.specs.Choice.{or_dash}
use Rattle.text.proofs.Parts.{or_dash-then_some}
use Rattle.text.proofs.Same.{vector_front}
use Rattle.election.specs.Listing.{rec_word, none_word, vector_of}
use Rattle.listing.proofs.parts.vector.Goals as goal

pub returns : goal.returns
unfolding vector_of
returns c = ap (λ l. rec_word ++ l) (ap (or_dash _) c.then_some.ensures ∙ or_dash-then_some _ c.args.up _ ∙ ap (λ l. cond c.args.up l none_word) (vector_front c.args.n c.args.counts.now (omega arith)))
