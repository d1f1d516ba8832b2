use mathlib.Core.Path.{sym, subst}
use native.Mathlib.Omega.{arith}
use Rattle.script.specs.Assembled.{of_line, of_words}
use Rattle.script.specs.Meanings.{Reads}
use Rattle.script.specs.Split.{words}
use lib.Seq.{length-take-le}
use Rattle.script.specs.Split.{inside}
use Rattle.script.specs.declared.rules.words.Part.TheVariants.{Uncommented}
use Rattle.script.proofs.Leads.{part_within, part_front}
use Rattle.script.proofs.rules.lines.read_line.Goals as goal

pub slice_bounds-read_words-end : goal.slice_bounds-read_words-end
slice_bounds-read_words-end c = sym (length-take-le _ _ (part_within (inside Uncommented) _ 0 _ (omega arith) c.end_of-end.ensures))

pub returns : goal.returns
unfolding of_line
returns c = subst (λ l. Reads c.read_words.result (of_words (words l))) (part_front (inside Uncommented) _ _ c.end_of-end.ensures) c.read_words.ensures
