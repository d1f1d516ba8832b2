use native.Mathlib.Omega.{arith}
use Rattle.script.specs.Split.{inside}
use Rattle.script.specs.declared.rules.words.Part.TheVariants.{Blanks}
use Rattle.script.proofs.Leads.{part_within, next_word}
use Rattle.script.proofs.rules.words.word_at.Goals as goal

pub end_of-end-requires : goal.end_of-end-requires
end_of-end-requires c = part_within (inside Blanks) _ _ _ c.requires c.end_of-start.ensures

pub returns-then-start-end : goal.returns-then-start-end
returns-then-start-end c = (next_word _ _ _ _ c.requires c.end_of-start.ensures c.end_of-end.ensures).none c.if-start-end.true

pub returns : goal.returns
returns c = let n = next_word _ _ _ _ c.requires c.end_of-start.ensures c.end_of-end.ensures in (n, omega (arith, n.order, c.if-start-end.false))
