use native.Mathlib.Omega.{arith}
use Rattle.script.specs.Split.{inside}
use Rattle.script.specs.declared.rules.words.Part.TheVariants.{Line}
use Rattle.script.proofs.Leads.{part_within}
use Rattle.script.proofs.Passing.{line_inside, line_last}
use Rattle.script.proofs.rules.assembling.line_at.Goals as goal

pub slice_bounds-read_line-end : goal.slice_bounds-read_line-end
slice_bounds-read_line-end c = part_within (inside Line) _ _ _ (omega (arith, c.requires)) c.end_of-end.ensures

pub returns-then-end-text : goal.returns-then-end-text
returns-then-end-text c = line_inside _ _ _ c.requires c.end_of-end.ensures c.read_line-line.ensures c.if-end-text.true

pub returns : goal.returns
returns c = line_last _ _ _ c.requires c.end_of-end.ensures c.read_line-line.ensures c.if-end-text.false
