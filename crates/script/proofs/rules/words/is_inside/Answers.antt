use Rattle.script.specs.Split.{inside}
use Rattle.script.proofs.rules.words.is_inside.Goals as goal

pub returns-in-Blanks : goal.returns-in-Blanks
unfolding inside
returns-in-Blanks c = rw c.in-Blanks.is c.is_blank.ensures

pub returns-in-Word : goal.returns-in-Word
unfolding inside
returns-in-Word c = rw (c.in-Word.is, c.is_blank-in-Word.ensures)

pub returns-in-Uncommented : goal.returns-in-Uncommented
unfolding inside
returns-in-Uncommented c = rw c.in-Uncommented.is

pub returns-in-Line : goal.returns-in-Line
unfolding inside
returns-in-Line c = rw c.in-Line.is
