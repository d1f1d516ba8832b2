use Rattle.tryout.specs.Told.{command_line}
use Rattle.text.proofs.Parts.{wrote_part, ends-in}
use Rattle.tryout.proofs.told.put_command.Goals as goal

pub overflow_add-result : goal.overflow_add-result
unfolding command_line
overflow_add-result c = let one = c.put_heading-a.ensures in let two = c.put_answer.ensures in let three = c.put.ensures in record { fits = ends-in (wrote_part (wrote_part one two) three) c.requires.1 c.well_formed.1.1.0.0 }

pub returns : goal.returns
unfolding command_line
returns c = let one = c.put_heading-a.ensures in let two = c.put_answer.ensures in let three = c.put.ensures in wrote_part (wrote_part one two) three
