use Rattle.text.specs.Quoted.{text}
use Rattle.tryout.specs.Pieces.{after_shown}
use Rattle.text.proofs.Parts.{wrote_part}
use Rattle.tryout.proofs.told.put_after.Goals as goal

pub returns : goal.returns
unfolding text after_shown
returns c = let one = c.put-at.ensures in let two = c.put_shown.ensures in wrote_part one two
