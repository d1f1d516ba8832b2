use Rattle.text.specs.Quoted.{text}
use Rattle.tryout.proofs.Telling.{first_taken}
use Rattle.tryout.specs.Told.{heading}
use Rattle.text.proofs.Parts.{wrote_part}
use Rattle.tryout.proofs.told.put_heading.Goals as goal

pub returns : goal.returns
unfolding text heading
returns c = let one = c.put-a.ensures in let two = rw (first_taken c.args.bytes.now c.first_size-size.result c.first_size-size.ensures) at c.put_hex.ensures in let three = c.put.ensures in wrote_part (wrote_part one two) three
