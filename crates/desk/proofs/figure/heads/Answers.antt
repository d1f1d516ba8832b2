use mathlib.Core.Path.{refl}
use Rattle.text.specs.Quoted.{text}
use Rattle.desk.specs.Figure.{heads}
use Rattle.desk.proofs.figure.heads.Goals as goal

pub returns : goal.returns
unfolding text heads
returns c = rw (c.from.ensures, c.from-2.ensures) refl
