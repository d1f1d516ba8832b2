use mathlib.Core.Path.{refl}
use Rattle.text.specs.Quoted.{text}
use Rattle.desk.specs.Figure.{waits}
use Rattle.desk.proofs.figure.waits.Goals as goal

pub returns : goal.returns
unfolding text waits
returns c = rw (c.from.ensures, c.from-2.ensures, c.from-3.ensures) refl
