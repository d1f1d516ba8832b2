use mathlib.Core.Path.{refl}
use Rattle.text.specs.Quoted.{text}
use Rattle.desk.specs.Figure.{promise}
use Rattle.desk.proofs.figure.promise.Goals as goal

pub returns : goal.returns
unfolding text promise
returns c = rw c.from.ensures refl
