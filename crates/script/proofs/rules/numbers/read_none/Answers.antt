use Rattle.script.proofs.Reading.{none_more, one_more}
use Rattle.script.proofs.rules.numbers.read_none.Goals as goal

pub returns-in-None : goal.returns-in-None
returns-in-None c = none_more _ _ c.args.text.now c.args.at c.in-None.ensures

pub returns-in-Some : goal.returns-in-Some
returns-in-Some c = one_more _ _ c.in-Some.ensures.0 c.in-Some.ensures.1
