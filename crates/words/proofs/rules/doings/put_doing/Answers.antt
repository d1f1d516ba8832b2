use Rattle.text.specs.Quoted.{text}
use Rattle.words.specs.Doings.{doing}
use Rattle.words.proofs.rules.doings.put_doing.Goals as goal

pub returns-in-Lose : goal.returns-in-Lose
unfolding text doing
returns-in-Lose c = rw c.in-Lose.is (rw (c.named-in-Lose.ensures, c.named-in-Lose-2.ensures) at c.put-in-Lose.ensures)

pub returns-in-Report : goal.returns-in-Report
unfolding text doing
returns-in-Report c = rw c.in-Report.is c.put-in-Report.ensures

pub returns-in-Rank : goal.returns-in-Rank
unfolding text doing
returns-in-Rank c = rw c.in-Rank.is (rw (c.named-in-Rank.ensures, c.named-in-Rank-2.ensures) at c.put-in-Rank.ensures)
