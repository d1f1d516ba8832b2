use borrow.Author.Tests.{eq-eqb, ne_eqb}
use Rattle.text.specs.Quoted.{text}
use Rattle.words.specs.Doings.{linking}
use Rattle.words.proofs.rules.doings.put_link.Goals as goal

pub returns-then-d-eq0 : goal.returns-then-d-eq0
unfolding text linking
returns-then-d-eq0 c = rw (eq-eqb _ _ c.if-d-eq0.true) (rw (c.named.ensures, c.named-to.ensures) at c.put.ensures)

pub returns-else-d-eq0 : goal.returns-else-d-eq0
unfolding text linking
returns-else-d-eq0 c = rw (ne_eqb _ _ c.if-d-eq0.false) (rw (c.named-else-d-eq0.ensures, c.named-to.ensures, c.named-else-d-eq0-2.ensures) at c.put-else-d-eq0.ensures)
