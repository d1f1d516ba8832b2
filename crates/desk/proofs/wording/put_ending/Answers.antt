use native.Mathlib.Omega.{arith}
use borrow.Author.Tests.{ne_eqb}
use Rattle.text.specs.Quoted.{text}
use Rattle.election.specs.Commands.{number_of}
use Rattle.decision.proofs.Decisions.{numbered}
use Rattle.desk.specs.Wording.{ending}
use Rattle.desk.proofs.wording.put_ending.Goals as goal

pub put-requires : goal.put-requires
unfolding text ending
put-requires c = omega (arith, rw c.in-Ok.is at c.requires.2)

pub put_refused_in-requires : goal.put_refused_in-requires
unfolding text ending
put_refused_in-requires c = rw (ne_eqb (number_of c.in-Err.field-0.refusal) 0 (numbered c.in-Err.field-0.refusal)) at (rw c.in-Err.is at c.requires.2)

pub returns-in-Ok : goal.returns-in-Ok
unfolding text ending
returns-in-Ok c = rw c.in-Ok.is c.put.ensures

pub returns-in-Err : goal.returns-in-Err
unfolding text ending
returns-in-Err c = rw (c.in-Err.is, ne_eqb (number_of c.in-Err.field-0.refusal) 0 (numbered c.in-Err.field-0.refusal)) c.put_refused_in.ensures
