use mathlib.Core.Path.{ap, sym, ◌∙◌}
use Rattle.frame.specs.Reading.{Reading}
use Rattle.frames.proofs.Chosen.{leader_text, stamp-text}
use Rattle.frames.proofs.Own.{at-most_eight}
use Rattle.frames.proofs.told.put_frame.Goals as goal

pub put_stamp_answer-requires : goal.put_stamp_answer-requires
put_stamp_answer-requires c = rw c.read.ensures (rw (stamp-text _ (sym c.is_stamp.ensures ∙ c.if-is_stamp.true)) at c.requires)

pub returns-then-is_stamp : goal.returns-then-is_stamp
returns-then-is_stamp c = rw (stamp-text _ (sym c.is_stamp.ensures ∙ c.if-is_stamp.true)) (rw c.read.ensures at c.put_stamp_answer.ensures)

pub put_answer-requires : goal.put_answer-requires
put_answer-requires c = let is = c.read-2.ensures in (
  (λ e. at-most_eight _ _ (sym (ap (λ (r : Reading). r.refusal) is) ∙ e)),
  rw (is, c.own_count-n.ensures) (rw (leader_text _ (sym c.is_stamp.ensures ∙ c.if-is_stamp.false)) at c.requires),
)

pub returns : goal.returns
returns c = rw (leader_text _ (sym c.is_stamp.ensures ∙ c.if-is_stamp.false)) (rw (c.read-2.ensures, c.own_count-n.ensures) at c.put_answer.ensures)
