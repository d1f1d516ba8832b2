use mathlib.Core.Path.{refl}
use Rattle.settling.specs.Settling.{longest_wait, longest_timeout, up_heads}
use Rattle.figures.specs.Pieces.{wait_over, timeout_over, up_over}
use Rattle.figures.proofs.rules.figures.Goals as goal

pub returns : goal.returns
unfolding longest_wait longest_timeout up_heads wait_over timeout_over up_over
returns c = record {
  wait = c.longest_wait.ensures;
  timeout = c.longest_timeout.ensures;
  period = refl;
  heads = c.up_heads.ensures;
  leads = c.leader.ensures;
}
