-- The system that chance::chance hands on.
use Rattle.ticks.proofs.chance.chance.Given as goal

abbrev pub ghost-send : goal.ghost-send
ghost-send g a = g.heard
