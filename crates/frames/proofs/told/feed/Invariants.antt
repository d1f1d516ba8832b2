use Rattle.frames.proofs.Going.{Stands}
use Rattle.frames.proofs.told.feed.Given as goal

abbrev pub invariant-loop-c : goal.invariant-loop-c
invariant-loop-c l = Stands l.initial.line l.bytes l.initial.buffer l.c-index l.line l.at l.buffer
