use Rattle.std.proofs.Common.{sym, ◌∙◌}
use Rattle.std.proofs.KnownBytes.{Appends-nil}
use Rattle.frames.specs.Line.{printed}
use Rattle.frames.proofs.finish.Goals as goal

pub returns-then-not-has_begun-clause-taken : goal.returns-then-not-has_begun-clause-taken
unfolding printed
returns-then-not-has_begun-clause-taken g c = rw (sym c.has_begun.ensures ∙ c.if-not-has_begun.true) (Appends-nil (g.W.Write.contents c.args.writer.now))
