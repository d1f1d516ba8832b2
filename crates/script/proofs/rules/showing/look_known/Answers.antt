use mathlib.Core.Path.{◌≡◌, sym, ◌∙◌}
use native.Mathlib.Omega.{arith}
use lib.ListN.{length}
use borrow.Author.Tests.{lt-ltb, le-ltb}
use Rattle.election.specs.Commands.{decode, operands}
use Rattle.decision.proofs.Bytes.{width_of}
use Rattle.script.specs.Pieces.{found_known}
use Rattle.script.specs.Shown.{line_of}
use Rattle.script.proofs.rules.showing.look_known.Goals as goal

pub returns-then-bytes-w : goal.returns-then-bytes-w
unfolding found_known
returns-then-bytes-w c = let bytes = c.args.bytes.now in let e : operands (decode bytes) ≡ c.width-w.result = width_of bytes ∙ sym c.width-w.ensures in rw (le-ltb (operands (decode bytes)) (length bytes) (omega (arith, e)))

pub returns-then-is_idle : goal.returns-then-is_idle
unfolding found_known
returns-then-is_idle c = let bytes = c.args.bytes.now in let e : operands (decode bytes) ≡ c.width-w.result = width_of bytes ∙ sym c.width-w.ensures in rw (lt-ltb (operands (decode bytes)) (length bytes) (omega (arith, e)), sym c.is_idle.ensures ∙ c.if-is_idle.true)

pub returns-then-left-size : goal.returns-then-left-size
unfolding found_known
returns-then-left-size c = let bytes = c.args.bytes.now in let e : operands (decode bytes) ≡ c.width-w.result = width_of bytes ∙ sym c.width-w.ensures in rw (lt-ltb (operands (decode bytes)) (length bytes) (omega (arith, e)), sym c.is_idle.ensures ∙ c.if-is_idle.false, lt-ltb c.args.left (length (line_of (decode bytes))) (omega (arith, c.line_size-size.ensures.0)))

pub returns : goal.returns
unfolding found_known
returns c = let bytes = c.args.bytes.now in let e : operands (decode bytes) ≡ c.width-w.result = width_of bytes ∙ sym c.width-w.ensures in rw (lt-ltb (operands (decode bytes)) (length bytes) (omega (arith, e)), sym c.is_idle.ensures ∙ c.if-is_idle.false, le-ltb c.args.left (length (line_of (decode bytes))) (omega (arith, c.line_size-size.ensures.0)), e, c.line_size-size.ensures.0)
