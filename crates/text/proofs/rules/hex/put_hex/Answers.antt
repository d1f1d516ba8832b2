use mathlib.Core.Path.{refl}
use native.Mathlib.Omega.{arith}
use lib.ListN.{length-set}
use borrow.Author.Rules.{rules}
use Rattle.text.specs.Hex.{spaced}
use Rattle.text.proofs.HexText.{length-spaced, wrote_spaced}
use Rattle.text.proofs.Parts.{wrote_none}
use Rattle.text.proofs.rules.hex.put_hex.Goals as goal

pub loop-b-init : goal.loop-b-init
unfolding spaced
loop-b-init c = (search rules, omega (arith, length-spaced c.args.bytes.now), refl, wrote_none _)

pub loop-b-preserved : goal.loop-b-preserved
loop-b-preserved c = let loop = c.loop-b in (
  search rules,
  simp length-set (omega arith),
  simp length-set (omega arith),
  rw (c.digit_for.ensures, c.digit_for-in-loop-b.ensures) (wrote_spaced _ loop.b-index loop.invariant.3 c.loop-b-test.true (omega arith)),
)
