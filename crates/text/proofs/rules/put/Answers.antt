use Rattle.std.proofs.Common.{refl, arith}
use lib.ListN.{length-set}
use Rattle.text.proofs.Parts.{wrote_none, wrote_take}
use Rattle.text.proofs.rules.put.Goals as goal

pub loop-i-init : goal.loop-i-init
loop-i-init c = record { same = refl; written = wrote_none _ }

pub loop-i-preserved : goal.loop-i-preserved
loop-i-preserved c =
    let i = c.loop-i.invariant in
    record {
      same = simp length-set i.same;
      written = wrote_take c.args.word.now 0 i.written (omega (arith, c.loop-i-test.true)) (omega (arith, c.loop-i-test.true, c.requires));
    }
