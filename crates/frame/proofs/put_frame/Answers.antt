use Rattle.std.proofs.Common.{◌≡◌, ◌∙◌, ◌/◌, ◌%◌, arith, rules, get_or}
use lib.ListN.{length-set}
use lib.Seq.{take_all}
use Rattle.frame.specs.Frame.{body, frame}
use Rattle.frame.proofs.Body.{frame-turn}
use Rattle.frame.proofs.Front.{three-over, over-three}
use Rattle.frame.proofs.put_frame.Goals as goal

pub loop-k-init : goal.loop-k-init
unfolding body frame
loop-k-init c =
    record { room = simp length-set c.requires; size = search rules; laid = three-over 16 c.args.sender c.args.n c.args.buffer.now (omega arith) }

pub loop-k-preserved : goal.loop-k-preserved
loop-k-preserved c =
    let high : get_or c.args.counts.now c.loop-k.k 0 / 256 % 256 ≡ get_or c.args.counts.now c.loop-k.k 0 / 256 = omega (arith, c.type_inv.counts c.loop-k.k) in
    record {
      room = c.loop-k.invariant.room;
      size = (simp length-set) ∙ c.loop-k.invariant.size;
      laid = rw (c.to_le_bytes.ensures, high) (frame-turn _ _ _ _ _ _ c.loop-k-test.true c.loop-k.invariant.room c.loop-k.invariant.laid);
    }

pub returns : goal.returns
unfolding frame
returns c = (rw (take_all c.loop-k.k c.args.counts.now (omega arith)) at c.loop-k.invariant.laid) ∙ over-three _ _ _ _ _ (omega arith)
