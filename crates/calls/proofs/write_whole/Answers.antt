use Rattle.std.proofs.Common.{arith, length-drop, subst, ◌≤◌, ◌-◌, length}
use Rattle.std.specs.Io.KnownBytes.{Appends}
use Rattle.std.proofs.KnownBytes.{Appends-trans}
use Rattle.calls.proofs.Moves.{take-take_drop}
use Rattle.calls.proofs.write_whole.Goals as goal

pub loop-at-preserved : goal.loop-at-preserved
loop-at-preserved g c =
    let room : c.in-Ok.n ≤ length c.args.text.now - c.loop-at.at = omega (arith, c.in-Ok.ensures.bound, length-drop c.loop-at.at c.args.text.now) in
    record {
      inside = omega arith;
      taken = subst (Appends _ _) (take-take_drop c.args.text.now c.loop-at.at c.in-Ok.n c.loop-at.invariant.inside room) (Appends-trans _ _ _ _ _ c.loop-at.invariant.taken c.in-Ok.ensures.bytes);
    }
