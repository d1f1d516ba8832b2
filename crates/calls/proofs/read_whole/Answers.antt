use Rattle.std.proofs.Common.{◌≡◌, ◌≤◌, ◌-◌, length, drop, take, arith, length-drop, length-take-le, subst, sym, ◌∙◌}
use Rattle.std.specs.Io.KnownBytes.{Consumes}
use Rattle.std.proofs.KnownBytes.{Consumes-trans}
use borrow.Rule.Slice.PartMut.{same_len_mid}
use Rattle.calls.proofs.Moves.{take-put_part}
use Rattle.calls.proofs.read_whole.Goals as goal

pub loop-at-preserved : goal.loop-at-preserved
loop-at-preserved g c =
    let at = c.loop-at in
    let same : length c.read.new.buf ≡ length (take (length at.buffer - at.at) (drop at.at at.buffer)) = c.read.auto.buf in
    let here : c.in-Ok.n ≤ length c.read.new.buf = omega (arith, c.in-Ok.ensures.bound) in
    record {
      inside = omega (arith, c.in-Ok.ensures.bound.0, length-drop at.at at.buffer, length-take-le (length at.buffer - at.at) (drop at.at at.buffer), same_len_mid at.at (length at.buffer - at.at) at.buffer c.read.new.buf same);
      same = same_len_mid _ _ _ _ same ∙ at.invariant.same;
      came = subst (Consumes _ _) (sym (take-put_part _ _ _ _ _ at.invariant.inside here)) (Consumes-trans _ _ _ _ _ at.invariant.came c.in-Ok.ensures.bytes.0);
    }
