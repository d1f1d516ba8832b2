use mathlib.Core.Path.{◌≡◌}
use Prim.Native.Nat.{◌/◌, ◌%◌}
use native.Mathlib.Omega.{arith}
use Rattle.script.specs.Encoded.{encode}
use Rattle.script.proofs.rules.lines.put_run.Goals as goal

pub put-requires : goal.put-requires
unfolding encode
put-requires c = c.requires

pub returns : goal.returns
unfolding encode
returns c =
    let high : c.args.t / 256 % 256 ≡ c.args.t / 256 = omega (arith, c.ranges.t.fits) in
    rw (c.to_le_bytes.ensures, high) at c.put.ensures
