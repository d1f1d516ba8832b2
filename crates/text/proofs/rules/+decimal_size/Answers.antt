use Rattle.std.proofs.Common.{arith}
use Rattle.text.proofs.Digits.{size-one, size-next, length-decimal}
use Rattle.text.proofs.rules.+decimal_size.Goals as goal

pub returns-then-x-lt10 : goal.returns-then-x-lt10
returns-then-x-lt10 t c = (size-one _ c.if-x-lt10.true, omega arith)

pub returns-else-x-lt10 : goal.returns-else-x-lt10
returns-else-x-lt10 t c =
    let e = size-next c.args.x c.ranges.x.fits c.if-x-lt10.false in (omega arith, omega (arith, length-decimal c.args.x))
