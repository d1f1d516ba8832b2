use Rattle.std.proofs.Common.{arith}
use Rattle.text.proofs.Digits.{size-one, wrote_one}
use Rattle.text.proofs.rules.put_decimal.Goals as goal

pub bounds-buffer-0 : goal.bounds-buffer-0
bounds-buffer-0 c = omega (arith, size-one c.args.x c.if-x-lt10.true)

pub returns-then-x-lt10 : goal.returns-then-x-lt10
returns-then-x-lt10 c = wrote_one _ c.if-x-lt10.true c.requires
