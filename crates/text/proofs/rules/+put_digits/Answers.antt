use Rattle.std.proofs.Common.{◌/◌, arith}
use Rattle.text.proofs.Digits.{size-one, size-next, length-decimal, wrote_one, wrote_next}
use Rattle.text.proofs.rules.+put_digits.Goals as goal

pub bounds-buffer-0 : goal.bounds-buffer-0
bounds-buffer-0 t c = omega (arith, size-one c.args.x c.if-x-lt10.true)

pub returns-then-x-lt10 : goal.returns-then-x-lt10
returns-then-x-lt10 t c = wrote_one _ c.if-x-lt10.true c.requires

pub put_digits-at-requires : goal.put_digits-at-requires
put_digits-at-requires t c = (omega arith, omega (arith, size-next c.args.x c.ranges.x.fits c.if-x-lt10.false))

pub bounds-buffer-at : goal.bounds-buffer-at
bounds-buffer-at t c = omega (arith, size-next c.args.x c.ranges.x.fits c.if-x-lt10.false)

pub overflow_add-result : goal.overflow_add-result
overflow_add-result t c = omega (arith, length-decimal (c.args.x / 10))

pub returns : goal.returns
returns t c = wrote_next c.args.x c.ranges.x.fits c.if-x-lt10.false c.requires c.put_digits-at.ensures
