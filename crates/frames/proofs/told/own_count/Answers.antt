use mathlib.Core.Path.{sym, ◌∙◌}
use native.Mathlib.Omega.{arith}
use Rattle.frame.proofs.Lengths.{lengths}
use Rattle.frames.proofs.Own.{own-third, own-two}
use Rattle.frames.proofs.told.own_count.Goals as goal

pub bounds-bytes-2 : goal.bounds-bytes-2
bounds-bytes-2 c = let s = (lengths _).0 (sym c.is_length.ensures ∙ c.if-is_length.true) in omega (arith, s.is, s.low)

pub returns-then-is_length : goal.returns-then-is_length
returns-then-is_length c = own-third _ (sym c.is_length.ensures ∙ c.if-is_length.true)

pub returns-else-is_length : goal.returns-else-is_length
returns-else-is_length c = sym (own-two _ (sym c.is_length.ensures ∙ c.if-is_length.false))
