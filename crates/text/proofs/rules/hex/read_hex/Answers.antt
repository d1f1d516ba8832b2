use Rattle.std.proofs.Common.{rules, arith, sym, ◌∙◌}
use mathlib.Core.Bool.{and-false}
use Rattle.text.proofs.HexText.{no_digit, one_digit, read_none, read_all, read_blank, read_lone, read_other, read_byte}
use Rattle.text.proofs.rules.hex.read_hex.Goals as goal

pub loop-rest-init : goal.loop-rest-init
loop-rest-init c = (search rules, read_none _ _)

pub loop-rest-preserved-then-is_blank : goal.loop-rest-preserved-then-is_blank
loop-rest-preserved-then-is_blank c = (search rules, read_blank c.loop-rest.invariant.1 c.in-len1-up.len_at_least (sym c.is_blank.ensures ∙ c.if-is_blank.true))

pub returns-in_default-clause-buffer_after : goal.returns-in_default-clause-buffer_after
returns-in_default-clause-buffer_after c = read_lone c.loop-rest.invariant.1 c.in_default.len_at_least (sym c.is_blank.ensures ∙ c.if-is_blank.false) (omega (arith, c.in_default.len_below))

pub returns-in_err-digit_of-in-len2-up-clause-buffer_after :
    goal.returns-in_err-digit_of-in-len2-up-clause-buffer_after
returns-in_err-digit_of-in-len2-up-clause-buffer_after c =
    let other = no_digit _ (c.in_err-digit_of-in-len2-up.ensures) in
    rw c.from_residual.ensures (read_other c.loop-rest.invariant.1 c.in-len1-up.len_at_least (sym c.is_blank.ensures ∙ c.if-is_blank.false) c.in-len2-up.len_at_least (rw other))

pub returns-in_err-buffer-in-len2-up-clause-buffer_after :
    goal.returns-in_err-buffer-in-len2-up-clause-buffer_after
returns-in_err-buffer-in-len2-up-clause-buffer_after c =
    let other = no_digit _ (c.in_err-buffer-in-len2-up.ensures) in
    rw c.from_residual-in_err-buffer-in-len2-up.ensures (read_other c.loop-rest.invariant.1 c.in-len1-up.len_at_least (sym c.is_blank.ensures ∙ c.if-is_blank.false) c.in-len2-up.len_at_least (rw other (and-false _)))

pub loop-rest-preserved : goal.loop-rest-preserved
loop-rest-preserved c =
    let (s, high) = one_digit _ (c.in_ok-digit_of-in-len2-up.ensures) in
    let (t, low) = one_digit _ (c.in_ok-buffer-in-len2-up.ensures) in
    (search rules, read_byte c.loop-rest.invariant.1 c.in-len1-up.len_at_least (sym c.is_blank.ensures ∙ c.if-is_blank.false) c.in-len2-up.len_at_least s t high low (omega arith))

pub returns-in-empty-clause-buffer_after : goal.returns-in-empty-clause-buffer_after
returns-in-empty-clause-buffer_after c = read_all c.loop-rest.invariant.1 (omega (arith, c.in-empty.len_below))
