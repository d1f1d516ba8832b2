use Rattle.std.proofs.Common.{rules, ◌≡◌, Err, sym, ◌∙◌}
use lib.Seq.{length-take-le}
use Rattle.tryout.proofs.Asking.{taken-some, read_ok, read_err, no_hex_lem, no_bytes, left_over, one-command}
use Rattle.tryout.proofs.command.read_command.Goals as goal

pub returns-in_err-size-clause-buffer_after : goal.returns-in_err-size-clause-buffer_after
returns-in_err-size-clause-buffer_after c =
    let none = read_err _ _ _ _ c.ok_or.ensures.value c.in_err-size.was in
    let e : c.from_residual.result ≡ Err c.in_err-size.field-0.0 = search rules in
    rw (e, none.1) (no_hex_lem _ (rw none.0 at c.read_hex.ensures.buffer_after))

pub returns-then-size-eq0-clause-buffer_after : goal.returns-then-size-eq0-clause-buffer_after
returns-then-size-eq0-clause-buffer_after c =
    let some = read_ok _ _ _ _ c.ok_or.ensures.value c.in_ok-size.was in
    no_bytes _ _ (rw some at c.read_hex.ensures.buffer_after) (length-take-le _ _ (rw some at c.read_hex.ensures.size_in_bounds) ∙ c.if-size-eq0.true)

pub returns-then-is_left_over-clause-buffer_after : goal.returns-then-is_left_over-clause-buffer_after
returns-then-is_left_over-clause-buffer_after c =
    let some = read_ok _ _ _ _ c.ok_or.ensures.value c.in_ok-size.was in
    left_over _ _ (rw some at c.read_hex.ensures.buffer_after) (taken-some _ _ (rw some at c.read_hex.ensures.size_in_bounds) c.if-size-eq0.false) (sym c.is_left_over.ensures ∙ c.if-is_left_over.true)

pub returns-clause-buffer_after : goal.returns-clause-buffer_after
returns-clause-buffer_after c =
    let some = read_ok _ _ _ _ c.ok_or.ensures.value c.in_ok-size.was in
    one-command _ _ (rw some at c.read_hex.ensures.buffer_after) (taken-some _ _ (rw some at c.read_hex.ensures.size_in_bounds) c.if-size-eq0.false) (sym c.is_left_over.ensures ∙ c.if-is_left_over.false)
