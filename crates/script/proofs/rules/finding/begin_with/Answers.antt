use mathlib.Core.Path.{◌≡◌}
use Rattle.std.specs.Prelude.{None}
use borrow.Author.Rules.{rules}
use Rattle.script.proofs.Chosen.{begun_all, begun_short, begun_other, begun_next}
use Rattle.script.proofs.rules.finding.begin_with.Goals as goal

pub returns-in_default : goal.returns-in_default
returns-in_default c = begun_all c.loop-n.invariant (c.in_default.ensures {u = tt})

pub returns-in_err-w : goal.returns-in_err-w
returns-in_err-w c =
    let e : c.from_residual.result ≡ None = search rules in
    rw e (begun_short c.loop-n.invariant c.in-Some.ensures c.in_err-w.ensures)

pub returns-then-not-same : goal.returns-then-not-same
returns-then-not-same c = begun_other c.loop-n.invariant c.in-Some.ensures c.in_ok-w.ensures c.same.ensures c.if-not-same.true

pub loop-n-preserved : goal.loop-n-preserved
loop-n-preserved c = begun_next c.loop-n.invariant c.in-Some.ensures c.in_ok-w.ensures c.same.ensures c.if-not-same.false
