use mathlib.Core.Path.{refl}
use native.Mathlib.Omega.{arith}
use borrow.Author.Tests.{eq-eqb, ne_eqb}
use Rattle.election.specs.Commands.{decode}
use Rattle.script.specs.Shown.{entry_of, numbers_of}
use Rattle.script.proofs.Worded.{phrased, report-else}
use Rattle.script.proofs.rules.written.phrase_of.Goals as goal

pub returns-then-z-eq0 : goal.returns-then-z-eq0
unfolding decode entry_of numbers_of
returns-then-z-eq0 c = phrased c.args.bytes.now c.number_at-b.ensures.0 c.number_at-x.ensures.0 c.number_at-y.ensures.0 c.number_at-z.ensures.0 (rw c.in-4.is (record { place = rw (eq-eqb _ _ c.if-z-eq0.true) refl; three = refl; numbers = rw (eq-eqb _ _ c.if-z-eq0.true) refl }))

pub returns-in-1 : goal.returns-in-1
unfolding decode entry_of numbers_of
returns-in-1 c = phrased c.args.bytes.now c.number_at-b.ensures.0 c.number_at-x.ensures.0 c.number_at-y.ensures.0 c.number_at-z.ensures.0 (rw c.in-1.is (record { place = refl; three = refl; numbers = refl }))

pub returns-in-2 : goal.returns-in-2
unfolding decode entry_of numbers_of
returns-in-2 c = phrased c.args.bytes.now c.number_at-b.ensures.0 c.number_at-x.ensures.0 c.number_at-y.ensures.0 c.number_at-z.ensures.0 (rw c.in-2.is (record { place = refl; three = refl; numbers = refl }))

pub returns-in-3 : goal.returns-in-3
unfolding decode entry_of numbers_of
returns-in-3 c = phrased c.args.bytes.now c.number_at-b.ensures.0 c.number_at-x.ensures.0 c.number_at-y.ensures.0 c.number_at-z.ensures.0 (rw c.in-3.is (record { place = refl; three = refl; numbers = refl }))

pub returns-else-z-eq0 : goal.returns-else-z-eq0
unfolding decode entry_of numbers_of
returns-else-z-eq0 c = phrased c.args.bytes.now c.number_at-b.ensures.0 c.number_at-x.ensures.0 c.number_at-y.ensures.0 c.number_at-z.ensures.0 (rw c.in-4.is (record { place = rw (ne_eqb _ _ c.if-z-eq0.false) refl; three = refl; numbers = rw (ne_eqb _ _ c.if-z-eq0.false) refl }))

pub returns-in-5 : goal.returns-in-5
unfolding decode entry_of numbers_of
returns-in-5 c = phrased c.args.bytes.now c.number_at-b.ensures.0 c.number_at-x.ensures.0 c.number_at-y.ensures.0 c.number_at-z.ensures.0 (rw c.in-5.is (record { place = refl; three = refl; numbers = refl }))

pub returns-in-6 : goal.returns-in-6
unfolding decode entry_of numbers_of
returns-in-6 c = phrased c.args.bytes.now c.number_at-b.ensures.0 c.number_at-x.ensures.0 c.number_at-y.ensures.0 c.number_at-z.ensures.0 (rw c.in-6.is (record { place = refl; three = refl; numbers = refl }))

pub returns-in-8 : goal.returns-in-8
unfolding decode entry_of numbers_of
returns-in-8 c = phrased c.args.bytes.now c.number_at-b.ensures.0 c.number_at-x.ensures.0 c.number_at-y.ensures.0 c.number_at-z.ensures.0 (rw c.in-8.is (record { place = refl; three = refl; numbers = refl }))

pub returns-in-9 : goal.returns-in-9
unfolding decode entry_of numbers_of
returns-in-9 c = phrased c.args.bytes.now c.number_at-b.ensures.0 c.number_at-x.ensures.0 c.number_at-y.ensures.0 c.number_at-z.ensures.0 (rw c.in-9.is (record { place = refl; three = refl; numbers = refl }))

pub returns-in_default : goal.returns-in_default
unfolding decode entry_of numbers_of
returns-in_default c =
    let b = c.number_at-b.result in
    phrased c.args.bytes.now c.number_at-b.ensures.0 c.number_at-x.ensures.0 c.number_at-y.ensures.0 c.number_at-z.ensures.0
    (rw (report-else b _ _ _ (omega arith) (omega arith) (omega arith) (omega arith) (omega arith) (omega arith) (omega arith) (omega arith))
    (record { place = refl; three = refl; numbers = refl }))
