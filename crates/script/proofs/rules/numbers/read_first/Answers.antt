use mathlib.Core.Path.{◌≡◌, sym, ◌∙◌}
use Rattle.std.specs.Prelude.{Err}
use Rattle.fit.specs.Fit.{within}
use Rattle.fit.proofs.Tests.{within_of}
use borrow.Author.Rules.{rules}
use Rattle.script.proofs.Reading.{first-missing, first-unknown, first-outside, first-number}
use Rattle.script.proofs.Told.{there, not_there}
use Rattle.script.proofs.rules.numbers.read_first.Goals as goal

pub returns-in_err-word : goal.returns-in_err-word
returns-in_err-word c =
    let none = not_there _ _ _ _ c.ok_or.ensures.value c.in_err-word.was in
    let e : c.from_residual.result ≡ Err c.in_err-word.field-0.0 = search rules in
    rw (e, none.1) (first-missing _ _ c.args.text.now c.args.at (rw none.0 at c.word_at.ensures))

pub returns-in_err-number : goal.returns-in_err-number
returns-in_err-number c =
    let n = rw (there _ _ _ _ c.ok_or.ensures.value c.in_ok-word.was) at c.word_at.ensures in
    let none = not_there _ _ _ _ c.ok_or-2.ensures.value c.in_err-number.was in
    let e : c.from_residual-in_err-number.result ≡ Err c.in_err-number.field-0.0 = search rules in
    rw (e, none.1) (first-unknown _ _ n.0 n.1 (sym none.0 ∙ c.value_of.ensures))

pub returns-then-not-contains : goal.returns-then-not-contains
returns-then-not-contains c =
    let n = rw (there _ _ _ _ c.ok_or.ensures.value c.in_ok-word.was) at c.word_at.ensures in
    let some = there _ _ _ _ c.ok_or-2.ensures.value c.in_ok-number.was in
    let e : c.contains.result ≡ within c.args.least c.in_ok-number.number c.args.most = search rules in
    first-outside _ _ n.0 n.1 _ (sym some ∙ c.value_of.ensures) c.requires.0 (sym e ∙ c.if-not-contains.true)

pub returns : goal.returns
returns c =
    let n = rw (there _ _ _ _ c.ok_or.ensures.value c.in_ok-word.was) at c.word_at.ensures in
    let some = there _ _ _ _ c.ok_or-2.ensures.value c.in_ok-number.was in
    let e : c.contains.result ≡ within c.args.least c.in_ok-number.number c.args.most = search rules in
    let (low, high) = within_of _ _ _ (sym e ∙ c.if-not-contains.false) in
    first-number _ _ n.0 n.1 _ (sym some ∙ c.value_of.ensures) c.requires.0 low high
