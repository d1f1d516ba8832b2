use mathlib.Core.Path.{◌≡◌, sym, ◌∙◌}
use Rattle.std.specs.Prelude.{Err}
use borrow.Author.Rules.{rules}
use Rattle.script.proofs.LineRead.{has_word, no_word, suited, reads_nothing, reads-unknown, reads-wrong, reads_made}
use Rattle.script.proofs.Told.{there, not_there}
use Rattle.script.proofs.rules.lines.read_words.Goals as goal

pub returns-then-is_none : goal.returns-then-is_none
returns-then-is_none c = reads_nothing _ (no_word _ _ c.word_at.ensures (c.if-is_none.ensures {u = tt}))

pub made-requires : goal.made-requires
made-requires c = suited c.entry_at-e.ensures _ (sym (c.in_ok-numbers.was {u = tt}) ∙ c.read_numbers.ensures)

pub returns-in_err-found : goal.returns-in_err-found
returns-in_err-found c =
    let none = not_there _ _ _ _ c.ok_or.ensures.value c.in_err-found.was in
    let e : c.from_residual.result ≡ Err c.in_err-found.field-0.0 = search rules in
    rw (e, none.1) (reads-unknown (has_word _ c.word_at.ensures (c.if-is_none.ensures {u = tt})) (rw none.0 at c.find.ensures))

pub returns-in_err-numbers : goal.returns-in_err-numbers
returns-in_err-numbers c =
    let found = there _ _ _ _ c.ok_or.ensures.value c.in_ok-found.was in
    let e : c.from_residual-in_err-numbers.result ≡ Err c.in_err-numbers.field-0.0 = search rules in
    rw e (reads-wrong (has_word _ c.word_at.ensures (c.if-is_none.ensures {u = tt})) (rw found at c.find.ensures) c.entry_at-e.ensures c.read_numbers.ensures _ (c.in_err-numbers.was {u = tt}))

pub returns : goal.returns
returns c =
    let found = there _ _ _ _ c.ok_or.ensures.value c.in_ok-found.was in
    reads_made (has_word _ c.word_at.ensures (c.if-is_none.ensures {u = tt})) (rw found at c.find.ensures) c.entry_at-e.ensures c.read_numbers.ensures _ (c.in_ok-numbers.was {u = tt}) _ c.made.ensures
