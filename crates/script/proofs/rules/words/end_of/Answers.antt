use Rattle.std.proofs.Common.{◌≡◌, true, false, List, ℕ, ◌+◌, ◌-◌, length, take, drop, refl, sym, ap, ◌∙◌, rules, arith}
use Rattle.std.proofs.lemmas.Iterator.{YieldsList-from_slice, IsFirst-from_position, index_from_first}
use lib.Seq.{take_all}
use lib.ListN.{length-drop}
use Rattle.script.specs.Split.{inside, lead}
use Rattle.script.proofs.rules.words.end_of.Goals as goal

pub returns : goal.returns
unfolding lead
returns c =
    let text = c.args.text.now in
    let lent : take (length text - c.args.from) (drop c.args.from text) ≡ drop c.args.from text = take_all (length text - c.args.from) (drop c.args.from text) (omega (arith, length-drop c.args.from text)) in
    let first = IsFirst-from_position _ _ c.position-size.result (λ (x : ℕ). inside c.args.part x ≡ false) (λ (x : ℕ). inside c.args.part x ≡ true) c.position-size.ensures.ran (YieldsList-from_slice (take (length text - c.args.from) (drop c.args.from text)) (cc)) (λ x q k. search rules) (λ x q k. search rules) in
    let size : length (lead (inside c.args.part) (take (length text - c.args.from) (drop c.args.from text))) ≡ c.unwrap_or.result =
    index_from_first (λ (l : List ℕ). length (lead (inside c.args.part) l)) (λ (x : ℕ). inside c.args.part x ≡ false) (λ (x : ℕ). inside c.args.part x ≡ true) refl (λ x l e. rw e) (λ x l e. rw e (omega arith)) (take (length text - c.args.from) (drop c.args.from text)) c.position-size.result first ∙ sym c.unwrap_or.ensures in
    ap (λ (n : ℕ). c.args.from + n) (sym size ∙ ap (λ (l : List ℕ). length (lead (inside c.args.part) l)) lent)
