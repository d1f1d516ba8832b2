use Rattle.std.proofs.Common.{◌≡◌, ◌∙◌, ◌-◌, sym, length, rules, tests, arith}
use Rattle.std.proofs.iter.Yields.{fronts}
use Rattle.std.proofs.lemmas.Iterator.{YieldsList, YieldsList-from_slice, YieldsList-from_zip, YieldsList-from_take}
use Rattle.std.proofs.lemmas.Iterator.Adapters.{YieldsList-from_skip}
use Rattle.std.proofs.lemmas.Iterator.Search.{all_from_yields_List}
use Rattle.election.specs.Sound.{apart}
use Rattle.election.specs.System.{no_message, places}
use Rattle.election.specs.declared.Message.{Message}
use Rattle.soundness.proofs.Elements.{all_to-pairs}
use Rattle.soundness.proofs.ordered.Goals as goal

pub returns : goal.returns
returns c =
    let l = c.args.l.now in
    let test = λ (x y : Message). apart c.args.period x y in
    let long : length l.messages ≡ places = search rules in
    let first : YieldsList fronts (λ y. y.now) c.take.result.iter.a l.messages = YieldsList-from_slice l.messages (search rules) in
    let next = YieldsList-from_skip {s = c.take.result.iter.b} 1 (YieldsList-from_slice {s = c.take.result.iter.b.iter} l.messages (search rules)) (search rules) in
    let pairs = YieldsList-from_take {s = c.take.result} (l.used - 1) (YieldsList-from_zip {s = c.take.result.iter} first next) (search rules) in
    all_from_yields_List (λ (p : Message × Message). test p.0 p.1) c.all.new.self _ c.all.result c.all.ensures.ran pairs (λ x b q k. search (rules, tests))
    ∙ sym (all_to-pairs test no_message l.messages l.used (omega (arith, c.requires)) places c.requires)
