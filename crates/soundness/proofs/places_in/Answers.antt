use Rattle.std.proofs.Common.{ℕ, ◌∙◌, sym, rules, tests}
use Rattle.std.proofs.lemmas.Iterator.{YieldsList-from_slice}
use Rattle.std.proofs.lemmas.Iterator.Consumers.{YieldsList-from_enumerate}
use Rattle.std.proofs.lemmas.Iterator.Search.{all_from_yields_List}
use Rattle.lists.proofs.Places.{all_to-enumerated}
use lib.Dec.{ltb}
use Rattle.election.specs.Sound.{message_place}
use Rattle.election.specs.System.{no_message}
use Rattle.election.specs.declared.Message.{Message}
use Rattle.soundness.proofs.places_in.Goals as goal

pub returns : goal.returns
returns c =
    let s = c.args.s.now in
    let l = c.args.l.now in
    let test = λ (k : ℕ) (m : Message). message_place s.clock s.n s.period s.tick c.args.sender.now (ltb k l.used) m in
    all_from_yields_List (λ (p : ℕ × Message). test p.0 p.1) _ _ c.all.result c.all.ensures.ran (YieldsList-from_enumerate (YieldsList-from_slice l.messages (cc)) (search rules)) (λ x b q k. search (rules, tests))
    ∙ sym (all_to-enumerated test no_message l.messages 16 (search rules))
