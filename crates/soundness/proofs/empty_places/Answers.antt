use Rattle.std.proofs.Common.{◌∙◌, sym, rules, tests}
use Rattle.std.proofs.lemmas.Iterator.{YieldsList-from_slice}
use Rattle.std.proofs.lemmas.Iterator.Search.{all_from_yields_List}
use Rattle.election.specs.Sound.{empty_message}
use Rattle.election.specs.System.{no_message}
use Rattle.soundness.proofs.Elements.{all_to-elements}
use Rattle.soundness.proofs.empty_places.Goals as goal

pub returns : goal.returns
returns c =
    all_from_yields_List empty_message _ _ c.all.result c.all.ensures.ran (YieldsList-from_slice c.args.l.now.messages (cc)) (λ x b q k. search (rules, tests))
    ∙ sym (all_to-elements empty_message no_message c.args.l.now.messages 16 (search rules))
