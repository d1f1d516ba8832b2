use Rattle.std.proofs.Common.{◌∙◌, sym, refl, rules, tests}
use Rattle.std.proofs.lemmas.Iterator.{YieldsList-from_range}
use Rattle.std.proofs.lemmas.Iterator.Search.{all_from_yields_List}
use Rattle.election.specs.Sound.{place_in}
use Rattle.soundness.proofs.Elements.{all_to-range}
use Rattle.soundness.proofs.links_in.Goals as goal

pub returns : goal.returns
returns c =
    all_from_yields_List (place_in c.args.s.now) _ _ c.all.result c.all.ensures.ran (YieldsList-from_range 0 64 64 refl refl) (λ x b q k. search (rules, tests))
    ∙ sym (all_to-range 64 (place_in c.args.s.now))
