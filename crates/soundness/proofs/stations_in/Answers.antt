use Rattle.std.proofs.Common.{◌∙◌, sym, refl, rules, tests}
use Rattle.std.proofs.lemmas.Iterator.{YieldsList-from_range}
use Rattle.std.proofs.lemmas.Iterator.Search.{all_from_yields_List}
use Rattle.election.specs.Sound.{station_in}
use Rattle.soundness.proofs.Elements.{all_to-range}
use Rattle.soundness.proofs.stations_in.Goals as goal

pub returns : goal.returns
returns c =
    all_from_yields_List (station_in c.args.s.now) _ _ c.all.result c.all.ensures.ran (YieldsList-from_range 0 8 8 refl refl) (λ x b q k. search (rules, tests))
    ∙ sym (all_to-range 8 (station_in c.args.s.now))
