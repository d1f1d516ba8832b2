use Rattle.std.proofs.Common.{Bool, sym, ◌∙◌, eqb, rules, tests}
use Rattle.std.proofs.lemmas.Iterator.{YieldsList-from_slice}
use Rattle.std.proofs.lemmas.Iterator.Search.{all_from_yields_List}
use Rattle.station.specs.declared.Station.{Station}
use Rattle.election.specs.System.{no_station}
use Rattle.decision.proofs.Started.{all_to-list}
use Rattle.decision.proofs.none_started.Goals as goal

pub returns : goal.returns
returns c =
    let test : Station → Bool = λ x. eqb x.incarnation 0 in
    all_from_yields_List test _ _ c.all.result c.all.ensures.ran (YieldsList-from_slice c.args.stations.now (cc)) (λ x b q k. search (rules, tests))
    ∙ sym (all_to-list test no_station c.args.stations.now 8 c.told-stations)
