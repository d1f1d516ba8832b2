use Rattle.std.proofs.Common.{◌∙◌, sym, ap, refl, rules}
use Rattle.std.proofs.lemmas.Iterator.{YieldsList-from_slice, YieldsList-from_take}
use Rattle.std.proofs.lemmas.Iterator.Consumers.{YieldsList-from_filter, count_from_yields_List}
use Rattle.lists.proofs.Count.{count_same}
use Rattle.election.specs.System.{no_station}
use Rattle.election.proofs.Places.{seat_at}
use Rattle.station.specs.declared.Station.{Station}
use Rattle.figures.specs.Pieces.{up_over}
use Rattle.figures.proofs.Loops.{counted-is}
use Rattle.figures.proofs.stations.up_heads.Goals as goal

pub returns : goal.returns
unfolding up_over
returns c =
    let stations = c.args.stations.now in
    let firsts = YieldsList-from_take {s = c.filter.result.iter} c.args.n (YieldsList-from_slice {s = c.filter.result.iter.iter} stations (search rules)) (search rules) in
    count_from_yields_List c.filter.result c.count.result c.count.ensures.ran (YieldsList-from_filter _ (λ (x : Station). x.up) firsts refl (λ x b q k. search rules))
    ∙ counted-is (λ (x : Station). x.up) no_station refl stations c.args.n
    ∙ count_same c.args.n _ _ (λ k h. ap (λ (x : Station). x.up) (sym (seat_at stations k)))
