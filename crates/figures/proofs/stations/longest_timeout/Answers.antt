use Rattle.std.proofs.Common.{ℕ, ◌∙◌, sym, ap, refl, unwrap_or, rules}
use Rattle.std.proofs.lemmas.Iterator.{YieldsList-from_slice, YieldsList-from_map, YieldsList-from_take}
use Rattle.std.proofs.lemmas.Iterator.Adapters.{option_map_id}
use Rattle.std.proofs.lemmas.Iterator.Consumers.{YieldsList-from_enumerate, max_from_yields_List}
use Rattle.lists.proofs.Largest.{max_same}
use Rattle.election.specs.System.{no_station}
use Rattle.election.proofs.Places.{seat_at}
use Rattle.station.specs.declared.Station.{Station}
use Rattle.figures.specs.Pieces.{timeout_of, timeout_over}
use Rattle.figures.proofs.Loops.{largest-enumerated}
use Rattle.figures.proofs.stations.longest_timeout.Goals as goal

pub returns : goal.returns
unfolding timeout_over
returns c =
    let stations = c.args.stations.now in
    let all = YieldsList-from_enumerate {s = c.map.result.iter.iter} (YieldsList-from_slice {s = c.map.result.iter.iter.iter} stations (search rules)) (search rules) in
    let firsts = YieldsList-from_take {s = c.map.result.iter} c.args.n all (search rules) in
    c.unwrap_or.ensures ∙ ap (λ r. unwrap_or r 0) (sym (option_map_id c.max.result) ∙ max_from_yields_List c.map.result c.max.result c.max.ensures.ran (YieldsList-from_map _ (λ (p : ℕ × Station). timeout_of c.args.n p.0 p.1) firsts refl (λ x r q k. search rules)))
    ∙ largest-enumerated (timeout_of c.args.n) no_station (λ k. refl) stations c.args.n
    ∙ max_same c.args.n _ _ (λ k h. ap (timeout_of c.args.n k) (sym (seat_at stations k)))
