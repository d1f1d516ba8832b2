use Rattle.std.proofs.Common.{◌∙◌, sym, ap, refl, unwrap_or, rules}
use Rattle.std.proofs.lemmas.Iterator.{YieldsList-from_slice, YieldsList-from_map, YieldsList-from_take}
use Rattle.std.proofs.lemmas.Iterator.Adapters.{option_map_id}
use Rattle.std.proofs.lemmas.Iterator.Consumers.{max_from_yields_List}
use Rattle.lists.proofs.Largest.{max_same}
use Rattle.election.specs.System.{no_station}
use Rattle.election.proofs.Places.{seat_at}
use Rattle.figures.specs.Pieces.{wait_of, wait_over}
use Rattle.figures.proofs.Loops.{largest-is}
use Rattle.figures.proofs.stations.longest_wait.Goals as goal

pub returns : goal.returns
unfolding wait_over
returns c =
    let stations = c.args.stations.now in
    let firsts = YieldsList-from_take {s = c.map.result.iter} c.args.n (YieldsList-from_slice {s = c.map.result.iter.iter} stations (search rules)) (search rules) in
    c.unwrap_or.ensures ∙ ap (λ r. unwrap_or r 0) (sym (option_map_id c.max.result) ∙ max_from_yields_List c.map.result c.max.result c.max.ensures.ran (YieldsList-from_map _ (wait_of c.args.tick) firsts refl (λ x r q k. search rules)))
    ∙ largest-is (wait_of c.args.tick) no_station refl stations c.args.n
    ∙ max_same c.args.n _ _ (λ k h. ap (wait_of c.args.tick) (sym (seat_at stations k)))
