use Rattle.std.proofs.Common.{◌≡◌, ℕ, ◌+◌, ◌∙◌, sym, ap, refl, unwrap_or, rules}
use Rattle.std.proofs.lemmas.Iterator.{YieldsList-from_slice, YieldsList-from_map, YieldsList-from_take}
use Rattle.std.proofs.lemmas.Iterator.Adapters.{option_map_id}
use Rattle.std.proofs.lemmas.Iterator.Consumers.{YieldsList-from_enumerate, max_from_yields_List}
use Rattle.lists.proofs.Largest.{max_same}
use Rattle.std.proofs.Common.{Bool, true, false, cond, ◌-◌, get_or, arith}
use lib.Dec.{eqb}
use Rattle.figures.proofs.Loops.{largest-enumerated}
use Rattle.figures.proofs.stations.held_for.Goals as goal

same : (b : Bool) (z : ℕ) → cond b z z ≡ z
same true z = refl
same false z = refl

pub returns : goal.returns
returns c =
    let ts = c.args.timeouts.now in
    let k = c.args.k in
    let all = YieldsList-from_enumerate {s = c.map.result.iter.iter} (YieldsList-from_slice {s = c.map.result.iter.iter.iter} ts (search rules)) (search rules) in
    let firsts = YieldsList-from_take {s = c.map.result.iter} c.args.n all (search rules) in
    c.unwrap_or.ensures ∙ ap (λ r. unwrap_or r 0) (sym (option_map_id c.max.result) ∙ max_from_yields_List c.map.result c.max.result c.max.ensures.ran (YieldsList-from_map _ (λ (p : ℕ × ℕ). cond (eqb p.0 k) 0 p.1) firsts refl (λ x r q k. search rules)))
    ∙ largest-enumerated (λ i t. cond (eqb i k) 0 t) 0 (λ i. same (eqb i k) 0) ts c.args.n
    ∙ max_same c.args.n _ _ (λ i h. (let e : i ≡ i + 1 - 1 = omega arith in ap (λ j. cond (eqb i k) 0 (get_or ts j 0)) e))
