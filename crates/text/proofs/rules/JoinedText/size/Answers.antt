use Rattle.std.proofs.Common.{refl, rules, arith, ap, ◌∙◌}
use lib.ListN.{length}
use Rattle.lists.specs.Join.{join_to}
use Rattle.text.proofs.Parts.{join_size, join_below}
use Rattle.text.proofs.rules.JoinedText.size.Goals as goal

pub loop-place-init : goal.loop-place-init
unfolding join_to
loop-place-init g c = (search rules, refl)

pub size-size-requires : goal.size-size-requires
size-size-requires g c =
    let both = join_below (g.P.Pieces.piece c.args.self.now.0) c.loop-place.place _ (rw c.count-place-end.ensures at c.loop-place-test.true) c.requires c.loop-place.invariant.1 (ap length c.piece.ensures) in
    omega (arith, both)

pub overflow_add-size : goal.overflow_add-size
overflow_add-size g c =
    let both = join_below (g.P.Pieces.piece c.args.self.now.0) c.loop-place.place _ (rw c.count-place-end.ensures at c.loop-place-test.true) c.requires c.loop-place.invariant.1 (c.size-size.ensures ∙ ap length c.piece.ensures) in
    record { fits = omega (arith, both) }

pub loop-place-preserved : goal.loop-place-preserved
loop-place-preserved g c = (search rules, join_size _ _ c.loop-place.invariant.1 (c.size-size.ensures ∙ ap length c.piece.ensures))
