use Rattle.std.proofs.Common.{[], ◌∷◌, refl}
use Rattle.lists.specs.Test.{all_to}
use Rattle.frame.proofs.Lengths.{any_is_length}
use Rattle.frame.proofs.is_length.Goals as goal

pub returns : goal.returns
unfolding all_to
returns c = any_is_length c.args.size (7 ∷ 9 ∷ 11 ∷ 13 ∷ 15 ∷ 17 ∷ 19 ∷ []) _ c.contains.ensures.value refl refl
