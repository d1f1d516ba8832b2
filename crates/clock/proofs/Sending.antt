-- Who sends at a chance: exactly the head that trusts itself after it.
use mathlib.Core.Path.{◌≡◌, refl, sym, ◌∙◌}
use mathlib.Core.Logic.{◌⊎◌}
use mathlib.Core.Logic.◌⊎◌.{inl, inr}
use mathlib.Core.Bool.{false, ◌&&◌, ◌||◌, or-false}
use lib.Dec.{eqb}
use borrow.Author.Tests.{eq-eqb, ne_eqb}
use Rattle.lists.proofs.Bools.{or_right}
use Rattle.clock.specs.Claims.{SendsSelf}
use Rattle.clock.specs.Rules.{sends}
use Rattle.clock.proofs.Elimination.{slotted-elim}

pub sends-self : SendsSelf
unfolding sends
sends-self me period tick s =
    slotted-elim (λ y. (eqb s.leader me || (s.recovering && eqb s.leader 0)) ≡ eqb y.leader me) me period tick s
    (λ r e. or_right (eqb s.leader me) (s.recovering && eqb s.leader 0) (rw (r, eq-eqb s.leader 0 e)) ∙ sym (eq-eqb me me refl))
    (λ r a b. rw (ne_eqb s.leader me b, r, ne_eqb s.leader 0 a))
    as_before
  where
    as_before : (s.leader ≡ me) ⊎ (s.recovering ≡ false) → (eqb s.leader me || (s.recovering && eqb s.leader 0)) ≡ eqb s.leader me
    as_before (inl e) = rw (eq-eqb s.leader me e)
    as_before (inr f) = rw f (or-false (eqb s.leader me))
