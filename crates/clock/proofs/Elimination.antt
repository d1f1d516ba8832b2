-- What hearing, the end of a timer and a send chance leave, by cases in arithmetic: all that stands above goes by these.
use mathlib.Core.Path.{◌≡◌, refl, ap, ◌∙◌}
use mathlib.Core.Logic.{◌⊎◌, ◌≢◌}
use mathlib.Core.Logic.◌⊎◌.{inl, inr}
use mathlib.Core.Bool.{true, false, cond, ◌&&◌}
use Prim.Native.Nat.{ℕ, ◌+◌, ◌≤◌}
use native.Mathlib.Omega.{arith}
use lib.Dec.{leb, ltb, eqb}
use borrow.Author.Tests.{ltb-true, eqb-true, eqb-false, le-leb, eq-eqb, ne_eqb}
use Rattle.lists.proofs.Bools.{both, either, or_right, cond_elim}
use Rattle.station.specs.Rules.{trusting, pacing}
use Rattle.station.specs.declared.Station.{Station}
use Rattle.clock.specs.Rules.{bounding, adopts, heard, expired, waited, slotted}

-- a stamp that is adopted is not above the lowest known
pub adopts-low : (me q z : ℕ) (s : Station) → adopts me q z s ≡ true → z ≤ s.lowest
unfolding adopts
adopts-low me q z s e = go (either (ltb z s.lowest) (eqb z s.lowest && cond (eqb s.leader 0) (ltb q me) (leb q s.leader)) e)
  where
    go : (ltb z s.lowest ≡ true) ⊎ ((eqb z s.lowest && cond (eqb s.leader 0) (ltb q me) (leb q s.leader)) ≡ true) → z ≤ s.lowest
    go (inl a) = omega (arith, ltb-true z s.lowest a)
    go (inr a) = omega (arith, eqb-true z s.lowest (both (eqb z s.lowest) (cond (eqb s.leader 0) (ltb q me) (leb q s.leader)) a).0)

-- hearing q ends in one of two ways: q is adopted, or nothing changes
pub heard-elim : (P : Station → Type 0) (me q z tick : ℕ) (s : Station)
    → (z ≤ s.lowest → P (bounding z s.timeout (trusting q (tick + s.timeout) s)))
    → P s
    → P (heard me q z tick s)
unfolding heard
heard-elim P me q z tick s takes stays = cond_elim P (adopts me q z s) (λ e. takes (adopts-low me q z s e)) (λ e. stays)

-- the leader's stamp is adopted again where it is the lowest known: the timer is reset
pub leader_again : (me tick : ℕ) (s : Station) → s.leader ≢ 0 → heard me s.leader s.lowest tick s ≡ trusting s.leader (tick + s.timeout) s
unfolding heard adopts
leader_again me tick s some =
    ap (λ b. cond b (trusting s.leader (tick + s.timeout) s) s)
    (or_right (ltb s.lowest s.lowest) (eqb s.lowest s.lowest && cond (eqb s.leader 0) (ltb s.leader me) (leb s.leader s.leader))
    (rw (eq-eqb s.lowest s.lowest refl, ne_eqb s.leader 0 some, le-leb s.leader s.leader (omega arith))))

-- what the end of a timer leaves
pub expired-elim : (P : Station → Type 0) (me : ℕ) (s : Station) → P (bounding s.stamp (s.timeout + 1) (trusting me 0 s)) → P (expired me s)
unfolding expired
expired-elim P me s ends = ends

-- a send chance ends in one of three ways: the wait ended and it trusts itself, or another whose timer is reset; or leader and timer stay
pub slotted-elim : (P : Station → Type 0) (me period tick : ℕ) (s : Station)
    → (s.recovering ≡ true → s.leader ≡ 0 → P (pacing s.stable (tick + period) (trusting me 0 s)))
    → (s.recovering ≡ true → s.leader ≢ 0 → s.leader ≢ me → P (pacing s.stable (tick + period) (trusting s.leader (tick + s.timeout) s)))
    → ((s.leader ≡ me) ⊎ (s.recovering ≡ false) → P (pacing s.stable (tick + period) s))
    → P (slotted me period tick s)
unfolding slotted waited
slotted-elim P me period tick s itself another stays =
    cond_elim (λ x. P (pacing s.stable (tick + period) x)) s.recovering
    (λ r.
    cond_elim (λ x. P (pacing s.stable (tick + period) x)) (eqb s.leader 0)
    (λ e. itself r (eqb-true s.leader 0 e))
    (λ e.
    cond_elim (λ x. P (pacing s.stable (tick + period) x)) (eqb s.leader me)
    (λ i. stays (inl (eqb-true s.leader me i)))
    (λ i. another r (eqb-false s.leader 0 e) (eqb-false s.leader me i))))
    (λ r. stays (inr r))

-- the end of a wait leaves what is kept
past_stable : (me tick : ℕ) (s : Station) → (cond s.recovering (waited me tick s) s).stable ≡ s.stable
unfolding waited
past_stable me tick s =
    cond_elim (λ (y : Station). y.stable ≡ s.stable) s.recovering
    (λ r.
    cond_elim (λ (y : Station). y.stable ≡ s.stable) (eqb s.leader 0)
    (λ e. refl)
    (λ e. cond_elim (λ (y : Station). y.stable ≡ s.stable) (eqb s.leader me) (λ i. refl) (λ i. refl)))
    (λ r. refl)

-- so a send chance is a station past its wait, with the next chance
pub slotted-of : (me period tick : ℕ) (s x : Station) → x ≡ cond s.recovering (waited me tick s) s → pacing x.stable (tick + period) x ≡ slotted me period tick s
unfolding slotted
slotted-of me period tick s x e =
    ap (λ (y : Station). pacing y.stable (tick + period) y) e
    ∙ ap (λ b. pacing b (tick + period) (cond s.recovering (waited me tick s) s)) (past_stable me tick s)
