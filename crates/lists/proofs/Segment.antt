-- Laws of stretches of the same width in a list.
use mathlib.Core.Path.{◌≡◌, sym, ap, ◌∙◌}
use mathlib.Core.Logic.{◌≢◌}
use mathlib.Core.List.{List}
use Prim.Native.Nat.{ℕ, zero, ◌+◌, ◌*◌, ◌/◌, ◌<◌}
use native.Mathlib.Decide.{ℕ_discrete}
use native.Mathlib.Nat.{mul-add-div, div-eq_of_lt}
use native.Mathlib.Omega.{arith}
use lib.ListN.{length, get_or, set, length-set}
use lib.Seq.{ext_get_or, get_or-set_same, get_or-set_other}
use Rattle.lists.specs.Entries.{up_to}
use Rattle.lists.specs.Segment.{segment}
use Rattle.lists.proofs.Entries.{length-up_to, get_d_up_to, up_to-same}

-- where an entry of a stretch stands
stretch-of : (w k i : ℕ) → i < w → (w * k + i) / w ≡ k
stretch-of w k i h = let z : i / w ≡ zero = div-eq_of_lt h in let p : zero < w = omega arith in let e : (w * k + i) / w ≡ k + i / w = mul-add-div p k i in omega arith

-- two places of one stretch, or of two
stretches_apart : (w j k i x : ℕ) → i < w → x < w → k ≢ j → w * k + x ≢ w * j + i
stretches_apart w j k i x hi hx ne e = ne (sym (stretch-of w k x hx) ∙ ap (λ y. y / w) e ∙ stretch-of w j i hi)

module _ {A : Type 0} (w : ℕ) (d : A) (l : List A) where
  pub length-segment : (k : ℕ) → length (segment w d l k) ≡ w
  unfolding segment
  length-segment k = length-up_to w _

  pub get_d_segment : (k i : ℕ) (e : A) → i < w → get_or (segment w d l k) i e ≡ get_or l (w * k + i) d
  unfolding segment
  get_d_segment k i e h = get_d_up_to w (λ i. get_or l (w * k + i) d) i e h

  -- a store into a stretch
  pub segment-set : (k i : ℕ) (v : A) → i < w → w * k + i < length l → segment w d (set l (w * k + i) v) k ≡ set (segment w d l k) i v
  unfolding segment
  segment-set k i v h b =
      ext_get_or d (up_to w f) (set (up_to w g) i v) (length-up_to w f ∙ sym (length-set (up_to w g) i v ∙ length-up_to w g)) (λ j c. at j (let z : j < w = omega (arith, length-up_to w f) in z) (ℕ_discrete j i))
    where
      f : ℕ → A
      f j = get_or (set l (w * k + i) v) (w * k + j) d

      g : ℕ → A
      g j = get_or l (w * k + j) d

      at : (j : ℕ) → j < w → Dec (j ≡ i) → get_or (up_to w f) j d ≡ get_or (set (up_to w g) i v) j d
      at j c (yes e) =
          get_d_up_to w f j d c ∙ ap (λ j. get_or (set l (w * k + i) v) (w * k + j) d) e ∙ get_or-set_same l (w * k + i) v d b
          ∙ sym (ap (λ j. get_or (set (up_to w g) i v) j d) e ∙ get_or-set_same (up_to w g) i v d (omega (arith, length-up_to w g)))
      at j c (no ne) =
          get_d_up_to w f j d c ∙ get_or-set_other l (w * k + i) (w * k + j) v d (λ e. ne (let z : j ≡ i = omega arith in z))
          ∙ sym (get_or-set_other (up_to w g) i j v d ne ∙ get_d_up_to w g j d c)

  -- leaves the others
  pub segment-other : (j k i : ℕ) (v : A) → i < w → k ≢ j → segment w d (set l (w * j + i) v) k ≡ segment w d l k
  unfolding segment
  segment-other j k i v h ne = up_to-same w _ _ (λ x b. get_or-set_other l (w * j + i) (w * k + x) v d (stretches_apart w j k i x h b ne))
