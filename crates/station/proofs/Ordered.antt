-- The claims of the candidate order, for all counts, ranks and numbers.
use mathlib.Core.Path.{◌≡◌, refl}
use mathlib.Core.Logic.{◌⊎◌}
use mathlib.Core.Logic.◌⊎◌.{inl, inr}
use mathlib.Core.Bool.{Bool, true, false, ◌&&◌, ◌||◌}
use Prim.Native.Nat.{ℕ, ◌<◌}
use native.Mathlib.Decide.{dec_lt}
use native.Mathlib.Omega.{arith}
use lib.Dec.{ltb, eqb}
use borrow.Author.Tests.{lt-ltb, eq-eqb, ltb-true, eqb-true}
use Rattle.lists.proofs.Bools.{both, either, or_right}
use Rattle.station.specs.Claims.{Lexicographic, RanksEqual, Strict, Irreflexive, Total, Transitive, Monotone}
use Rattle.station.specs.Order.{before}

-- by rank and number, and by count before these
abbrev Lower : ℕ → ℕ → ℕ → ℕ → Type 0
Lower r p t q = (r < t) ⊎ ((r ≡ t) × (p < q))

abbrev Lex : ℕ → ℕ → ℕ → ℕ → ℕ → ℕ → Type 0
Lex c r p d t q = (c < d) ⊎ ((c ≡ d) × Lower r p t q)

-- a lexicographic test of a pair, by what its second part says
module _ (x y : ℕ) (b : Bool) (Low : Type 0) where
  pair_of : (b ≡ true → Low) → (ltb x y || (eqb x y && b)) ≡ true → (x < y) ⊎ ((x ≡ y) × Low)
  pair_of f e = go (either (ltb x y) (eqb x y && b) e)
    where
      go : (ltb x y ≡ true) ⊎ ((eqb x y && b) ≡ true) → (x < y) ⊎ ((x ≡ y) × Low)
      go (inl a) = inl (ltb-true x y a)
      go (inr a) = let (h, l) = both (eqb x y) b a in inr (eqb-true x y h, f l)

  of_pair : (Low → b ≡ true) → (x < y) ⊎ ((x ≡ y) × Low) → (ltb x y || (eqb x y && b)) ≡ true
  of_pair f (inl a) = rw (lt-ltb x y a)
  of_pair f (inr a) = or_right (ltb x y) (eqb x y && b) (rw (eq-eqb x y a.0, f a.1))

module _ (c r p d t q : ℕ) where
  lex_of : before c r p d t q ≡ true → Lex c r p d t q
  unfolding before
  lex_of = pair_of c d (ltb r t || (eqb r t && ltb p q)) (Lower r p t q) (pair_of r t (ltb p q) (p < q) (ltb-true p q))

  of_lex : Lex c r p d t q → before c r p d t q ≡ true
  unfolding before
  of_lex = of_pair c d (ltb r t || (eqb r t && ltb p q)) (Lower r p t q) (of_pair r t (ltb p q) (p < q) (lt-ltb p q))

pub lexicographic_holds : Lexicographic
lexicographic_holds c r p d t q = (lex_of c r p d t q, of_lex c r p d t q)

pub ranks-equal : RanksEqual
ranks-equal c d r p q = (λ e. to (lex_of c r p d r q e), λ h. of_lex c r p d r q (from h))
  where
    to : Lex c r p d r q → (c < d) ⊎ ((c ≡ d) × (p < q))
    to (inl a) = inl a
    to (inr a) = inr (a.0, low a.1)
      where
        low : Lower r p r q → p < q
        low (inl b) = absurd (omega arith)
        low (inr b) = b.1

    from : (c < d) ⊎ ((c ≡ d) × (p < q)) → Lex c r p d r q
    from (inl a) = inl a
    from (inr a) = inr (a.0, inr (refl, a.1))

pub strict_holds : Strict
strict_holds c r p d t q e = go (before d t q c r p) refl
  where
    not_lower : Lower r p t q → Lower t q r p → ⊥
    not_lower (inl a) (inl b) = omega arith
    not_lower (inl a) (inr b) = omega arith
    not_lower (inr a) (inl b) = omega arith
    not_lower (inr a) (inr b) = omega arith

    not_both : Lex c r p d t q → Lex d t q c r p → ⊥
    not_both (inl a) (inl b) = omega arith
    not_both (inl a) (inr b) = omega arith
    not_both (inr a) (inl b) = omega arith
    not_both (inr a) (inr b) = not_lower a.1 b.1

    go : (b : Bool) → before d t q c r p ≡ b → before d t q c r p ≡ false
    go false f = f
    go true f = absurd (not_both (lex_of c r p d t q e) (lex_of d t q c r p f))

pub irreflexive_holds : Irreflexive
irreflexive_holds c r p = go (before c r p c r p) refl
  where
    go : (b : Bool) → before c r p c r p ≡ b → before c r p c r p ≡ false
    go false f = f
    go true f = strict_holds c r p c r p f

pub total_holds : Total
total_holds c r p d t q ne = go (dec_lt c d) (dec_lt d c) (dec_lt r t) (dec_lt t r) (dec_lt p q)
  where
    go : Dec (c < d) → Dec (d < c) → Dec (r < t) → Dec (t < r) → Dec (p < q) → (before c r p d t q ≡ true) ⊎ (before d t q c r p ≡ true)
    go (yes a) b e f g = inl (of_lex c r p d t q (inl a))
    go (no a) (yes b) e f g = inr (of_lex d t q c r p (inl b))
    go (no a) (no b) (yes e) f g = inl (of_lex c r p d t q (inr (omega arith, inl e)))
    go (no a) (no b) (no e) (yes f) g = inr (of_lex d t q c r p (inr (omega arith, inl f)))
    go (no a) (no b) (no e) (no f) (yes g) = inl (of_lex c r p d t q (inr (omega arith, inr (omega arith, g))))
    go (no a) (no b) (no e) (no f) (no g) = inr (of_lex d t q c r p (inr (omega arith, inr (omega arith, omega arith))))

pub transitive_holds : Transitive
transitive_holds c r p d t q f u w x y = of_lex c r p f u w (go (lex_of c r p d t q x) (lex_of d t q f u w y))
  where
    low : Lower r p t q → Lower t q u w → Lower r p u w
    low (inl a) (inl b) = inl (omega arith)
    low (inl a) (inr b) = inl (omega arith)
    low (inr a) (inl b) = inl (omega arith)
    low (inr a) (inr b) = inr (omega arith, omega arith)

    go : Lex c r p d t q → Lex d t q f u w → Lex c r p f u w
    go (inl a) (inl b) = inl (omega arith)
    go (inl a) (inr b) = inl (omega arith)
    go (inr a) (inl b) = inl (omega arith)
    go (inr a) (inr b) = inr (omega arith, low a.1 b.1)

pub monotone_holds : Monotone
monotone_holds c c' r p d d' t q low high e = of_lex c' r p d' t q (go (lex_of c r p d t q e) (dec_lt c' d'))
  where
    go : Lex c r p d t q → Dec (c' < d') → Lex c' r p d' t q
    go a (yes l) = inl l
    go (inl a) (no l) = absurd (omega arith)
    go (inr a) (no l) = inr (omega arith, a.1)
