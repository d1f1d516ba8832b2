-- Tests joined by "and" and "or", taken apart; tests that can only come out one way; and a choice by a test.
use mathlib.Core.Path.{◌≡◌, refl, sym, ◌∙◌}
use mathlib.Core.Logic.{◌⊎◌}
use mathlib.Core.Logic.◌⊎◌.{inl, inr}
use mathlib.Core.Bool.{Bool, true, false, cond, not, ◌&&◌, ◌||◌, false≢true, true≢false}
use borrow.Author.Tests.{not-true, not-false}

pub both : (a b : Bool) → (a && b) ≡ true → (a ≡ true) × (b ≡ true)
both true b e = (refl, e)
both false b e = absurd (false≢true e)

pub three : (a b c : Bool) → (a && b && c) ≡ true → (a ≡ true) × (b ≡ true) × (c ≡ true)
three a b c e = let (ab, z) = both (a && b) c e in let (x, y) = both a b ab in (x, y, z)

pub four : (a b c d : Bool) → (a && b && c && d) ≡ true → (a ≡ true) × (b ≡ true) × (c ≡ true) × (d ≡ true)
four a b c d e = let (abc, z) = both (a && b && c) d e in let (x, y, w) = three a b c abc in (x, y, w, z)

pub five : (a b c d f : Bool) → (a && b && c && d && f) ≡ true → (a ≡ true) × (b ≡ true) × (c ≡ true) × (d ≡ true) × (f ≡ true)
five a b c d f e = let (abcd, z) = both (a && b && c && d) f e in let (x, y, w, v) = four a b c d abcd in (x, y, w, v, z)

pub six : (a b c d f g : Bool) → (a && b && c && d && f && g) ≡ true → (a ≡ true) × (b ≡ true) × (c ≡ true) × (d ≡ true) × (f ≡ true) × (g ≡ true)
six a b c d f g e = let (abcdf, z) = both (a && b && c && d && f) g e in let (x, y, w, v, u) = five a b c d f abcdf in (x, y, w, v, u, z)

pub either : (a b : Bool) → (a || b) ≡ true → (a ≡ true) ⊎ (b ≡ true)
either true b e = inl refl
either false b e = inr e

pub neither : (a b : Bool) → (a || b) ≡ false → (a ≡ false) × (b ≡ false)
neither true b e = absurd (true≢false e)
neither false b e = (refl, e)

pub or_right : (a b : Bool) → b ≡ true → (a || b) ≡ true
or_right true b e = refl
or_right false b e = e

-- a test that cannot fail holds, and one that cannot hold fails
pub true_unless : (b : Bool) → (b ≡ false → ⊥) → b ≡ true
true_unless true f = refl
true_unless false f = absurd (f refl)

pub false_unless : (b : Bool) → (b ≡ true → ⊥) → b ≡ false
false_unless true f = absurd (f refl)
false_unless false f = refl

-- what holds of both, where its test says so, holds of the one chosen
pub cond_elim : {A : Type 0} (P : A → Type 0) (b : Bool) {x y : A} → (b ≡ true → P x) → (b ≡ false → P y) → P (cond b x y)
cond_elim P true p q = p refl
cond_elim P false p q = q refl

-- a test that a function answered, where the code goes on if it holds and where it does not
pub holds : {result test : Bool} → result ≡ test → not result ≡ false → test ≡ true
holds e h = sym e ∙ not-false _ h

pub fails : {result test : Bool} → result ≡ test → not result ≡ true → test ≡ false
fails e h = sym e ∙ not-true _ h

-- a choice whose test is known
pub cond_yes : {A : Type 0} {b : Bool} (x y : A) → b ≡ true → cond b x y ≡ x
cond_yes x y e = rw e

pub cond_no : {A : Type 0} {b : Bool} (x y : A) → b ≡ false → cond b x y ≡ y
cond_no x y e = rw e
