-- Tests of lists, of heads, and of the entries and the moments of a stretch: what holds where a test passes.
use mathlib.Core.Path.{◌≡◌, refl, sym, ap}
use mathlib.Core.Logic.{◌≢◌}
use mathlib.Core.List.{List, [], ◌∷◌}
use mathlib.Core.Bool.{Bool, true, false, not, ◌&&◌, ◌||◌, true≢false}
use Prim.Native.Nat.{ℕ, ◌+◌, ◌-◌, ◌≤◌}
use native.Mathlib.Omega.{arith}
use lib.Dec.{eqb}
use borrow.Author.Tests.{ne_eqb}
use Rattle.lists.specs.Every.{All}
use Rattle.lists.specs.Test.{all_to}
use Rattle.lists.proofs.Bools.{both}
use Rattle.lists.proofs.Test.{all_at}
use Rattle.election.specs.Commands.{Command, decode}
use Rattle.election.specs.History.{accepted, after}
use Rattle.election.specs.declared.System.{System}
use Rattle.settling.specs.Settling.{Each}
use Rattle.settling.specs.Steady.{with_entry, Throughout}

-- a test of every entry of a list
unfoldable pub every : {A : Type 0} → (A → Bool) → List A → Bool
every t [] = true
every t (x ∷ xs) = t x && every t xs

pub every_all : {A : Type 0} (P : A → Type 0) (t : A → Bool) → ((x : A) → t x ≡ true → P x) → (xs : List A) → every t xs ≡ true → All P xs
unfolding every
every_all P t f [] e = tt
every_all P t f (x ∷ xs) e = let (a, b) = both (t x) (every t xs) e in (f x a, every_all P t f xs b)

pub empty_of : {A : Type 0} (xs : List A) → every (λ x. false) xs ≡ true → xs ≡ []
unfolding every
empty_of [] e = refl
empty_of (x ∷ xs) e = absurd (true≢false (sym e))

-- a test that is asked only where another holds
unfoldable pub implies : Bool → Bool → Bool
implies a b = not a || b

pub implied : (a b : Bool) → implies a b ≡ true → a ≡ true → b ≡ true
unfolding implies
implied true b e h = e
implied false b e h = absurd (true≢false (sym h))

-- a test of every two different stations
unfoldable pub pairs : ℕ → (ℕ → ℕ → Bool) → Bool
pairs n t = all_to n (λ i. all_to n (λ j. implies (not (eqb (i + 1) (j + 1))) (t (i + 1) (j + 1))))

pub pairs_at : (n : ℕ) (t : ℕ → ℕ → Bool) → pairs n t ≡ true → (p q : ℕ) → 1 ≤ p → p ≤ n → 1 ≤ q → q ≤ n → p ≢ q → t p q ≡ true
unfolding pairs
pairs_at n t e p q lp hp lq hq ne =
    let a : p - 1 + 1 ≡ p = omega arith in
    let b : q - 1 + 1 ≡ q = omega arith in
    let row : all_to n (λ j. implies (not (eqb (p - 1 + 1) (j + 1))) (t (p - 1 + 1) (j + 1))) ≡ true = all_at n (p - 1) _ e (omega arith) in
    let one : implies (not (eqb (p - 1 + 1) (q - 1 + 1))) (t (p - 1 + 1) (q - 1 + 1)) ≡ true = all_at n (q - 1) _ row (omega arith) in
    let same : implies (not (eqb p q)) (t p q) ≡ true = rw (a, b) at one in
    implied (not (eqb p q)) (t p q) same (ap not (ne_eqb p q ne))

-- a test of every head
module _ (n : ℕ) (t : ℕ → Bool) where
  unfoldable pub heads : Bool
  heads = all_to n (λ k. t (k + 1))

  pub heads-at : heads ≡ true → (p : ℕ) → 1 ≤ p → p ≤ n → t p ≡ true
  unfolding heads
  heads-at e p low high =
      let a : p - 1 + 1 ≡ p = omega arith in
      rw a at (all_at n (p - 1) (λ k. t (k + 1)) e (omega arith))

-- what is asked of each entry of a stretch; the system after the last one is not wanted, so it is not computed
unfoldable pub each_test : (Command → System → Bool) → List (List ℕ) → System → Bool
each_test t [] s = true
each_test t (e ∷ []) s = implies (accepted s e) (t (decode e) s)
each_test t (e ∷ f ∷ es) s = implies (accepted s e) (t (decode e) s) && each_test t (f ∷ es) (after s e)

pub each_of : (P : Command → System → Type 0) (t : Command → System → Bool) → ((c : Command) (s : System) → t c s ≡ true → P c s) → (es : List (List ℕ)) (s : System) → each_test t es s ≡ true → Each P es s
unfolding each_test
each_of P t h [] s g = tt
each_of P t h (e ∷ []) s g = ((λ a. h (decode e) s (implied (accepted s e) _ g a)), tt)
each_of P t h (e ∷ f ∷ es) s g =
    let (x, y) = both (implies (accepted s e) (t (decode e) s)) (each_test t (f ∷ es) (after s e)) g in
    ((λ a. h (decode e) s (implied (accepted s e) _ x a)), each_of P t h (f ∷ es) (after s e) y)

-- a test at every moment of a stretch
unfoldable pub throughout_test : (List Command → Bool) → List Command → List (List ℕ) → System → Bool
throughout_test t cs [] s = t cs
throughout_test t cs (e ∷ es) s = t cs && throughout_test t (with_entry cs s e) es (after s e)

pub throughout_of : (P : List Command → Type 0) (t : List Command → Bool) → ((ds : List Command) → t ds ≡ true → P ds) → (cs : List Command) (es : List (List ℕ)) (s : System) → throughout_test t cs es s ≡ true → Throughout P cs es s
unfolding throughout_test
throughout_of P t f cs [] s g = f cs g
throughout_of P t f cs (e ∷ es) s g =
    let (a, b) = both (t cs) (throughout_test t (with_entry cs s e) es (after s e)) g in
    (f cs a, throughout_of P t f (with_entry cs s e) es (after s e) b)
