-- Laws of a step for each number.
use mathlib.Core.Path.{◌≡◌, refl, sym, ap, ◌∙◌}
use mathlib.Core.Logic.{◌≢◌}
use Prim.Native.Nat.{ℕ, zero, suc, ◌+◌, ◌<◌}
use native.Mathlib.Numerals.{add-one}
use native.Mathlib.Decide.{ℕ_discrete}
use native.Mathlib.Omega.{arith}
use Rattle.lists.specs.Fold.{each}

module _ {S : Type 0} where
  -- where a loop that folds begins
  pub each-zero : (g : ℕ → S → S) (s : S) → s ≡ each 0 g s
  unfolding each
  each-zero g s = refl

  -- a turn of it
  pub each_turn : (i : ℕ) (g : ℕ → S → S) (s₀ s r : S) → s ≡ each i g s₀ → r ≡ g i s → r ≡ each (i + 1) g s₀
  unfolding each
  each_turn i g s₀ s r e h = h ∙ rw (add-one, e)

  -- what each step keeps, all keep
  pub each_keeps : (P : S → Type 0) (n : ℕ) (g : ℕ → S → S) (s : S) → ((k : ℕ) (r : S) → k < n → P r → P (g k r)) → P s → P (each n g s)
  unfolding each
  each_keeps P zero g s h p = p
  each_keeps P (suc n) g s h p = h n _ (omega arith) (each_keeps P n g s (λ k r l. h k r (omega arith)) p)

  -- where no step does anything
  pub each-idle : (n : ℕ) (g : ℕ → S → S) (s : S) → ((k : ℕ) (r : S) → k < n → g k r ≡ r) → each n g s ≡ s
  each-idle n g s h = each_keeps (λ r. r ≡ s) n g s (λ k r l e. h k r l ∙ e) refl

  -- where one step alone does
  pub each-once : (n j : ℕ) (g : ℕ → S → S) (s : S) → j < n → ((k : ℕ) (r : S) → k < n → k ≢ j → g k r ≡ r) → each n g s ≡ g j s
  unfolding each
  each-once zero j g s l h = absurd (omega arith)
  each-once (suc n) j g s l h = go (ℕ_discrete j n) (λ i. each-once n j g s i (λ k r m ne. h k r (omega arith) ne))
    where
      go : Dec (j ≡ n) → (j < n → each n g s ≡ g j s) → g n (each n g s) ≡ g j s
      go (yes e) r = ap (g n) (each-idle n g s (λ k t m. h k t (omega arith) (λ i. omega arith))) ∙ ap (λ k. g k s) (sym e)
      go (no e) r = h n (each n g s) (omega arith) (λ i. e (sym i)) ∙ r (omega arith)
