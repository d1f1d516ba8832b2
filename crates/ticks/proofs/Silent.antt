-- Senders that have nothing under way, as the code marks them.
use mathlib.Core.Path.{◌≡◌, refl, sym, ap, ◌∙◌}
use mathlib.Core.List.{List}
use mathlib.Core.Bool.{Bool, true, false, true≢false}
use Prim.Native.Nat.{ℕ, ◌+◌, ◌*◌, ◌<◌, ◌≤◌}
use native.Mathlib.Decide.{ℕ_discrete}
use native.Mathlib.Omega.{arith}
use lib.ListN.{length, get_or, set, replicate, length-set, get_or-replicate}
use lib.Seq.{get_or-set_same, get_or-set_other}
use Rattle.ticks.specs.Delivering.{Silent, Gone}

module _ (n : ℕ) (used : List ℕ) (busy : List Bool) (c : ℕ) (hn : n ≤ 8) (a : Silent n used busy c) where
  -- a count of a marked sender is stored
  pub silent-stores : (q p v : ℕ) → p < 8 → get_or busy q false ≡ true → Silent n (set used (8 * q + p) v) busy c
  silent-stores q p v hp b = record { long = a.long; none = λ j k hj hk h f. at j k hj hk h f (ℕ_discrete j q) }
    where
      at : (j k : ℕ) → j < n → k < n → 8 * j + k < c → get_or busy j false ≡ false → Dec (j ≡ q) → get_or (set used (8 * q + p) v) (8 * j + k) 0 ≡ 0
      at j k hj hk h f (yes e) = absurd (true≢false (sym b ∙ ap (λ j. get_or busy j false) (sym e) ∙ f))
      at j k hj hk h f (no e) = get_or-set_other used (8 * q + p) (8 * j + k) v 0 (λ i. omega arith) ∙ a.none j k hj hk h f

  -- a sender is marked anew
  pub silent-sets : (q : ℕ) (more : Bool) → q < 8 → (more ≡ false → (p : ℕ) → p < n → get_or used (8 * q + p) 0 ≡ 0) → Silent n used (set busy q more) c
  silent-sets q more hq y = record { long = length-set busy q more ∙ a.long; none = λ j k hj hk h f. at j k hj hk h f (ℕ_discrete j q) }
    where
      at : (j k : ℕ) → j < n → k < n → 8 * j + k < c → get_or (set busy q more) j false ≡ false → Dec (j ≡ q) → get_or used (8 * j + k) 0 ≡ 0
      at j k hj hk h f (yes e) = rw e (y (sym (get_or-set_same busy q more false (omega (arith, a.long))) ∙ ap (λ j. get_or (set busy q more) j false) (sym e) ∙ f) k hk)
      at j k hj hk h f (no e) = a.none j k hj hk h (sym (get_or-set_other busy q j more false e) ∙ f)

  pub silent-sends : (q : ℕ) → q < 8 → Silent n used (set busy q true) c
  silent-sends q hq = silent-sets q true hq (λ e. absurd (true≢false e))

pub gone-more : (used : List ℕ) (q p : ℕ) (more more' : Bool) → Gone used q p more → (more' ≡ false → more ≡ false) → (more' ≡ false → get_or used (8 * q + p) 0 ≡ 0) → Gone used q (p + 1) more'
gone-more used q p more more' a f y e j h = at (ℕ_discrete j p)
  where
    at : Dec (j ≡ p) → get_or used (8 * q + j) 0 ≡ 0
    at (yes i) = rw i (y e)
    at (no i) = a (f e) j (omega arith)

pub gone-stores : (used : List ℕ) (q p v : ℕ) (more more' : Bool) → length used ≡ 64 → 8 * q + p < 64 → Gone used q p more → (more' ≡ false → (more ≡ false) × (v ≡ 0)) → Gone (set used (8 * q + p) v) q (p + 1) more'
gone-stores used q p v more more' long hk a f e j h = at (ℕ_discrete j p)
  where
    at : Dec (j ≡ p) → get_or (set used (8 * q + p) v) (8 * q + j) 0 ≡ 0
    at (yes i) = rw i (get_or-set_same used (8 * q + p) v 0 (omega arith) ∙ (f e).1)
    at (no i) = get_or-set_other used (8 * q + p) (8 * q + j) v 0 (λ z. omega arith) ∙ a (f e).0 j (omega arith)

-- where all are marked
pub silent_all : (n : ℕ) (used : List ℕ) (c : ℕ) → n ≤ 8 → Silent n used (replicate 8 true) c
silent_all n used c hn = record { long = refl; none = λ q p a b h e. absurd (true≢false (at q (omega arith) ∙ e)) }
  where
    at : (q : ℕ) → q < 8 → true ≡ get_or (replicate 8 true) q false
    at q h = sym (get_or-replicate 8 q true false h)
