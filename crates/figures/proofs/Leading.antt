-- The first of the up stations, station by station.
use mathlib.Core.Path.{◌≡◌, refl, sym, ap, ◌∙◌}
use mathlib.Core.Logic.{◌⊎◌, ◌≢◌}
use mathlib.Core.Logic.◌⊎◌.{inl, inr}
use mathlib.Core.List.{List}
use mathlib.Core.Bool.{Bool, true, false, cond, true≢false}
use Prim.Native.Nat.{ℕ, ◌+◌, ◌-◌, ◌<◌, ◌≤◌}
use native.Mathlib.Decide.{dec_lt, ℕ_discrete}
use native.Mathlib.Omega.{arith}
use lib.ListN.{length, get_or, get_or-eq_default}
use borrow.Author.Tests.{eq-eqb, ne_eqb}
use Rattle.lists.proofs.Count.{count_none}
use Rattle.lists.proofs.Entries.{get_d_up_to, length-up_to}
use Rattle.station.specs.Order.{entry}
use Rattle.station.specs.declared.Station.{Station}
use Rattle.station.proofs.Ordered.{total_holds, transitive_holds}
use Rattle.election.specs.System.{no_station, station_of}
use Rattle.figures.specs.Figures.{ahead_of, FirstOf, LeadsOf}
use Rattle.figures.specs.Pieces.{up_over, counts_of, first_of}

-- the count of a station among the counts of all places
counts-at : (stations : List Station) → length stations ≤ 8 → (p : ℕ) → entry (counts_of stations) p ≡ (station_of stations p).incarnation
unfolding counts_of
counts-at stations eight p = go (dec_lt (p - 1) 8)
  where
    go : Dec (p - 1 < 8) → entry (counts_of stations) p ≡ (station_of stations p).incarnation
    go (yes l) = get_d_up_to 8 (λ k. (get_or stations k no_station).incarnation) (p - 1) 0 l
    go (no l) =
        get_or-eq_default (counts_of stations) 0 {n = p - 1} (omega (arith, length-up_to 8 (λ k. (get_or stations k no_station).incarnation)))
        ∙ sym (ap (λ (x : Station). x.incarnation) (get_or-eq_default stations no_station {n = p - 1} (omega arith)))

module _ (stations : List Station) (ranks : List ℕ) where
  abbrev Up : ℕ → Type 0
  Up p = (station_of stations p).up ≡ true

  abbrev Ahead : ℕ → ℕ → Type 0
  Ahead p q = ahead_of stations ranks p q ≡ true

  abbrev First : ℕ → ℕ → Type 0
  First k l = FirstOf k stations ranks l

  -- after k stations: none is up so far, or l is the first
  abbrev pub Led : ℕ → ℕ → Type 0
  Led k l = (((p : ℕ) → 1 ≤ p → p ≤ k → (station_of stations p).up ≡ false) × (l ≡ 0)) ⊎ First k l

  pub led-none : Led 0 0
  led-none = inl (λ p low high. absurd (omega arith), refl)

  -- in the end
  pub led-all : (n l : ℕ) → Led n l → LeadsOf n stations ranks l
  unfolding up_over
  led-all n l (inl (none, z)) = inl (count_none n _ (λ k h. none (k + 1) (omega arith) (omega arith)), z)
  led-all n l (inr f) = inr f

  -- of two stations one is ahead, and it is ahead of whomever the other is ahead of
  other-ahead : (p q : ℕ) → p ≢ q → ahead_of stations ranks p q ≡ false → Ahead q p
  other-ahead p q ne a = go (total_holds _ _ p _ _ q ne)
    where
      go : Ahead p q ⊎ Ahead q p → Ahead q p
      go (inl x) = absurd (true≢false (sym x ∙ a))
      go (inr x) = x

  further_ahead : (p q r : ℕ) → Ahead p q → Ahead q r → Ahead p r
  further_ahead p q r a b = transitive_holds _ _ p _ _ q _ _ r a b

  -- one station more
  module _ (k : ℕ) where
    -- the first so far stays
    stays : (l : ℕ) → First k l → (Up (k + 1) → Ahead l (k + 1)) → First (k + 1) l
    stays l f new =
        record { low = f.low; high = omega (arith, f.high); is_up = f.is_up; least = λ p low high u ne. go p low high u ne (ℕ_discrete p (k + 1)) }
      where
        go : (p : ℕ) → 1 ≤ p → p ≤ k + 1 → Up p → p ≢ l → Dec (p ≡ k + 1) → Ahead l p
        go p low high u ne (yes e) = rw e (new (rw e at u))
        go p low high u ne (no e) = f.least p low (omega arith) u ne

    -- the new one becomes it
    becomes : Up (k + 1) → ((p : ℕ) → 1 ≤ p → p ≤ k → Up p → Ahead (k + 1) p) → First (k + 1) (k + 1)
    becomes new ahead =
        record { low = omega arith; high = omega arith; is_up = new; least = λ p low high u ne. ahead p low (omega arith) u }

    -- of an up one and the first so far
    choose : (l : ℕ) → First k l → Up (k + 1) → (b : Bool) → ahead_of stations ranks (k + 1) l ≡ b → First (k + 1) (cond b (k + 1) l)
    choose l f e true a = becomes e (λ p low high u. go p low high u (ℕ_discrete p l))
      where
        go : (p : ℕ) → 1 ≤ p → p ≤ k → Up p → Dec (p ≡ l) → Ahead (k + 1) p
        go p low high u (yes i) = rw i a
        go p low high u (no i) = further_ahead (k + 1) l p a (f.least p low high u i)
    choose l f e false a = stays l f (λ u. other-ahead (k + 1) l (λ i. omega (arith, f.high)) a)

    pub led-turn : length stations ≤ 8 → (l : ℕ) → Led k l → Led (k + 1) (first_of ranks (counts_of stations) (station_of stations (k + 1)).up (k + 1) l)
    led-turn eight l led = go (station_of stations (k + 1)).up refl led
      where
        go : (b : Bool) → (station_of stations (k + 1)).up ≡ b → Led k l → Led (k + 1) (first_of ranks (counts_of stations) b (k + 1) l)
        go false e (inl (none, z)) = inl (λ p low high. rest p low high (ℕ_discrete p (k + 1)), z)
          where
            rest : (p : ℕ) → 1 ≤ p → p ≤ k + 1 → Dec (p ≡ k + 1) → (station_of stations p).up ≡ false
            rest p low high (yes i) = rw i e
            rest p low high (no i) = none p low (omega arith)
        go false e (inr f) = inr (stays l f (λ u. absurd (true≢false (sym u ∙ e))))
        go true e (inl (none, z)) = rw (eq-eqb l 0 z) (inr (becomes e (λ p low high u. absurd (true≢false (sym u ∙ none p low high)))))
        go true e (inr f) =
            rw (ne_eqb l 0 (λ z. omega (arith, f.low)), counts-at stations eight (k + 1), counts-at stations eight l)
            (inr (choose l f e (ahead_of stations ranks (k + 1) l) refl))
