-- Every set of heads that isn't empty has a first, and only one, by the candidate order with starts for known counts; so the up heads have a leader. With
-- equal ranks that is document 01's.
use mathlib.Core.Path.{◌≡◌, refl, sym, ap, ◌∙◌}
use mathlib.Core.Logic.{◌⊎◌, ◌≢◌, ◌↔◌}
use mathlib.Core.Logic.◌⊎◌.{inl, inr}
use mathlib.Core.List.{List}
use mathlib.Core.Bool.{Bool, true, false, true≢false}
use Prim.Native.Nat.{ℕ, zero, suc, ◌<◌, ◌≤◌}
use native.Mathlib.Decide.{ℕ_discrete}
use native.Mathlib.Omega.{arith}
use Rattle.station.proofs.Ordered.{ranks-equal, strict_holds, total_holds, transitive_holds}
use Rattle.election.specs.Commands.{Command}
use Rattle.election.specs.History.{commands, starts, is_up_after, rank_of}
use Rattle.election.specs.Schedule.{schedule}
use Rattle.settling.specs.Leader.{LeaderExists, OneLeader, FirstExists, OneFirst, FirstIsFewest, SettlingByStarts}
use Rattle.settling.specs.Settling.{ahead}
use Rattle.settling.specs.Steady.{FirstAmong}
use Rattle.settling.proofs.IDemand.{first-up, settling}

module _ (S : ℕ → Bool) (cs : List Command) where
  abbrev NoneOf : ℕ → Type 0
  NoneOf n = (p : ℕ) → 1 ≤ p → p ≤ n → S p ≡ true → ⊥

  abbrev Ahead : ℕ → ℕ → Type 0
  Ahead L p = ahead cs L p ≡ true

  -- one head more: the first so far stays, or the new head becomes it
  module _ (n : ℕ) where
    stays : (L : ℕ) → FirstAmong S n cs L → (S (suc n) ≡ true → Ahead L (suc n)) → FirstAmong S (suc n) cs L
    stays L f new =
        record { low = f.low; high = omega (arith, f.high); in_set = f.in_set; least = λ p low high u ne. go p low high u ne (ℕ_discrete p (suc n)) }
      where
        go : (p : ℕ) → 1 ≤ p → p ≤ suc n → S p ≡ true → p ≢ L → Dec (p ≡ suc n) → Ahead L p
        go p low high u ne (yes e) = rw e (new (rw e at u))
        go p low high u ne (no e) = f.least p low (omega arith) u ne

    becomes : S (suc n) ≡ true → ((p : ℕ) → 1 ≤ p → p ≤ n → S p ≡ true → Ahead (suc n) p) → FirstAmong S (suc n) cs (suc n)
    becomes new ahead =
        record { low = omega arith; high = omega arith; in_set = new; least = λ p low high u ne. ahead p low (omega arith) u }

  first_or_none : (n : ℕ) → ((L : ℕ) × FirstAmong S n cs L) ⊎ NoneOf n
  first_or_none zero = inr (λ p low high u. omega arith)
  first_or_none (suc n) = go (S (suc n)) refl (first_or_none n)
    where
      go : (b : Bool) → S (suc n) ≡ b → ((L : ℕ) × FirstAmong S n cs L) ⊎ NoneOf n → ((L : ℕ) × FirstAmong S (suc n) cs L) ⊎ NoneOf (suc n)
      go false e (inl (L, f)) = inl (L, stays n L f (λ u. absurd (true≢false (sym u ∙ e))))
      go false e (inr none) = inr (λ p low high u. rest p low high u (ℕ_discrete p (suc n)))
        where
          rest : (p : ℕ) → 1 ≤ p → p ≤ suc n → S p ≡ true → Dec (p ≡ suc n) → ⊥
          rest p low high u (yes i) = true≢false (sym u ∙ ap S i ∙ e)
          rest p low high u (no i) = none p low (omega arith) u
      go true e (inr none) = inl (suc n, becomes n e (λ p low high u. absurd (none p low high u)))
      go true e (inl (L, f)) = inl (choose (total_holds (starts L cs) (rank_of 0 L cs) L (starts (suc n) cs) (rank_of 0 (suc n) cs) (suc n) (λ i. omega (arith, f.high))))
        where
          choose : Ahead L (suc n) ⊎ Ahead (suc n) L → (K : ℕ) × FirstAmong S (suc n) cs K
          choose (inl a) = (L, stays n L f (λ u. a))
          choose (inr a) = (suc n, becomes n e (λ p low high u. past p low high u (ℕ_discrete p L)))
            where
              past : (p : ℕ) → 1 ≤ p → p ≤ n → S p ≡ true → Dec (p ≡ L) → Ahead (suc n) p
              past p low high u (yes i) = rw i a
              past p low high u (no i) = transitive_holds (starts (suc n) cs) (rank_of 0 (suc n) cs) (suc n) (starts L cs) (rank_of 0 L cs) L (starts p cs) (rank_of 0 p cs) p a (f.least p low high u i)

pub first-exists : FirstExists
first-exists S n cs p low high u = go (first_or_none S cs n)
  where
    go : ((L : ℕ) × FirstAmong S n cs L) ⊎ NoneOf S cs n → (L : ℕ) × FirstAmong S n cs L
    go (inl x) = x
    go (inr none) = absurd (none p low high u)

pub one-first : OneFirst
one-first S n cs L K f g = go (ℕ_discrete L K)
  where
    go : Dec (L ≡ K) → L ≡ K
    go (yes e) = e
    go (no ne) =
        let a : Ahead S cs L K = f.least K g.low g.high g.in_set (λ e. ne (sym e)) in
        let b : Ahead S cs K L = g.least L f.low f.high f.in_set ne in
        absurd (true≢false (sym b ∙ strict_holds (starts L cs) (rank_of 0 L cs) L (starts K cs) (rank_of 0 K cs) K a))

pub leader_exists : LeaderExists
leader_exists n cs p low high u =
    let (L, f) = first-exists (λ q. is_up_after false q cs) n cs p low high u in
    (L, (first-up n cs L).1 f)

pub one-leader : OneLeader
one-leader n cs L K f g = one-first (λ q. is_up_after false q cs) n cs L K ((first-up n cs L).0 f) ((first-up n cs K).0 g)

-- equal ranks do not matter
ahead-equal : (cs : List Command) (L p : ℕ) → rank_of 0 L cs ≡ rank_of 0 p cs → (ahead cs L p ≡ true) ↔ ((starts L cs < starts p cs) ⊎ ((starts L cs ≡ starts p cs) × (L < p)))
ahead-equal cs L p e = rw e (ranks-equal (starts L cs) (starts p cs) (rank_of 0 p cs) L p)

pub first-is_fewest : FirstIsFewest
first-is_fewest n cs L same = (
  λ f. record { low = f.low; high = f.high; is_up = f.is_up; fewest = λ p low high u ne. (ahead-equal cs L p (same L p f.low f.high f.is_up low high u)).0 (f.least p low high u ne) },
  λ f. record { low = f.low; high = f.high; is_up = f.is_up; least = λ p low high u ne. (ahead-equal cs L p (same L p f.low f.high f.is_up low high u)).1 (f.fewest p low high u ne) },
)

pub settling_by_starts : SettlingByStarts
settling_by_starts bytes stretch d L ok flash (same, f) quiet =
    settling bytes stretch d L ok flash ((first-is_fewest (schedule bytes).system.n (commands bytes) L same).1 f) quiet
