-- A verdict is given exactly where its words hold, and in a sound system the leader of an agreed dark is down.
use mathlib.Core.Path.{◌≡◌, refl, sym, ap, subst, ◌∙◌}
use mathlib.Core.Logic.◌⊎◌.{inl, inr}
use mathlib.Core.List.{List}
use mathlib.Core.Bool.{Bool, true, false, not, ◌&&◌, true≢false}
use Prim.Native.Nat.{ℕ, zero, suc, ◌+◌, ◌-◌, ◌<◌, ◌≤◌}
use native.Mathlib.Decide.{dec_lt}
use native.Mathlib.Omega.{arith}
use lib.Dec.{ltb}
use lib.ListN.{get_or}
use borrow.Author.Tests.{not-true, not-false, eqb-true, eqb-false, ltb-true, ltb-false, lt-ltb}
use Rattle.lists.specs.Fold.{each}
use Rattle.lists.proofs.Bools.{both, true_unless, false_unless}
use Rattle.lists.proofs.Test.{all_at, all_fails}
use Rattle.fit.specs.Fit.{within}
use Rattle.fit.proofs.Tests.{within_of, of_within}
use Rattle.station.specs.declared.Station.{Station}
use Rattle.election.specs.Listing.{dark, trusts, all_trust, leader_after, a_leader, up_among, verdict}
use Rattle.election.specs.System.{no_station, station_of, station}
use Rattle.election.specs.Verdicts.{Up, trusted, NoneUp, SomeUp, AllTrust, Disagree, Words, VerdictExact, AgreedDarkExact}
use Rattle.election.specs.declared.Verdict.{Verdict}
use Rattle.election.specs.declared.Verdict.TheVariants.{Dark, Agreed, AgreedDark, Split}
use Rattle.election.proofs.Heads.{fits-leader}
use Rattle.election.proofs.Places.{seat_at}
use Rattle.election.proofs.Soundness.{sound-of}

-- a station by its place
pub up_at : (n : ℕ) (stations : List Station) (k : ℕ) → k < n → (get_or stations k no_station).up ≡ true → Up n stations (k + 1)
up_at n stations k h u = (omega arith, omega (arith, h), ap (λ x. x.up) (seat_at stations k) ∙ u)

-- an up station that trusts the leader that is looked at
abbrev pub Looked : ℕ → List Station → ℕ → Type 0
Looked n stations l = (p : ℕ) × Up n stations p × (trusted stations p ≡ l)

-- there is one, where one is up
pub a_leader_lem : (n : ℕ) (stations : List Station) → SomeUp n stations → Looked n stations (a_leader n stations)
unfolding a_leader each
a_leader_lem zero stations x = absurd (omega (arith, x.1.0, x.1.1))
a_leader_lem (suc n) stations x = go (get_or stations n no_station).up refl x.0 x.1 (dec_lt n x.0) (a_leader_lem n stations)
  where
    go : (b : Bool) → (get_or stations n no_station).up ≡ b → (p : ℕ) → Up (suc n) stations p → Dec (n < p) → (SomeUp n stations → Looked n stations (a_leader n stations)) → Looked (suc n) stations (leader_after (get_or stations n no_station) (a_leader n stations))
    go true e p u d r = (n + 1, up_at (suc n) stations n (omega arith) e, rw e (ap (λ x. x.leader) (seat_at stations n)))
    go false e p (low, high, u) (no l) r = let (q, (a, b, v), f) = r (p, (low, omega (arith, l), u)) in (q, (a, omega (arith, b), v), rw e f)
    go false e p (low, high, u) (yes l) r =
        let same : p - 1 ≡ n = omega (arith, low, high, l) in
        absurd (true≢false (sym u ∙ ap (λ i. (get_or stations i no_station).up) same ∙ e))

module _ (n : ℕ) (stations : List Station) where
  none-up : dark n stations ≡ true → NoneUp n stations
  unfolding dark
  none-up e p (low, high, u) =
      true≢false (sym u ∙ not-true (station_of stations p).up (all_at n (p - 1) (λ k. not (get_or stations k no_station).up) e (omega (arith, low, high))))

  pub some_up : dark n stations ≡ false → SomeUp n stations
  unfolding dark
  some_up e = let (k, h, f) = all_fails n (λ k. not (get_or stations k no_station).up) e in (k + 1, up_at n stations k h (not-false (get_or stations k no_station).up f))

  pub all_trust_lem : (l : ℕ) → all_trust n stations l ≡ true → AllTrust n stations l
  unfolding all_trust
  all_trust_lem l e p (low, high, u) =
      eqb-true (trusted stations p) l (rw u at (all_at n (p - 1) (λ k. trusts l (get_or stations k no_station)) e (omega (arith, low, high))))

  another : (l : ℕ) → all_trust n stations l ≡ false → (p : ℕ) × Up n stations p × (trusted stations p ≡ l → ⊥)
  unfolding all_trust
  another l e = let (k, h, f) = all_fails n (λ k. trusts l (get_or stations k no_station)) e in go k h (get_or stations k no_station).up refl f
    where
      go : (k : ℕ) → k < n → (b : Bool) → (get_or stations k no_station).up ≡ b → trusts l (get_or stations k no_station) ≡ false → (p : ℕ) × Up n stations p × (trusted stations p ≡ l → ⊥)
      go k h true u f = (k + 1, up_at n stations k h u, λ same. eqb-false (get_or stations k no_station).leader l (rw u at f) (sym (ap (λ x. x.leader) (seat_at stations k)) ∙ same))
      go k h false u f = absurd (true≢false (rw u at f))

  leader_up : (l : ℕ) → up_among n stations l ≡ true → Up n stations l
  unfolding up_among
  leader_up l e =
      let (w, u) = both (within 1 l n) (station_of stations l).up e in
      let (low, high) = within_of 1 l n w in
      (low, high, u)

  leader_not_up : (l : ℕ) → up_among n stations l ≡ false → Up n stations l → ⊥
  unfolding up_among
  leader_not_up l e (low, high, u) = true≢false (sym (rw (of_within 1 l n low high) u) ∙ e)

  -- all up stations trust l, and l is a station's number
  agreeing : (l : ℕ) → (ltb 0 l && all_trust n stations l) ≡ true → (1 ≤ l) × AllTrust n stations l
  agreeing l e = let (a, t) = both (ltb 0 l) (all_trust n stations l) e in (ltb-true 0 l a, all_trust_lem l t)

  all_agree : (l : ℕ) → 1 ≤ l → AllTrust n stations l → (ltb 0 l && all_trust n stations l) ≡ true
  all_agree l h t = rw (lt-ltb 0 l h, true_unless (all_trust n stations l) (λ e. let (p, u, ne) = another l e in ne (t p u)))

  -- where they do not trust the leader that is looked at, or it is none, they do not agree
  disagreeing : SomeUp n stations → (ltb 0 (a_leader n stations) && all_trust n stations (a_leader n stations)) ≡ false → Disagree n stations
  disagreeing x e = go (ltb 0 (a_leader n stations)) refl (a_leader_lem n stations x)
    where
      go : (b : Bool) → ltb 0 (a_leader n stations) ≡ b → Looked n stations (a_leader n stations) → Disagree n stations
      go true l (p, u, h) = let (q, v, ne) = another (a_leader n stations) (rw l at e) in inl (p, q, u, v, λ same. ne (sym same ∙ h))
      go false l (p, u, h) = let none : a_leader n stations ≡ 0 = omega (arith, ltb-false 0 (a_leader n stations) l) in inr (p, u, h ∙ none)

  -- the words of the one that is given hold
  given-words : Words n stations (verdict n stations)
  unfolding verdict
  given-words = go (dark n stations) refl (ltb 0 (a_leader n stations) && all_trust n stations (a_leader n stations)) refl (up_among n stations (a_leader n stations)) refl
    where
      go : (d : Bool) → dark n stations ≡ d → (a : Bool) → (ltb 0 (a_leader n stations) && all_trust n stations (a_leader n stations)) ≡ a → (u : Bool) → up_among n stations (a_leader n stations) ≡ u → Words n stations (verdict n stations)
      go true e a f u g = rw e (none-up e)
      go false e true f true g = rw (e, f, g) ((agreeing (a_leader n stations) f).1, leader_up (a_leader n stations) g)
      go false e true f false g = let (low, t) = agreeing (a_leader n stations) f in rw (e, f, g) (some_up e, low, t, leader_not_up (a_leader n stations) g)
      go false e false f u g = rw (e, f) (disagreeing (some_up e) f)

  not_dark : SomeUp n stations → dark n stations ≡ false
  not_dark (p, u) = false_unless (dark n stations) (λ e. none-up e p u)

  some_leader : (l : ℕ) → SomeUp n stations → AllTrust n stations l → a_leader n stations ≡ l
  some_leader l x t = let (p, u, e) = a_leader_lem n stations x in sym e ∙ t p u

  -- stations that do not agree are some, and trust no leader all
  pub disagree_some : Disagree n stations → SomeUp n stations
  disagree_some (inl (p, q, u, v, ne)) = (p, u)
  disagree_some (inr (p, u, e)) = (p, u)

  pub no_agreement : (l : ℕ) → 1 ≤ l → AllTrust n stations l → Disagree n stations → ⊥
  no_agreement l h t (inl (p, q, u, v, ne)) = ne (t p u ∙ sym (t q v))
  no_agreement l h t (inr (p, u, e)) = omega (arith, h, sym (t p u) ∙ e)

  -- and where the words of a verdict hold it is given
  words-given : (v : Verdict) → Words n stations v → verdict n stations ≡ v
  unfolding verdict
  words-given Dark none = rw (true_unless (dark n stations) (λ e. let (p, u) = some_up e in none p u))
  words-given (Agreed l) (t, u) =
      rw (not_dark (l, u), some_leader l (l, u) t, all_agree l u.0 t, true_unless (up_among n stations l) (λ e. leader_not_up l e u))
  words-given (AgreedDark l) (x, low, t, not-up) =
      rw (not_dark x, some_leader l x t, all_agree l low t, false_unless (up_among n stations l) (λ e. not-up (leader_up l e)))
  words-given Split d =
      let l : ℕ = a_leader n stations in
      rw (not_dark (disagree_some d), false_unless (ltb 0 l && all_trust n stations l) (λ e. let (low, t) = agreeing l e in no_agreement l low t d))

pub verdict-exact : VerdictExact
verdict-exact n stations v = (λ e. subst (Words n stations) e (given-words n stations), words-given n stations v)

pub agreed_dark_exact : AgreedDarkExact
agreed_dark_exact s l e r = (
  λ given.
      let (x, from_one, t, not-up) = (verdict-exact s.n s.stations (AgreedDark l)).0 given in
      let (p, (low, high, u)) = x in
      let to-n : trusted s.stations p ≤ s.n = fits-leader p s.n s.period s.tick (station s p) s.clock ((sound-of s e r).fits p (record { low = low; high = high })) u in
      let to-n : l ≤ s.n = subst (λ z. z ≤ s.n) (t p (low, high, u)) to-n in
      (x, t, (from_one, to-n, false_unless (station s l).up (λ up. not-up (from_one, to-n, up)))),
  λ words.
      let (x, t, (low, high, down)) = words in
      (verdict-exact s.n s.stations (AgreedDark l)).1 (x, low, t, λ up. true≢false (sym up.2 ∙ down)),
)
