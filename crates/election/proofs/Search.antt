-- The search for agreement ends where Paper 4 says.
use mathlib.Core.Path.{◌≡◌, refl, sym, ap, subst, ◌∙◌}
use mathlib.Core.Logic.{◌≢◌, ◌↔◌}
use mathlib.Core.Logic.◌⊎◌.{inl, inr}
use mathlib.Core.List.{List}
use mathlib.Core.Bool.{Bool, true, false, cond, true≢false}
use Prim.Native.Nat.{ℕ, zero, suc, ◌+◌, ◌-◌, ◌<◌, ◌≤◌}
use native.Mathlib.Decide.{dec_lt, ℕ_discrete}
use native.Mathlib.Omega.{arith}
use lib.Dec.{ltb}
use lib.ListN.{length, get_or, length-set}
use borrow.Author.Tests.{lt-ltb, le-ltb}
use Rattle.lists.specs.Entries.{up_to}
use Rattle.lists.proofs.Bools.{true_unless, false_unless}
use Rattle.lists.proofs.Entries.{get_d_up_to}
use Rattle.station.specs.Rules.{crashed}
use Rattle.station.specs.declared.Station.{Station}
use Rattle.station.proofs.Fields.{crashed-up}
use Rattle.election.specs.Listing.{verdict}
use Rattle.election.specs.Search.{is_split, ends_at, SameTo, CanOnlySplit, CanOnlySplitSound, EndsThere, EndsExact, EndsExactSound, OnlySplit, NotBefore, NotBeforeSound, ElseLast}
use Rattle.election.specs.System.{no_station, station_of, station, with_stations, with_station}
use Rattle.election.specs.Verdicts.{Up, trusted, Disagree}
use Rattle.election.specs.declared.System.{System}
use Rattle.election.specs.declared.Verdict.{Verdict}
use Rattle.election.specs.declared.Verdict.TheVariants.{Dark, Agreed, AgreedDark, Split}
use Rattle.election.proofs.Changes.{crash-sound, changed_same, changed_other}
use Rattle.election.proofs.Places.{In}
use Rattle.election.proofs.Soundness.{Sound, sound-of, of_sound}
use Rattle.election.proofs.Verdicts.{verdict-exact, disagree_some}

pub is-split : (v : Verdict) → is_split v ≡ true → v ≡ Split
is-split Dark e = absurd (true≢false (sym e))
is-split (Agreed l) e = absurd (true≢false (sym e))
is-split (AgreedDark l) e = absurd (true≢false (sym e))
is-split Split e = refl

-- the first k are split exactly where the up ones of them do not agree
pub split_disagree : (k : ℕ) (stations : List Station) → is_split (verdict k stations) ≡ true → Disagree k stations
split_disagree k stations e = (verdict-exact k stations Split).0 (is-split (verdict k stations) e)

pub disagree_split : (k : ℕ) (stations : List Station) → Disagree k stations → is_split (verdict k stations) ≡ true
disagree_split k stations d = ap is_split ((verdict-exact k stations Split).1 d)

-- up stations that are up in another list too and trust the same there do not agree there either
disagree_there : (k n : ℕ) (stations others : List Station) → ((p : ℕ) → Up k stations p → Up n others p × (trusted others p ≡ trusted stations p)) → Disagree k stations → Disagree n others
disagree_there k n stations others f (inl (p, q, u, v, ne)) = inl (p, q, (f p u).0, (f q v).0, λ e. ne (sym (f p u).1 ∙ e ∙ (f q v).1))
disagree_there k n stations others f (inr (p, u, e)) = inr (p, (f p u).0, (f p u).1 ∙ e)

-- two lists with the same first k stations: where these do not agree, more do not
module _ (k n : ℕ) (stations others : List Station) (same : SameTo k stations others) where
  widened : k ≤ n → Disagree k stations → Disagree n others
  widened h =
      disagree_there k n stations others
      (λ p u. ((u.0, omega (arith, u.1, h), ap (λ x. x.up) (same p u.0 u.1) ∙ u.2), ap (λ x. x.leader) (same p u.0 u.1)))

  -- and where those after k are down and more do not agree, these do not
  module _ (down : (p : ℕ) → k < p → p ≤ n → (station_of others p).up ≡ false) where
    among : (p : ℕ) → Up n others p → p ≤ k
    among p (low, high, u) = go (dec_lt k p)
      where
        go : Dec (k < p) → p ≤ k
        go (yes l) = absurd (true≢false (sym u ∙ down p l high))
        go (no l) = omega (arith, l)

    narrowed : Disagree n others → Disagree k stations
    narrowed =
        disagree_there n k others stations
        (λ p u. ((u.0, among p u, sym (ap (λ x. x.up) (same p u.0 (among p u))) ∙ u.2), sym (ap (λ x. x.leader) (same p u.0 (among p u)))))

    -- so they are not split where these are not
    not_split : is_split (verdict k stations) ≡ false → verdict n others ≢ Split
    not_split e f = true≢false (sym (disagree_split k stations (narrowed ((verdict-exact n others Split).0 f))) ∙ e)

-- split, they stay so
pub stays_split : (k n : ℕ) (stations : List Station) → k ≤ n → is_split (verdict k stations) ≡ true → is_split (verdict n stations) ≡ true
stays_split k n stations h e = disagree_split n stations (widened k n stations stations (λ p a b. refl) h (split_disagree k stations e))

-- where it ends
pub record SearchEnds (n : ℕ) (stations : List Station) (p : ℕ) : Type 0 where
  pub high : p ≤ n
  pub undecided : (k : ℕ) → k < p → is_split (verdict k stations) ≡ false
  pub split : is_split (verdict n stations) ≡ true → is_split (verdict p stations) ≡ true
  pub last : is_split (verdict n stations) ≡ false → p ≡ n

pub search_ends : (n : ℕ) (stations : List Station) → SearchEnds n stations (ends_at n stations)
unfolding ends_at
search_ends zero stations = record { high = omega arith; undecided = λ k l. absurd (omega (arith, l)); split = λ e. e; last = λ e. refl }
search_ends (suc n) stations = go (is_split (verdict n stations)) refl (search_ends n stations)
  where
    go : (b : Bool) → is_split (verdict n stations) ≡ b → SearchEnds n stations (ends_at n stations) → SearchEnds (suc n) stations (cond (is_split (verdict n stations)) (ends_at n stations) (suc n))
    go true e r =
        rw e
        (record {
          high = omega (arith, r.high);
          undecided = r.undecided;
          split = λ f. r.split e;
          last = λ f. absurd (true≢false (sym (stays_split n (suc n) stations (omega arith) e) ∙ f));
        })
    go false e r =
        rw e
        (record {
          high = omega arith;
          undecided = λ k l. false_unless (is_split (verdict k stations)) (λ t. true≢false (sym (stays_split k n stations (omega (arith, l)) t) ∙ e));
          split = λ f. f;
          last = λ f. refl;
        })

-- it ends with the station that splits them
pub ends_with : (n k : ℕ) (stations : List Station) → k < n → is_split (verdict k stations) ≡ false → is_split (verdict (k + 1) stations) ≡ true → ends_at n stations ≡ k + 1
ends_with n k stations l e f = go (dec_lt k p) (dec_lt (k + 1) p)
  where
    p : ℕ
    p = ends_at n stations

    r : SearchEnds n stations p
    r = search_ends n stations

    at-end : is_split (verdict p stations) ≡ true
    at-end = r.split (stays_split (k + 1) n stations (omega (arith, l)) f)

    go : Dec (k < p) → Dec (k + 1 < p) → p ≡ k + 1
    go (no a) b = absurd (true≢false (sym (stays_split p k stations (omega (arith, a)) at-end) ∙ e))
    go (yes a) (yes b) = absurd (true≢false (sym f ∙ r.undecided (k + 1) b))
    go (yes a) (no b) = omega (arith, a, b)

pub only_split : OnlySplit
only_split n stations e others same =
    let r : SearchEnds n stations (ends_at n stations) = search_ends n stations in
    (verdict-exact n others Split).1
    (widened (ends_at n stations) n stations others same r.high (split_disagree (ends_at n stations) stations (r.split (ap is_split e))))

-- the first k stations of a list, and those after them down
abbrev rest_down : ℕ → List Station → ℕ → Station
rest_down k stations i = cond (ltb i k) (get_or stations i no_station) no_station

pub not_before : NotBefore
not_before n stations k l =
    let r : SearchEnds n stations (ends_at n stations) = search_ends n stations in
    let others : List Station = up_to n (rest_down k stations) in
    let same : SameTo k stations others = λ p a b.
    get_d_up_to n (rest_down k stations) (p - 1) no_station (omega (arith, a, b, l, r.high)) ∙ rw (lt-ltb (p - 1) k (omega (arith, a, b)))
    in (
      others,
      same,
      not_split k n stations others same
          (λ p a b. ap (λ x. x.up) (get_d_up_to n (rest_down k stations) (p - 1) no_station (omega (arith, a, b))) ∙ rw (le-ltb (p - 1) k (omega (arith, a))))
          (r.undecided k l),
    )

-- other stations with which a system is sound, the same up to k, and down after that up to m: they crash
record Quieted (s : System) (k m : ℕ) : Type 0 where
  others : List Station
  long : length others ≡ length s.stations
  is-sound : Sound (with_stations others s)
  same : SameTo k s.stations others
  down : (p : ℕ) → k < p → p ≤ m → (station_of others p).up ≡ false

-- one station more
module _ (s : System) (k m : ℕ) (q : Quieted s k m) (from : k ≤ m) (h : m < s.n) where
  abbrev t : System
  t = with_stations q.others s

  abbrev x : Station
  x = crashed (station t (m + 1))

  i : In t.n (m + 1)
  i = record { low = omega arith; high = omega (arith, h) }

  is_down : (station t (m + 1)).up ≡ false → Quieted s k (m + 1)
  is_down e = record { others = q.others; long = q.long; is-sound = q.is-sound; same = q.same; down = λ p a b. at p a b (ℕ_discrete p (m + 1)) }
    where
      at : (p : ℕ) → k < p → p ≤ m + 1 → Dec (p ≡ m + 1) → (station t p).up ≡ false
      at p a b (yes z) = ap (λ y. (station t y).up) z ∙ e
      at p a b (no z) = q.down p a (omega (arith, b, z))

  crashes : (station t (m + 1)).up ≡ true → Quieted s k (m + 1)
  crashes e =
      record {
        others = (with_station (m + 1) x t).stations;
        long = length-set q.others (m + 1 - 1) x ∙ q.long;
        is-sound = crash-sound t q.is-sound (m + 1) i e;
        same = λ p a b. changed_other t q.is-sound (m + 1) i x p a (λ z. omega (arith, z, b, from)) ∙ q.same p a b;
        down = λ p a b. at p a b (ℕ_discrete p (m + 1));
      }
    where
      at : (p : ℕ) → k < p → p ≤ m + 1 → Dec (p ≡ m + 1) → (station (with_station (m + 1) x t) p).up ≡ false
      at p a b (yes z) =
          ap (λ y. (station (with_station (m + 1) x t) y).up) z ∙ ap (λ y. y.up) (changed_same t q.is-sound (m + 1) i x) ∙ crashed-up (station t (m + 1))
      at p a b (no z) = ap (λ y. y.up) (changed_other t q.is-sound (m + 1) i x p (omega (arith, a)) z) ∙ q.down p a (omega (arith, b, z))

  quieter : Quieted s k (m + 1)
  quieter = go (station t (m + 1)).up refl
    where
      go : (b : Bool) → (station t (m + 1)).up ≡ b → Quieted s k (m + 1)
      go true e = crashes e
      go false e = is_down e

quieted : (s : System) → Sound s → (k j : ℕ) → k + j ≤ s.n → Quieted s k (k + j)
quieted s f k zero h = record { others = s.stations; long = refl; is-sound = f; same = λ p a b. refl; down = λ p a b. absurd (omega (arith, a, b)) }
quieted s f k (suc j) h =
    let more : k + j + 1 ≡ k + suc j = omega arith in
    subst (Quieted s k) more (quieter s k (k + j) (quieted s f k j (omega (arith, h))) (omega arith) (omega (arith, h)))

pub not_before_sound : NotBeforeSound
not_before_sound s e r k l =
    let w : SearchEnds s.n s.stations (ends_at s.n s.stations) = search_ends s.n s.stations in
    let q : Quieted s k (k + (s.n - k)) = quieted s (sound-of s e r) k (s.n - k) (omega (arith, l, w.high)) in (
      q.others,
      q.long,
      q.same,
      of_sound (with_stations q.others s) q.is-sound r,
      not_split k s.n s.stations q.others q.same (λ p a b. q.down p a (omega (arith, b, l, w.high))) (w.undecided k l),
    )

pub else_last : ElseLast
else_last n stations ne = (search_ends n stations).last (false_unless (is_split (verdict n stations)) (λ e. ne (is-split (verdict n stations) e)))

-- where the line is split it ends at an up station
ends-up : (n : ℕ) (stations : List Station) → is_split (verdict n stations) ≡ true → Up n stations (ends_at n stations)
ends-up n stations e =
    let r : SearchEnds n stations (ends_at n stations) = search_ends n stations in
    let p : ℕ = ends_at n stations in
    let (q, (q-low, q-high, v)) = disagree_some p stations (split_disagree p stations (r.split e)) in
    let low : 1 ≤ p = omega (arith, q-low, q-high) in (
      low,
      r.high,
      true_unless (station_of stations p).up
          (λ u.
          not_split (p - 1) p stations stations (λ q a b. refl)
          (λ q a b. let same : q ≡ p = omega (arith, a, b, low) in ap (λ x. (station_of stations x).up) same ∙ u)
          (r.undecided (p - 1) (omega (arith, low))) (is-split (verdict p stations) (r.split e))),
    )

-- the request's sentence, by what it means that the line can only be split
module _
    (n : ℕ)
    (stations : List Station)
    (Only : ℕ → Type 0)
    (split : is_split (verdict n stations) ≡ true → Only (ends_at n stations))
    (earlier : (k : ℕ) → k < ends_at n stations → Only k → ⊥)
    (nowhere : is_split (verdict n stations) ≡ false → (k : ℕ) → Only k → ⊥)
  where
    -- it holds of where the search ends
    there : EndsThere n stations Only (ends_at n stations)
    there = go (is_split (verdict n stations)) refl
      where
        go : (b : Bool) → is_split (verdict n stations) ≡ b → EndsThere n stations Only (ends_at n stations)
        go true e = inl (ends-up n stations e, split e, λ q u. earlier q)
        go false e = inr (λ q u. nowhere e q, (search_ends n stations).last e)

    -- and of no other place
    one_place : (p q : ℕ) → EndsThere n stations Only p → EndsThere n stations Only q → p ≡ q
    one_place p q (inl (u, c, f)) (inl (v, d, g)) = go (dec_lt p q) (dec_lt q p)
      where
        go : Dec (p < q) → Dec (q < p) → p ≡ q
        go (yes l) m = absurd (g p u l c)
        go (no l) (yes m) = absurd (f q v m d)
        go (no l) (no m) = omega (arith, l, m)
    one_place p q (inl (u, c, f)) (inr (none, e)) = absurd (none p u c)
    one_place p q (inr (none, e)) (inl (v, d, g)) = absurd (none q v d)
    one_place p q (inr (none, e)) (inr (nor, f)) = e ∙ sym f

    exact : (p : ℕ) → (ends_at n stations ≡ p) ↔ EndsThere n stations Only p
    exact p = (λ e. subst (EndsThere n stations Only) e there, λ h. one_place (ends_at n stations) p there h)

pub ends-exact : EndsExact
ends-exact n stations =
    exact n stations (CanOnlySplit n stations)
    (λ e. only_split n stations (is-split (verdict n stations) e))
    (λ k l c. let (others, same, ne) = not_before n stations k l in ne (c others same))
    (λ e k c. true≢false (sym (ap is_split (c stations (λ p a b. refl))) ∙ e))

pub ends-exact_sound : EndsExactSound
ends-exact_sound s h r =
    exact s.n s.stations (CanOnlySplitSound s)
    (λ e others long same i. only_split s.n s.stations (is-split (verdict s.n s.stations) e) others same)
    (λ k l c. let (others, long, same, i, ne) = not_before_sound s h r k l in ne (c others long same i))
    (λ e k c. true≢false (sym (ap is_split (c s.stations refl (λ p a b. refl) h)) ∙ e))
