-- The scan of the search, station by station.
use mathlib.Core.Path.{◌≡◌, refl, sym, ap, subst, ◌∙◌}
use mathlib.Core.Logic.{◌⊎◌}
use mathlib.Core.Logic.◌⊎◌.{inl, inr}
use mathlib.Core.List.{List}
use mathlib.Core.Bool.{Bool, true, false, cond, not, ◌&&◌, ◌||◌, and-false, and-true, true≢false}
use Rattle.std.specs.Prelude.{Option, Some, None}
use Rattle.std.proofs.lemmas.Option.{none-some}
use Prim.Native.Nat.{ℕ, zero, suc, ◌+◌, ◌-◌, ◌<◌, ◌≤◌, min}
use native.Mathlib.Decide.{dec_lt}
use native.Mathlib.Numerals.{add-one}
use native.Mathlib.Omega.{arith}
use lib.Dec.{leb, ltb, eqb}
use lib.ListN.{length, get_or, take, get_or-eq_default}
use lib.Seq.{length-take-le, get_or-take}
use borrow.Author.Tests.{not-true, not-false, eqb-true, eqb-false, eq-eqb, ltb-true, lt-ltb, lt-leb, le-leb}
use Rattle.lists.specs.Fold.{each}
use Rattle.lists.specs.Test.{all_to}
use Rattle.lists.proofs.Bools.{both, either, neither, false_unless}
use Rattle.lists.proofs.Test.{all_at, all_of}
use Rattle.fit.specs.Fit.{within}
use Rattle.fit.proofs.Tests.{of_within}
use Rattle.station.specs.declared.Station.{Station}
use Rattle.election.specs.Listing.{dark, trusts, all_trust, leader_after, a_leader, up_among, verdict}
use Rattle.election.specs.Search.{is_split, searched}
use Rattle.election.specs.System.{no_station, station_of}
use Rattle.election.specs.Verdicts.{Up, trusted, Disagree}
use Rattle.election.specs.declared.Verdict.{Verdict}
use Rattle.election.specs.declared.Verdict.TheVariants.{Dark, Agreed, AgreedDark, Split}
use Rattle.election.proofs.Places.{seat_at}
use Rattle.election.proofs.Search.{split_disagree, disagree_split, stays_split, is-split, search_ends, ends_with}
use Rattle.election.proofs.Verdicts.{up_at, a_leader_lem, some_up, all_trust_lem, no_agreement}
use Rattle.listing.specs.Scan.{differs, ends_search}
use Rattle.std.specs.Bool.{then_some}
use Rattle.std.specs.Option.{option_or}

-- what is known after k stations: the leader that all up ones trust, 0 where none is up
pub record Seen (stations : List Station) (k l : ℕ) : Type 0 where
  pub is_some : ltb 0 l ≡ not (dark k stations)
  pub leader : l ≡ a_leader k stations
  pub agreed : all_trust k stations l ≡ true

pub seen_none : (stations : List Station) → Seen stations 0 0
unfolding dark all_trust a_leader all_to each
seen_none stations = record { is_some = refl; leader = refl; agreed = refl }

-- where none is up, all up ones trust whomever, and it is dark
dark-trusts : (k : ℕ) (stations : List Station) (l : ℕ) → dark k stations ≡ true → all_trust k stations l ≡ true
unfolding dark all_trust
dark-trusts k stations l e =
    all_of k (λ i. trusts l (get_or stations i no_station))
    (λ i h. rw (not-true (get_or stations i no_station).up (all_at k i (λ j. not (get_or stations j no_station).up) e h)))

dark-verdict : (k : ℕ) (stations : List Station) → dark k stations ≡ true → verdict k stations ≡ Dark
unfolding verdict
dark-verdict k stations e = rw e

-- where the line is not split, the search ends at station n
ended_at : (n : ℕ) (stations : List Station) (v : Verdict) → is_split v ≡ false → verdict n stations ≡ v → record { finding = v; ended = n } ≡ searched n stations
ended_at n stations v e f = rw (f, (search_ends n stations).last (ap is_split f ∙ e))

-- it is up and trusts nobody
abbrev leaderless : Station → Bool
leaderless x = x.up && eqb x.leader 0

-- a station ends the search after up ones that trust l: it is up and trusts nobody, or another than l
abbrev ends : ℕ → Station → Bool
ends l x = leaderless x || (ltb 0 l && not (trusts l x))

-- what follows from what is known after k stations
module _ (stations : List Station) (k l : ℕ) (s : Seen stations k l) where
  abbrev x : Station
  x = get_or stations k no_station

  -- a station more, that does not end it
  pub seen-turn : ends l x ≡ false → Seen stations (k + 1) (leader_after x l)
  unfolding dark all_trust a_leader all_to each
  seen-turn e =
      let (f, g) = neither (leaderless x) (ltb 0 l && not (trusts l x)) e in
      rw add-one (record { is_some = so x.up refl f; leader = ap (leader_after x) s.leader; agreed = agree x.up refl (ltb 0 l) refl g })
    where
      so : (u : Bool) → x.up ≡ u → leaderless x ≡ false → ltb 0 (leader_after x l) ≡ not (dark k stations && not x.up)
      so true u f = let some : 0 < x.leader = omega (arith, eqb-false x.leader 0 (rw u at f)) in rw (u, lt-ltb 0 x.leader some, and-false (dark k stations))
      so false u f = rw (u, and-true (dark k stations)) s.is_some

      agree : (u : Bool) → x.up ≡ u → (b : Bool) → ltb 0 l ≡ b → (ltb 0 l && not (trusts l x)) ≡ false → (all_trust k stations (leader_after x l) && trusts (leader_after x l) x) ≡ true
      agree false u b i g = rw (u, s.agreed)
      agree true u false i g = rw (u, dark-trusts k stations x.leader (not-false (dark k stations) (sym s.is_some ∙ i)), eq-eqb x.leader x.leader refl)
      agree true u true i g = let same : x.leader ≡ l = eqb-true x.leader l (not-false _ (rw (i, u) at g)) in rw (u, same, s.agreed, eq-eqb l l refl)

  -- one that ends it: with it they do not agree
  disagree : ends l x ≡ true → Disagree (k + 1) stations
  disagree e = go (either (leaderless x) (ltb 0 l && not (trusts l x)) e)
    where
      differ : (b : Bool) → x.up ≡ b → (p : ℕ) → Up (k + 1) stations p → trusted stations p ≡ l → trusts l x ≡ false → Disagree (k + 1) stations
      differ true u p v same f =
          inl (p, k + 1, v, up_at (k + 1) stations k (omega arith) u, λ e. eqb-false x.leader l (rw u at f) (sym (ap (λ (y : Station). y.leader) (seat_at stations k)) ∙ sym e ∙ same))
      differ false u p v same f = absurd (true≢false (rw u at f))

      go : (leaderless x ≡ true) ⊎ ((ltb 0 l && not (trusts l x)) ≡ true) → Disagree (k + 1) stations
      go (inl f) =
          let (u, none) = both x.up (eqb x.leader 0) f in
          inr (k + 1, up_at (k + 1) stations k (omega arith) u, ap (λ (y : Station). y.leader) (seat_at stations k) ∙ eqb-true x.leader 0 none)
      go (inr f) =
          let (i, g) = both (ltb 0 l) (not (trusts l x)) f in
          let (p, (low, high, u), same) = a_leader_lem k stations (some_up k stations (not-true (dark k stations) (sym s.is_some ∙ i))) in
          differ x.up refl p (low, omega (arith, high), u) (same ∙ sym s.leader) (not-true (trusts l x) g)

  -- the first k do
  not_yet : is_split (verdict k stations) ≡ false
  not_yet = go (ltb 0 l) refl
    where
      go : (b : Bool) → ltb 0 l ≡ b → is_split (verdict k stations) ≡ false
      go true i =
          false_unless (is_split (verdict k stations))
          (λ e. no_agreement k stations l (ltb-true 0 l i) (all_trust_lem k stations l s.agreed) (split_disagree k stations e))
      go false i = ap is_split (dark-verdict k stations (not-false (dark k stations) (sym s.is_some ∙ i)))

  -- so the search ends there
  pub seen-split : (n : ℕ) → k < n → ends l x ≡ true → record { finding = Split; ended = k + 1 } ≡ searched n stations
  seen-split n h e =
      let at : is_split (verdict (k + 1) stations) ≡ true = disagree_split (k + 1) stations (disagree e) in
      let v : verdict n stations ≡ Split = is-split (verdict n stations) (stays_split (k + 1) n stations (omega (arith, h)) at) in
      rw (v, ends_with n k stations h not_yet at)

  -- or at the last station: dark, agreed or agreed dark
  pub seen-dark : l ≡ 0 → record { finding = Dark; ended = k } ≡ searched k stations
  seen-dark e = ended_at k stations Dark refl (dark-verdict k stations (not-false (dark k stations) (sym s.is_some ∙ ap (ltb 0) e)))

  module _ (some : 1 ≤ l) where
    pub seen-agreed : up_among k stations l ≡ true → record { finding = Agreed l; ended = k } ≡ searched k stations
    unfolding verdict
    seen-agreed u = ended_at k stations (Agreed l) refl (rw (not-true (dark k stations) (sym s.is_some ∙ lt-ltb 0 l some), ← s.leader, lt-ltb 0 l some, s.agreed, u))

    pub seen-agreed_dark : up_among k stations l ≡ false → record { finding = AgreedDark l; ended = k } ≡ searched k stations
    unfolding verdict
    seen-agreed_dark u = ended_at k stations (AgreedDark l) refl (rw (not-true (dark k stations) (sym s.is_some ∙ lt-ltb 0 l some), ← s.leader, lt-ltb 0 l some, s.agreed, u))

-- stations past the end of the list are down, and change nothing
seen_more : (stations : List Station) (k l : ℕ) → length stations ≤ k → Seen stations k l → Seen stations (k + 1) l
seen_more stations k l h s =
    let gone : get_or stations k no_station ≡ no_station = get_or-eq_default stations no_station {n = k} h in
    rw gone at (seen-turn stations k l s (rw gone (and-false (ltb 0 l))))

-- the stations that have a place are at most eight, and at most n
pub seats_few : (n most : ℕ) → most ≡ min n 8 → (most ≤ 8) × (most ≤ n)
seats_few n most e = (omega (arith, e), omega (arith, e))

-- after the last station that has a place: the others change nothing
module _ (n most : ℕ) (stations : List Station) (eight : length stations ≤ 8) (e : most ≡ min n 8) where
  pub seen_all : (k l : ℕ) → k ≤ most → most ≤ k → Seen stations k l → Seen stations n l
  seen_all k l a b s = go (dec_lt n 8)
    where
      on : (j : ℕ) → Seen stations 8 l → Seen stations (8 + j) l
      on zero t = t
      on (suc j) t =
          let same : 8 + j + 1 ≡ 8 + suc j = omega arith in
          subst (λ k. Seen stations k l) same (seen_more stations (8 + j) l (omega (arith, eight)) (on j t))

      go : Dec (n < 8) → Seen stations n l
      go (yes h) = let same : k ≡ n = omega (arith, a, b, e, h) in subst (λ k. Seen stations k l) same s
      go (no h) =
          let all : k ≡ 8 = omega (arith, a, b, e, h) in
          let same : 8 + (n - 8) ≡ n = omega (arith, h) in
          subst (λ k. Seen stations k l) same (on (n - 8) (subst (λ k. Seen stations k l) all s))

  -- a leader that has a place is up where its station is; one that has none is not
  pub up_in : (l : ℕ) → 1 ≤ l → l ≤ most → up_among n stations l ≡ (station_of stations l).up
  unfolding up_among
  up_in l low high = rw (of_within 1 l n low (omega (arith, high, e)))

  pub up-out : (l : ℕ) → most < l → up_among n stations l ≡ false
  unfolding up_among
  up-out l h = go (dec_lt 8 l)
    where
      go : Dec (8 < l) → (within 1 l n && (station_of stations l).up) ≡ false
      go (yes i) =
          let gone : station_of stations l ≡ no_station = get_or-eq_default stations no_station {n = l - 1} (omega (arith, i, eight)) in
          rw gone (and-false (within 1 l n))
      go (no i) = rw (lt-leb l n (omega (arith, i, h, e)), and-false (leb 1 l))

-- the leader that the scan keeps: none where no station is up
abbrev pub led : Option ℕ → ℕ
led None = 0
led (Some l) = l

pub record Kept (stations : List Station) (k : ℕ) (leader : Option ℕ) : Type 0 where
  pub seen : Seen stations k (led leader)
  pub some : (l : ℕ) → leader ≡ Some l → 1 ≤ l

pub some-is : {k l : ℕ} → Some k ≡ Some l → k ≡ l
some-is e = cc

pub kept_none : (stations : List Station) → Kept stations 0 None
kept_none stations = record { seen = seen_none stations; some = λ l e. absurd (none-some l e) }

-- the test of the code is that of the scan
ends-is : (o : Option ℕ) (x : Station) → ((l : ℕ) → o ≡ Some l → 1 ≤ l) → ends_search o x ≡ ends (led o) x
ends-is None x h = go x.up (eqb x.leader 0)
  where
    go : (u e : Bool) → (u && (e || false)) ≡ (u && e || false)
    go true true = refl
    go true false = refl
    go false e = refl
ends-is (Some l) x h = rw (lt-ltb 0 l (h l refl)) (go x.up (eqb x.leader 0) (eqb x.leader l))
  where
    go : (u e d : Bool) → (u && (e || not d)) ≡ (u && e || not (cond u d true))
    go true true d = refl
    go true false d = refl
    go false e d = refl

-- the stations that have a place
module _ (stations : List Station) (n most : ℕ) (eight : length stations ≡ 8) (e : most ≡ min n 8) where
  abbrev seats : List Station
  seats = take most stations

  size : length seats ≡ most
  size = length-take-le most stations (omega (arith, eight, e))

  module _ (k : ℕ) (o : Option ℕ) (s : Kept stations k o) where
    -- a station more, that does not end the search, and one that does
    module _ (h : k < length seats) where
      abbrev next : Station
      next = get_or seats k no_station

      same : next ≡ get_or stations k no_station
      same = get_or-take most stations k no_station (omega (arith, size, h))

      pub kept_turn : {m : Option ℕ} → ends_search o next ≡ false → m ≡ option_or (then_some next.up next.leader) o → Kept stations (k + 1) m
      kept_turn e f = rw f (go next.up refl)
        where
          turn : Seen stations (k + 1) (leader_after next (led o))
          turn = rw same (seen-turn stations k (led o) s.seen (rw same at (sym (ends-is o next s.some) ∙ e)))

          go : (u : Bool) → next.up ≡ u → Kept stations (k + 1) (option_or (then_some u next.leader) o)
          go true u =
              let f = neither (eqb next.leader 0) (differs o next.leader) (rw u at e) in
              record { seen = rw u at turn; some = λ l g. omega (arith, eqb-false next.leader 0 f.0, some-is g) }
          go false u = record { seen = rw u at turn; some = s.some }

      pub kept-split : ends_search o next ≡ true → record { finding = Split; ended = k + 1 } ≡ searched n stations
      kept-split t = seen-split stations k (led o) s.seen n (omega (arith, size, h, e)) (rw same at (sym (ends-is o next s.some) ∙ t))

    -- after the last one
    module _ (a : k ≤ length seats) (b : length seats ≤ k) where
      all : Seen stations n (led o)
      all = seen_all n most stations (omega (arith, eight)) e k (led o) (omega (arith, size, a)) (omega (arith, size, b)) s.seen

      pub kept-dark : o ≡ None → record { finding = Dark; ended = n } ≡ searched n stations
      kept-dark f = seen-dark stations n (led o) all (rw f refl)

      module _ {l : ℕ} (f : o ≡ Some l) where
        some : 1 ≤ l
        some = s.some l f

        up : up_among n stations l ≡ (leb l (length seats) && (station_of seats l).up)
        up = go (dec_lt most l)
          where
            go : Dec (most < l) → up_among n stations l ≡ (leb l (length seats) && (station_of seats l).up)
            go (yes h) = up-out n most stations (omega (arith, eight)) e l h ∙ rw (size, lt-leb l most h) refl
            go (no h) =
                up_in n most stations (omega (arith, eight)) e l some (omega (arith, h))
                ∙ rw (size, le-leb l most (omega (arith, h)), get_or-take most stations (l - 1) no_station (omega (arith, h, some))) refl

        pub kept-agreed : (leb l (length seats) && (station_of seats l).up) ≡ true → record { finding = Agreed l; ended = n } ≡ searched n stations
        kept-agreed t = seen-agreed stations n l (rw f at all) some (up ∙ t)

        pub kept-agreed_dark : (leb l (length seats) && (station_of seats l).up) ≡ false → record { finding = AgreedDark l; ended = n } ≡ searched n stations
        kept-agreed_dark t = seen-agreed_dark stations n l (rw f at all) some (up ∙ t)
