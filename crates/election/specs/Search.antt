-- The search for agreement (Paper 4 of document 02): it ends at the first up station after which the line can only be split, else at station n,
-- and answers with its finding the number of the station where it ended. Its finding is the verdict of Listing.antt.
use Rattle.std.specs.Prelude.{◌≡◌, ◌≢◌, ◌↔◌, ◌⊎◌, List, Bool, true, false, cond, ℕ, zero, suc, ◌<◌, ◌≤◌, length}
use Rattle.station.specs.declared.Station.{Station}
use Rattle.election.specs.Listing.{verdict}
use Rattle.election.specs.Sound.{sound}
use Rattle.election.specs.System.{station_of, with_stations}
use Rattle.election.specs.Verdicts.{Up}
use Rattle.election.specs.declared.Searched.{Searched}
use Rattle.election.specs.declared.System.{System}
use Rattle.election.specs.declared.Verdict.{Verdict}
use Rattle.election.specs.declared.Verdict.TheVariants.{Dark, Agreed, AgreedDark, Split}

-- whether a verdict is split
abbrev pub is_split : Verdict → Bool
is_split Dark = false
is_split (Agreed l) = false
is_split (AgreedDark l) = false
is_split Split = true

-- where it ends: the first of the stations 1 to n with which those so far are split, else n
unfoldable pub ends_at : ℕ → List Station → ℕ
ends_at zero stations = 0
ends_at (suc k) stations = cond (is_split (verdict k stations)) (ends_at k stations) (suc k)

-- what it answers
abbrev pub searched : ℕ → List Station → Searched
searched n stations = record { finding = verdict n stations; ended = ends_at n stations }

-- the stations 1 to k of a list are those of another
abbrev pub SameTo : ℕ → List Station → List Station → Type 0
SameTo k stations others = (p : ℕ) → 1 ≤ p → p ≤ k → station_of others p ≡ station_of stations p

-- after station k the line can only be split: every list with the same stations 1 to k is split
abbrev pub CanOnlySplit : ℕ → List Station → ℕ → Type 0
CanOnlySplit n stations k = (others : List Station) → SameTo k stations others → verdict n others ≡ Split

-- the same, of a system: every list as long as its own, with the same stations 1 to k, with which the system is sound is split
abbrev pub CanOnlySplitSound : System → ℕ → Type 0
CanOnlySplitSound s k =
    (others : List Station) → length others ≡ length s.stations → SameTo k s.stations others → sound (with_stations others s) ≡ true
    → verdict s.n others ≡ Split

-- p is the first up station after which the line can only be split, by either of these; or there is none, and p is n
abbrev pub EndsThere : ℕ → List Station → (ℕ → Type 0) → ℕ → Type 0
EndsThere n stations Only p =
    (Up n stations p × Only p × ((q : ℕ) → Up n stations q → q < p → Only q → ⊥)) ⊎ (((q : ℕ) → Up n stations q → Only q → ⊥) × (p ≡ n))

-- the request's sentence: the search ends there and nowhere else, of every list of stations and of every system that can be listed
abbrev pub EndsExact : Type 0
EndsExact = (n : ℕ) (stations : List Station) (p : ℕ) → (ends_at n stations ≡ p) ↔ EndsThere n stations (CanOnlySplit n stations) p

abbrev pub EndsExactSound : Type 0
EndsExactSound =
    (s : System) → sound s ≡ true → s.ready ≡ true
    → (p : ℕ) → (ends_at s.n s.stations ≡ p) ↔ EndsThere s.n s.stations (CanOnlySplitSound s) p

-- piece by piece: where the line is split, it can only be split after the station where the search ends
abbrev pub OnlySplit : Type 0
OnlySplit = (n : ℕ) (stations : List Station) → verdict n stations ≡ Split → CanOnlySplit n stations (ends_at n stations)

-- before that it is open, from k = 0 on: some list with the same stations 1 to k is not split; of a system, one as long, with which it is sound
abbrev pub NotBefore : Type 0
NotBefore =
    (n : ℕ) (stations : List Station) (k : ℕ) → k < ends_at n stations
    → (others : List Station) × SameTo k stations others × (verdict n others ≢ Split)

abbrev pub NotBeforeSound : Type 0
NotBeforeSound =
    (s : System) → sound s ≡ true → s.ready ≡ true → (k : ℕ) → k < ends_at s.n s.stations
    → (others : List Station) × (length others ≡ length s.stations) × SameTo k s.stations others × (sound (with_stations others s) ≡ true) × (verdict s.n others ≢ Split)

-- where the line is not split, the search ends at station n
abbrev pub ElseLast : Type 0
ElseLast = (n : ℕ) (stations : List Station) → verdict n stations ≢ Split → ends_at n stations ≡ n
