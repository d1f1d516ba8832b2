-- The verdict by the papers' sentences: dark if none is up; where all up stations trust the same L, agreed L if L is up, else agreed dark L; else
-- split, as it is with an up station that trusts nobody.
use Rattle.std.specs.Prelude.{◌≡◌, ◌≢◌, ◌↔◌, ◌⊎◌, List, true, false, ℕ, ◌≤◌}
use Rattle.station.specs.declared.Station.{Station}
use Rattle.election.specs.Listing.{verdict}
use Rattle.election.specs.Sound.{sound}
use Rattle.election.specs.System.{station_of}
use Rattle.election.specs.declared.System.{System}
use Rattle.election.specs.declared.Verdict.{Verdict}
use Rattle.election.specs.declared.Verdict.TheVariants.{Dark, Agreed, AgreedDark, Split}

-- station p is one of the first n, and up; it is one of them, and down; and the leader that it trusts
abbrev pub Up : ℕ → List Station → ℕ → Type 0
Up n stations p = (1 ≤ p) × (p ≤ n) × ((station_of stations p).up ≡ true)

abbrev pub Down : ℕ → List Station → ℕ → Type 0
Down n stations p = (1 ≤ p) × (p ≤ n) × ((station_of stations p).up ≡ false)

abbrev pub trusted : List Station → ℕ → ℕ
trusted stations p = (station_of stations p).leader

-- none is up; some is up
abbrev pub NoneUp : ℕ → List Station → Type 0
NoneUp n stations = (p : ℕ) → Up n stations p → ⊥

abbrev pub SomeUp : ℕ → List Station → Type 0
SomeUp n stations = (p : ℕ) × Up n stations p

-- all up stations trust l
abbrev pub AllTrust : ℕ → List Station → ℕ → Type 0
AllTrust n stations l = (p : ℕ) → Up n stations p → trusted stations p ≡ l

-- two up stations trust different ones
abbrev pub TwoDiffer : ℕ → List Station → Type 0
TwoDiffer n stations = (p : ℕ) × (q : ℕ) × Up n stations p × Up n stations q × (trusted stations p ≢ trusted stations q)

-- an up station trusts nobody
abbrev pub Leaderless : ℕ → List Station → Type 0
Leaderless n stations = (p : ℕ) × Up n stations p × (trusted stations p ≡ 0)

-- the up stations do not agree: two differ, or one trusts nobody
abbrev pub Disagree : ℕ → List Station → Type 0
Disagree n stations = TwoDiffer n stations ⊎ Leaderless n stations

-- the words of each verdict
abbrev pub Words : ℕ → List Station → Verdict → Type 0
Words n stations Dark = NoneUp n stations
Words n stations (Agreed l) = AllTrust n stations l × Up n stations l
Words n stations (AgreedDark l) = SomeUp n stations × (1 ≤ l) × AllTrust n stations l × (Up n stations l → ⊥)
Words n stations Split = Disagree n stations

-- a verdict is given exactly where its words hold, for every n and every list of stations, sound or not
abbrev pub VerdictExact : Type 0
VerdictExact = (n : ℕ) (stations : List Station) (v : Verdict) → (verdict n stations ≡ v) ↔ Words n stations v

-- in a sound system a leader that is not up is one of the stations: agreed dark L is given exactly where all up stations, one or more, trust L and L is down
abbrev pub AgreedDarkExact : Type 0
AgreedDarkExact =
    (s : System) (l : ℕ) → sound s ≡ true → s.ready ≡ true
    → (verdict s.n s.stations ≡ AgreedDark l) ↔ (SomeUp s.n s.stations × AllTrust s.n s.stations l × Down s.n s.stations l)
