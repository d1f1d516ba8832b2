-- Papers 4 and 6 of document 02, computed: what the search finds in given lists of stations, and where it ends.
use Rattle.std.specs.Prelude.{◌≡◌, List, [], ◌∷◌, ◌++◌, ℕ, replicate}
use Rattle.station.specs.Rules.{down_with, trusting, started_with}
use Rattle.station.specs.declared.Station.{Station}
use Rattle.election.specs.Search.{searched}
use Rattle.election.specs.declared.Searched.{Searched}
use Rattle.election.specs.declared.Verdict.{Verdict}
use Rattle.election.specs.declared.Verdict.TheVariants.{Dark, Agreed, AgreedDark, Split}

-- a station that is up and trusts l, or nobody if l is 0; one that is down; one that is down, with a leader left over
abbrev pub up : ℕ → Station
up l = started_with l 16 0 [] [] (down_with 0 l)

abbrev pub down : Station
down = down_with 1 1

abbrev pub down_after : ℕ → Station
down_after l = trusting l 0 down

-- how many stations are searched, the stations, and what must be answered
pub record SearchRow : Type 0 where
  pub n : ℕ
  pub stations : List Station
  pub answer : Searched

-- an answer: the finding, and where the search ended
abbrev pub at : Verdict → ℕ → Searched
at v p = record { finding = v; ended = p }

abbrev pub searches : List SearchRow
searches =
    -- split: at the first that differs, not at the next, and not at the last
    record { n = 3; stations = up 1 ∷ up 2 ∷ up 1 ∷ []; answer = at Split 2 }
    ∷ record { n = 8; stations = up 1 ∷ up 1 ∷ up 3 ∷ replicate 5 (up 1); answer = at Split 3 }
    ∷ record { n = 8; stations = replicate 7 (up 1) ++ (up 8 ∷ []); answer = at Split 8 }
    -- down stations before it and between: one that is down differs from nobody
    ∷ record { n = 3; stations = down ∷ up 2 ∷ up 1 ∷ []; answer = at Split 3 }
    ∷ record { n = 3; stations = up 1 ∷ down ∷ up 2 ∷ []; answer = at Split 3 }
    ∷ record { n = 4; stations = up 1 ∷ down ∷ up 2 ∷ up 1 ∷ []; answer = at Split 3 }
    ∷ record { n = 4; stations = up 1 ∷ down_after 2 ∷ up 1 ∷ up 1 ∷ []; answer = at (Agreed 1) 4 }
    -- split at an up station without a leader: the first, after down ones, after others that agree, with more of them, and the only one up
    ∷ record { n = 3; stations = up 0 ∷ up 1 ∷ up 1 ∷ []; answer = at Split 1 }
    ∷ record { n = 4; stations = down ∷ down ∷ up 0 ∷ up 1 ∷ []; answer = at Split 3 }
    ∷ record { n = 4; stations = up 1 ∷ up 1 ∷ up 0 ∷ up 1 ∷ []; answer = at Split 3 }
    ∷ record { n = 3; stations = up 0 ∷ up 0 ∷ up 0 ∷ []; answer = at Split 1 }
    ∷ record { n = 3; stations = down ∷ down ∷ up 0 ∷ []; answer = at Split 3 }
    -- one that is down has no leader either, and differs from nobody
    ∷ record { n = 3; stations = up 1 ∷ down ∷ up 1 ∷ []; answer = at (Agreed 1) 3 }
    -- none up, agreed and agreed dark: at station n, wherever the leader stands
    ∷ record { n = 3; stations = down ∷ down ∷ down ∷ []; answer = at Dark 3 }
    ∷ record { n = 3; stations = up 1 ∷ up 1 ∷ up 1 ∷ []; answer = at (Agreed 1) 3 }
    ∷ record { n = 3; stations = up 2 ∷ up 2 ∷ down ∷ []; answer = at (Agreed 2) 3 }
    ∷ record { n = 3; stations = up 3 ∷ up 3 ∷ up 3 ∷ []; answer = at (Agreed 3) 3 }
    ∷ record { n = 3; stations = down ∷ up 1 ∷ up 1 ∷ []; answer = at (AgreedDark 1) 3 }
    ∷ record { n = 3; stations = up 3 ∷ up 3 ∷ down ∷ []; answer = at (AgreedDark 3) 3 }
    -- a station past n is not looked at, and one past the end of the list is down
    ∷ record { n = 2; stations = up 1 ∷ up 1 ∷ up 2 ∷ []; answer = at (Agreed 1) 2 }
    ∷ record { n = 2; stations = up 1 ∷ up 1 ∷ up 0 ∷ []; answer = at (Agreed 1) 2 }
    ∷ record { n = 2; stations = up 3 ∷ up 3 ∷ up 3 ∷ []; answer = at (AgreedDark 3) 2 }
    ∷ record { n = 9; stations = replicate 8 (up 9); answer = at (AgreedDark 9) 9 }
    ∷ []

-- each is answered so
abbrev pub Answered : List SearchRow → Type 0
Answered [] = Unit {0}
Answered (r ∷ rows) = (searched r.n r.stations ≡ r.answer) × Answered rows

abbrev pub SearchesFound : Type 0
SearchesFound = Answered searches
