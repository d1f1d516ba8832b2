-- Paper 3 of document 02, computed: who leads by rank, what changes a rank, and what turns a rank command down, in order.
use Rattle.std.specs.Prelude.{List, [], ◌∷◌, ◌++◌, ℕ, replicate}
use Rattle.election.specs.Rows.{Row, InLast, Hold, leaders, ranks, set_up, start, crash, run, rank}

-- two stations, η 16, a rank for one of them, both started
abbrev pub started_ranked : ℕ → ℕ → List ℕ
started_ranked p r = set_up 2 16 ++ rank p r ++ start 1 ++ start 2

-- three stations with ranks 7, 3 and 0
abbrev pub three_ranked : List ℕ
three_ranked = set_up 3 16 ++ rank 1 7 ++ rank 2 3 ++ rank 3 0

-- two stations of which 1 has rank 5
abbrev pub first_ranked : List ℕ
first_ranked = set_up 2 16 ++ rank 1 5

abbrev pub preferences : List Row
preferences =
    -- rank 1 for station 1: at tick 17 each trusts itself; at 18 both trust 2, and with the number before the rank they would trust 1
    record { bytes = started_ranked 1 1 ++ run 17; view = InLast leaders; seen = 0 ∷ 1 ∷ 2 ∷ [] }
    ∷ record { bytes = started_ranked 1 1 ++ run 18; view = InLast leaders; seen = 0 ∷ 2 ∷ 2 ∷ [] }
    -- for station 2: both trust 1
    ∷ record { bytes = started_ranked 2 1 ++ run 18; view = InLast leaders; seen = 0 ∷ 1 ∷ 1 ∷ [] }
    -- ranks 7, 3 and 0: all trust 3
    ∷ record { bytes = three_ranked ++ start 1 ++ start 2 ++ start 3 ++ run 32; view = InLast leaders; seen = 0 ∷ 3 ∷ 3 ∷ 3 ∷ [] }
    -- equal ranks: the lowest number
    ∷ record { bytes = set_up 2 16 ++ rank 1 4 ++ rank 2 4 ++ start 1 ++ start 2 ++ run 18; view = InLast leaders; seen = 0 ∷ 1 ∷ 1 ∷ [] }
    -- 1 has been started twice and has rank 0, 2 once and rank 7: both trust 2, and with the rank before the count they would trust 1
    ∷ record { bytes = set_up 2 16 ++ rank 2 7 ++ start 1 ++ crash 1 ++ start 1 ++ start 2 ++ run 19; view = InLast leaders; seen = 0 ∷ 2 ∷ 2 ∷ [] }
    ∷ []

-- each row has the ranks that are left
abbrev pub changes : List Row
changes =
    -- the latest rank stands, a 0 too, and each station has its own
    record { bytes = three_ranked; view = InLast ranks; seen = 0 ∷ 7 ∷ 3 ∷ replicate 6 0 }
    ∷ record { bytes = three_ranked ++ rank 1 2 ++ rank 2 0; view = InLast ranks; seen = 0 ∷ 2 ∷ replicate 7 0 }
    -- ticks may have run before it
    ∷ record { bytes = first_ranked ++ run 5 ++ rank 1 3; view = InLast ranks; seen = 0 ∷ 3 ∷ replicate 7 0 }
    -- a start, a run and a crash leave them
    ∷ record { bytes = three_ranked ++ start 2 ++ run 40 ++ crash 2; view = InLast ranks; seen = 0 ∷ 7 ∷ 3 ∷ replicate 6 0 }
    -- turned down: a missing operand is 2; not set up is 3; a station that is none is 7, before 22; a rank above 7 is 22, before 23; 23 after a start of
    -- whichever station, also when it is down again; 1 for the byte after 09
    ∷ record { bytes = first_ranked ++ (0x08 ∷ 0x01 ∷ []); view = InLast ranks; seen = 2 ∷ 5 ∷ replicate 7 0 }
    ∷ record { bytes = rank 0 9; view = InLast ranks; seen = 3 ∷ replicate 8 0 }
    ∷ record { bytes = first_ranked ++ rank 0 8; view = InLast ranks; seen = 7 ∷ 5 ∷ replicate 7 0 }
    ∷ record { bytes = first_ranked ++ rank 3 8; view = InLast ranks; seen = 7 ∷ 5 ∷ replicate 7 0 }
    ∷ record { bytes = first_ranked ++ rank 1 8; view = InLast ranks; seen = 22 ∷ 5 ∷ replicate 7 0 }
    ∷ record { bytes = first_ranked ++ start 2 ++ rank 1 8; view = InLast ranks; seen = 22 ∷ 5 ∷ replicate 7 0 }
    ∷ record { bytes = first_ranked ++ start 2 ++ rank 1 7; view = InLast ranks; seen = 23 ∷ 5 ∷ replicate 7 0 }
    ∷ record { bytes = first_ranked ++ start 2 ++ crash 2 ++ rank 1 7; view = InLast ranks; seen = 23 ∷ 5 ∷ replicate 7 0 }
    ∷ record { bytes = set_up 8 16 ++ start 8 ++ rank 1 1; view = InLast ranks; seen = 23 ∷ replicate 8 0 }
    ∷ record { bytes = first_ranked ++ (0x0a ∷ []); view = InLast ranks; seen = 1 ∷ 5 ∷ replicate 7 0 }
    ∷ []

abbrev pub RanksRehearsed : Type 0
RanksRehearsed = Hold preferences × Hold changes
