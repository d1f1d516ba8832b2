-- The starred rehearsals of document 01.
use Rattle.std.specs.Prelude.{List, [], ◌∷◌, ◌++◌, ℕ}
use Rattle.election.specs.Rows.{Row, Printed, InLast, Hold, leaders, trusted, timeouts, count, set_up, start, crash, link, run, report, started, at20}
use Rattle.text.specs.Quoted.{text}

-- the listing of document 01, and the last line
abbrev pub printed : List ℕ
printed =
    text "tick 20\n"
    ++ text "1 up leader 1 inc 1 rec 1,1 sent 1 kept 1\n"
    ++ text "2 up leader 1 inc 1 rec 1,1 sent 1 kept 2\n"
    ++ text "agreed 1\n"
    ++ text "end 11\n"

abbrev pub rehearsals : List Row
rehearsals =
    -- the listing
    record { bytes = at20 ++ report; view = Printed; seen = printed }
    -- at tick 17 each trusts itself; at 18 both trust 1
    ∷ record { bytes = started ++ run 17; view = InLast leaders; seen = 0 ∷ 1 ∷ 2 ∷ [] }
    ∷ record { bytes = started ++ run 18; view = InLast leaders; seen = 0 ∷ 1 ∷ 1 ∷ [] }
    -- from tick 20, link 1 to 2 delay 3: at 35 station 2 trusts itself; at 36 it trusts 1 again with timeout 18
    ∷ record { bytes = at20 ++ link 1 2 3 ++ run 15; view = InLast (trusted 2); seen = 0 ∷ 2 ∷ [] }
    ∷ record { bytes = at20 ++ link 1 2 3 ++ run 16; view = InLast (timeouts 2); seen = 0 ∷ 1 ∷ 18 ∷ 0 ∷ [] }
    -- from tick 20, crash 1: station 2 still trusts it at 34; not at 35
    ∷ record { bytes = at20 ++ crash 1 ++ run 14; view = InLast (trusted 2); seen = 0 ∷ 1 ∷ [] }
    ∷ record { bytes = at20 ++ crash 1 ++ run 15; view = InLast (trusted 2); seen = 0 ∷ 2 ∷ [] }
    -- from tick 20, crash and start 1: at 39 each trusts itself; at 50 both trust 2
    ∷ record { bytes = at20 ++ crash 1 ++ start 1 ++ run 19; view = InLast leaders; seen = 0 ∷ 1 ∷ 2 ∷ [] }
    ∷ record { bytes = at20 ++ crash 1 ++ start 1 ++ run 30; view = InLast leaders; seen = 0 ∷ 2 ∷ 2 ∷ [] }
    -- start 1, run 20, start 2, run 17, crash 2, start 2: station 2 trusts 1 before any tick, count 2
    ∷ record { bytes = set_up 2 16 ++ start 1 ++ run 20 ++ start 2 ++ run 17 ++ crash 2 ++ start 2; view = InLast (count 2); seen = 0 ∷ 1 ∷ 2 ∷ [] }
    ∷ []

abbrev pub Rehearsed : Type 0
Rehearsed = Hold rehearsals
