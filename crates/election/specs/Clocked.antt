-- Paper 6 of document 02, computed: heads with a running clock.
use Rattle.std.specs.Prelude.{List, [], ◌∷◌, ◌++◌, ℕ}
use Rattle.election.specs.Rows.{Row, Printed, InLast, Hold, leaders, clocked, set_up, set_up_clocks, start, crash, run, report, rank}
use Rattle.text.specs.Quoted.{text}

-- station 1 starts at tick 0, station 2 at tick 10, in the wait of 1, which ends at 16; 2 hears 1 at 17. At 36 the wait of 2 ends, and it crashes.
abbrev pub one_after_another : List ℕ
one_after_another = set_up_clocks 2 16 ++ start 1 ++ run 10 ++ start 2 ++ report ++ run 6 ++ report ++ run 20 ++ report ++ crash 2 ++ report

abbrev pub others_printed : List ℕ
others_printed =
    text "tick 10\n"
    ++ text "1 up leader - inc - stamp 16 sent 0 kept -\n"
    ++ text "2 up leader - inc - stamp 26 sent 0 kept -\n"
    ++ text "split\n"
    ++ text "tick 16\n"
    ++ text "1 up leader 1 inc - stamp 16 sent 1 kept -\n"
    ++ text "2 up leader - inc - stamp 26 sent 0 kept -\n"
    ++ text "split\n"
    ++ text "tick 36\n"
    ++ text "1 up leader 1 inc - stamp 16 sent 2 kept -\n"
    ++ text "2 up leader 1 inc - stamp 26 sent 0 kept -\n"
    ++ text "agreed 1\n"
    ++ text "tick 36\n"
    ++ text "1 up leader 1 inc - stamp 16 sent 2 kept -\n"
    ++ text "2 down leader - inc - stamp - sent 0 kept -\n"
    ++ text "agreed 1\n"
    ++ text "end 22\n"

-- two heads, started at once: equal stamps
abbrev pub at_once : List ℕ
at_once = set_up_clocks 2 16 ++ start 1 ++ start 2

-- 1 is started at 0 and 2 at 10, and 1 crashes at 34: the timer of 2, set at 33, would end at 59
abbrev pub leader_gone : List ℕ
leader_gone = set_up_clocks 2 16 ++ start 1 ++ run 10 ++ start 2 ++ run 24 ++ crash 1

-- 1 leads, crashes at 40 and is started again there
abbrev pub started_again : List ℕ
started_again = at_once ++ run 40 ++ crash 1 ++ start 1

abbrev pub elections : List Row
elections =
    record { bytes = one_after_another; view = Printed; seen = others_printed }
    -- at the end of their waits both trust themselves and send; a tick later 2 has heard the equal stamp of a lower number, and 1 that of a higher one
    ∷ record { bytes = at_once ++ run 16; view = InLast leaders; seen = 0 ∷ 1 ∷ 2 ∷ [] }
    ∷ record { bytes = at_once ++ run 17; view = InLast (λ s. leaders s ++ clocked 2 s); seen = 0 ∷ 1 ∷ 1 ∷ 1 ∷ 33 ∷ 16 ∷ 16 ∷ 16 ∷ [] }
    -- 2 follows 1 in its wait; at 36 the wait ends and the timer is set again, to 36 + 26; it ends there, and not at 59
    ∷ record { bytes = leader_gone; view = InLast (clocked 2); seen = 0 ∷ 1 ∷ 59 ∷ 26 ∷ 16 ∷ 26 ∷ [] }
    ∷ record { bytes = leader_gone ++ run 2; view = InLast (clocked 2); seen = 0 ∷ 1 ∷ 62 ∷ 26 ∷ 16 ∷ 26 ∷ [] }
    ∷ record { bytes = leader_gone ++ run 27; view = InLast (clocked 2); seen = 0 ∷ 1 ∷ 62 ∷ 26 ∷ 16 ∷ 26 ∷ [] }
    ∷ record { bytes = leader_gone ++ run 28; view = InLast (clocked 2); seen = 0 ∷ 2 ∷ 0 ∷ 26 ∷ 26 ∷ 27 ∷ [] }
    -- started again, 1 has a later stamp and does not take the lead back: in its wait, and after it
    ∷ record { bytes = started_again; view = InLast (clocked 1); seen = 0 ∷ 0 ∷ 0 ∷ 56 ∷ 56 ∷ 56 ∷ [] }
    ∷ record { bytes = started_again ++ run 32; view = InLast (λ s. leaders s ++ clocked 2 s); seen = 0 ∷ 2 ∷ 2 ∷ 2 ∷ 0 ∷ 16 ∷ 16 ∷ 17 ∷ [] }
    ∷ record { bytes = started_again ++ run 112; view = InLast (λ s. leaders s ++ clocked 1 s); seen = 0 ∷ 2 ∷ 2 ∷ 2 ∷ 201 ∷ 56 ∷ 16 ∷ 56 ∷ [] }
    ∷ []

-- what is turned down
abbrev pub refusals : List Row
refusals =
    -- 09 as 01 is: missing operands, a second set up of either kind, stations, period
    record { bytes = 0x09 ∷ 0x02 ∷ []; view = InLast (λ s. []); seen = 2 ∷ [] }
    ∷ record { bytes = set_up_clocks 2 16 ++ set_up_clocks 2 16; view = InLast (λ s. []); seen = 4 ∷ [] }
    ∷ record { bytes = set_up 2 16 ++ set_up_clocks 2 16; view = InLast (λ s. []); seen = 4 ∷ [] }
    ∷ record { bytes = set_up_clocks 2 16 ++ set_up 2 16; view = InLast (λ s. []); seen = 4 ∷ [] }
    ∷ record { bytes = set_up_clocks 9 15; view = InLast (λ s. []); seen = 5 ∷ [] }
    ∷ record { bytes = set_up_clocks 8 15; view = InLast (λ s. []); seen = 6 ∷ [] }
    -- a rank: 2 and 3 before 25, 25 before 7, 22 and 23
    ∷ record { bytes = set_up_clocks 2 16 ++ (0x08 ∷ 0x01 ∷ []); view = InLast (λ s. []); seen = 2 ∷ [] }
    ∷ record { bytes = rank 1 1; view = InLast (λ s. []); seen = 3 ∷ [] }
    ∷ record { bytes = set_up_clocks 2 16 ++ rank 1 1; view = InLast (λ s. []); seen = 25 ∷ [] }
    ∷ record { bytes = set_up_clocks 2 16 ++ start 1 ++ rank 3 8; view = InLast (λ s. []); seen = 25 ∷ [] }
    ∷ []

abbrev pub ClocksRehearsed : Type 0
ClocksRehearsed = Hold elections × Hold refusals
