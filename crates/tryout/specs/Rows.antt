-- What is said, computed: an accepted command, a refused one, set up where nothing is set up, and a schedule that is refused.
use Rattle.std.specs.Prelude.{◌≡◌, List, [], ◌++◌, ℕ}
use Rattle.text.specs.Quoted.{text}
use Rattle.election.specs.Rows.{set_up, start, crash, report}
use Rattle.tryout.specs.Told.{said}

-- two heads, one of them started
abbrev one : List ℕ
one = set_up 2 16 ++ start 1

abbrev one_started : List ℕ
one_started =
    text "tick 0\n"
    ++ text "1 up leader 1 inc 1 rec 1,0 sent 0 kept 1\n"
    ++ text "2 down leader - inc 0 rec - sent 0 kept 2\n"
    ++ text "agreed 1\n"

abbrev pub Accepted : Type 0
Accepted =
    said one (crash 1)
    ≡ text "before:\n"
    ++ one_started
    ++ text "command 03 01: would crash station 1\n"
    ++ text "after:\n"
    ++ text "tick 0\n"
    ++ text "1 down leader - inc 1 rec - sent 0 kept 1\n"
    ++ text "2 down leader - inc 0 rec - sent 0 kept 2\n"
    ++ text "dark\n"

abbrev pub Refused : Type 0
Refused =
    said one (crash 2)
    ≡ text "before:\n"
    ++ one_started
    ++ text "command 03 02: refused 9, the station to crash is down\n"
    ++ text "after:\n"
    ++ one_started

abbrev pub Fresh : Type 0
Fresh =
    said [] (set_up 2 16)
    ≡ text "before:\n"
    ++ text "nothing is set up\n"
    ++ text "command 01 02 10: would set up heads with flash, stations 2, period 16\n"
    ++ text "after:\n"
    ++ text "tick 0\n"
    ++ text "1 down leader - inc 0 rec - sent 0 kept 1\n"
    ++ text "2 down leader - inc 0 rec - sent 0 kept 2\n"
    ++ text "dark\n"

abbrev pub TurnedDown : Type 0
TurnedDown = said (one ++ start 1) report ≡ text "tryout: the schedule is refused: 8 at 5, the station to start is up\n"
