-- Errors that the papers warn of, or that no other theorem rules out: a computed row for each, which the wrong rule would fail; and listings of Paper 2.
use Rattle.std.specs.Prelude.{◌≡◌, List, [], ◌∷◌, ◌++◌, map, Bool, true, false, ℕ, replicate}
use Rattle.election.specs.Listing.{output}
use Rattle.text.specs.Numbers.{decimal}
use Rattle.election.specs.Rows.{Row, Printed, InLast, Hold, leaders, trusted, timeouts, kept, known, sent_count, delay_of, on_the_way, set_up, set_up_clocks, start, crash, link, run, lose, report, started, at20, started_slow}
use Rattle.election.specs.Schedule.{schedule}
use Rattle.text.specs.Quoted.{text}
use Rattle.election.specs.declared.System.{System}

-- all that is printed for a schedule with four reports and a refusal: an up and a down station, each verdict but dark, numbers of one to three digits
abbrev pub four_reports : List ℕ
four_reports = at20 ++ report ++ crash 1 ++ report ++ run 100 ++ report ++ start 1 ++ report ++ crash 3

abbrev pub four_printed : List ℕ
four_printed =
    text "tick 20\n"
    ++ text "1 up leader 1 inc 1 rec 1,1 sent 1 kept 1\n"
    ++ text "2 up leader 1 inc 1 rec 1,1 sent 1 kept 2\n"
    ++ text "agreed 1\n"
    ++ text "tick 20\n"
    ++ text "1 down leader - inc 1 rec - sent 1 kept 1\n"
    ++ text "2 up leader 1 inc 1 rec 1,1 sent 1 kept 2\n"
    ++ text "agreed dark 1\n"
    ++ text "tick 120\n"
    ++ text "1 down leader - inc 1 rec - sent 1 kept 1\n"
    ++ text "2 up leader 2 inc 1 rec 1,1 sent 6 kept 2\n"
    ++ text "agreed 2\n"
    ++ text "tick 120\n"
    ++ text "1 up leader 1 inc 2 rec 2,0 sent 1 kept 1\n"
    ++ text "2 up leader 2 inc 1 rec 1,1 sent 6 kept 2\n"
    ++ text "split\n"
    ++ text "refused 7 at 21\n"

-- station 2, which keeps 1, starts for the second time at tick 37, and 1 is dead: its timer and its first chance are both at 37 + 16 + 2, the timer
-- before the chance, so that it keeps itself
abbrev pub started_again : List ℕ
started_again = set_up 2 16 ++ start 1 ++ run 20 ++ start 2 ++ run 17 ++ crash 2 ++ crash 1 ++ start 2 ++ run 17 ++ report ++ run 1 ++ report

abbrev pub again_printed : List ℕ
again_printed =
    text "tick 54\n"
    ++ text "1 down leader - inc 1 rec - sent 2 kept 1\n"
    ++ text "2 up leader 1 inc 2 rec 0,2 sent 0 kept 1\n"
    ++ text "agreed dark 1\n"
    ++ text "tick 55\n"
    ++ text "1 down leader - inc 1 rec - sent 2 kept 1\n"
    ++ text "2 up leader 2 inc 2 rec 0,2 sent 1 kept 2\n"
    ++ text "agreed 2\n"
    ++ text "end 27\n"

-- Paper 2: station 1, whom both trust, crashes at tick 20, and 2 trusts it until its timer ends at 35; or 1 is up again at 21, before that
abbrev pub leader_crashes : List ℕ
leader_crashes = at20 ++ crash 1 ++ run 14 ++ report ++ run 1 ++ report

abbrev pub crash_printed : List ℕ
crash_printed =
    text "tick 34\n"
    ++ text "1 down leader - inc 1 rec - sent 1 kept 1\n"
    ++ text "2 up leader 1 inc 1 rec 1,1 sent 1 kept 2\n"
    ++ text "agreed dark 1\n"
    ++ text "tick 35\n"
    ++ text "1 down leader - inc 1 rec - sent 1 kept 1\n"
    ++ text "2 up leader 2 inc 1 rec 1,1 sent 1 kept 2\n"
    ++ text "agreed 2\n"
    ++ text "end 20\n"

abbrev pub leader_returns : List ℕ
leader_returns = at20 ++ crash 1 ++ run 1 ++ start 1 ++ report

abbrev pub return_printed : List ℕ
return_printed =
    text "tick 21\n"
    ++ text "1 up leader 1 inc 2 rec 2,0 sent 1 kept 1\n"
    ++ text "2 up leader 1 inc 1 rec 1,1 sent 1 kept 2\n"
    ++ text "agreed 1\n"
    ++ text "end 18\n"

-- three stations trust 2, which was started once and 1 twice, and 2 crashes
abbrev pub second_crashes : List ℕ
second_crashes = set_up 3 16 ++ start 1 ++ crash 1 ++ start 1 ++ start 2 ++ start 3 ++ run 20 ++ crash 2 ++ report

abbrev pub second_printed : List ℕ
second_printed =
    text "tick 20\n"
    ++ text "1 up leader 2 inc 2 rec 2,1,1 sent 0 kept 2\n"
    ++ text "2 down leader - inc 1 rec - sent 2 kept 2\n"
    ++ text "3 up leader 2 inc 1 rec 0,1,1 sent 2 kept 3\n"
    ++ text "agreed dark 2\n"
    ++ text "end 19\n"

abbrev pub errors : List Row
errors =
    -- a timer ended before the message of the same tick would raise the timeout to 18
    record { bytes = at20 ++ link 1 2 2 ++ run 15; view = InLast (timeouts 2); seen = 0 ∷ 1 ∷ 17 ∷ 0 ∷ [] }
    -- with the delay read at arrival station 2 would trust itself
    ∷ record { bytes = at20 ++ link 1 2 3 ++ run 14 ++ link 1 2 1 ++ run 2; view = InLast (trusted 2); seen = 0 ∷ 1 ∷ [] }
    -- with a crash that loses the sender's messages station 2 would trust itself
    ∷ record { bytes = at20 ++ link 1 2 3 ++ run 14 ++ crash 1 ++ run 2; view = InLast (trusted 2); seen = 0 ∷ 1 ∷ [] }
    -- with one that loses the receiver's mail station 2 would not know of 1
    ∷ record { bytes = at20 ++ link 1 2 3 ++ run 14 ++ crash 2 ++ start 2 ++ run 2; view = InLast (known 2); seen = 0 ∷ 1 ∷ 1 ∷ 2 ∷ [] }
    -- with cut messages not counted station 1 would have sent 1
    ∷ record { bytes = at20 ++ link 1 2 0 ++ run 13; view = InLast (sent_count 1); seen = 0 ∷ 2 ∷ [] }
    -- with candidates compared before the vectors are joined stations 2 and 3 would trust 2
    ∷ record { bytes = set_up 3 16 ++ start 2 ++ start 1 ++ start 3 ++ run 20; view = InLast leaders; seen = 0 ∷ 1 ∷ 1 ∷ 1 ∷ [] }
    -- with the leader kept at every chance, and not at the first alone, station 2 would keep 1
    ∷ record { bytes = at20 ++ run 15; view = InLast (kept 2); seen = 0 ∷ 1 ∷ 2 ∷ [] }
    -- with every timeout raised at a timer's end the one for 3 would be 18 too; with a sending counted once 1 would have sent 1
    ∷ record { bytes = set_up 3 16 ++ start 1 ++ start 2 ++ start 3 ++ run 20 ++ crash 1 ++ run 15; view = InLast (λ s. timeouts 2 s ++ sent_count 1 s); seen = 0 ∷ 2 ∷ 18 ∷ 0 ∷ 17 ∷ 2 ∷ [] }
    -- 2 trusts 1 and hears from it that it has started again: not looking at itself then, 2 would go on trusting it
    ∷ record {
      bytes = set_up 2 16 ++ link 2 1 0 ++ link 1 2 20 ++ start 1 ++ start 2 ++ run 18 ++ crash 1 ++ start 1 ++ link 1 2 2 ++ run 20;
      view = InLast (known 2);
      seen = 0 ∷ 2 ∷ 2 ∷ 1 ∷ [];
    }
    -- a link is one way: with the way back cut too station 1 would not know of 2
    ∷ record { bytes = set_up 2 16 ++ link 1 2 0 ++ start 1 ++ start 2 ++ run 18; view = InLast (known 1); seen = 0 ∷ 1 ∷ 1 ∷ 1 ∷ [] }
    -- a message carries the vector after (a): with the one before the tick station 3 would not know of 2
    ∷ record { bytes = set_up 3 16 ++ link 2 3 0 ++ link 2 1 16 ++ start 1 ++ start 2 ++ start 3 ++ run 34; view = InLast (known 3); seen = 0 ∷ 1 ∷ 1 ∷ 1 ∷ 1 ∷ [] }
    -- lose takes every message, and one way alone: two are under way each way before
    ∷ record { bytes = set_up 2 16 ++ link 1 2 64 ++ link 2 1 64 ++ start 1 ++ start 2 ++ run 34; view = InLast (on_the_way 1 2); seen = 0 ∷ 2 ∷ 2 ∷ [] }
    ∷ record { bytes = set_up 2 16 ++ link 1 2 64 ++ link 2 1 64 ++ start 1 ++ start 2 ++ run 34 ++ lose 1 2; view = InLast (on_the_way 1 2); seen = 0 ∷ 0 ∷ 2 ∷ [] }
    -- a delay outlives a crash of its sender
    ∷ record { bytes = started ++ link 1 2 3 ++ crash 1 ++ start 1; view = InLast (delay_of 1 2); seen = 0 ∷ 3 ∷ [] }
    -- delays 65 and 255 are taken
    ∷ record { bytes = started ++ link 1 2 65 ++ link 2 1 255; view = InLast (λ s. delay_of 1 2 s ++ delay_of 2 1 s); seen = 0 ∷ 65 ∷ 255 ∷ [] }
    -- a link carries sixteen, to the tick before the first is due: sent at 17, 33, .. 257, due from 272 on
    ∷ record { bytes = started_slow ++ run 255 ++ run 16; view = InLast (on_the_way 1 2); seen = 0 ∷ 16 ∷ 16 ∷ [] }
    ∷ []

-- what is printed: every report, every word, every digit
abbrev pub prints : List Row
prints =
    record { bytes = four_reports; view = Printed; seen = four_printed }
    ∷ record { bytes = started_again; view = Printed; seen = again_printed }
    ∷ record { bytes = leader_crashes; view = Printed; seen = crash_printed }
    ∷ record { bytes = leader_returns; view = Printed; seen = return_printed }
    ∷ record { bytes = second_crashes; view = Printed; seen = second_printed }
    ∷ []

-- a listing at each of two reports, before any start
abbrev pub dark_printed : List ℕ
dark_printed = text "tick 0\n" ++ text "1 down leader - inc 0 rec - sent 0 kept 1\n" ++ text "2 down leader - inc 0 rec - sent 0 kept 2\n" ++ text "dark\n"

abbrev pub DarkTwice : Type 0
DarkTwice = output (set_up 2 16 ++ report ++ report) ≡ dark_printed ++ dark_printed ++ text "end 5\n"

-- decimals, from one digit to twenty
abbrev pub Decimals : Type 0
Decimals = map decimal (0 ∷ 9 ∷ 10 ∷ 4095 ∷ 7000000 ∷ 12345678901234567890 ∷ []) ≡ map text ("0" ∷ "9" ∷ "10" ∷ "4095" ∷ "7000000" ∷ "12345678901234567890" ∷ [])

-- the whole of a system in which nothing has happened: whether it is set up, and with clock heads, n, η, the kept leaders, the delays
abbrev pub untouched : Bool → Bool → ℕ → ℕ → List ℕ → List ℕ → System
untouched ready clock n period leaders delays =
    record {
      ready = ready;
      n = n;
      period = period;
      tick = 0;
      stations =
          map
          (λ leader.
          record {
            incarnation = 0;
            stable = leader;
            up = false;
            leader = 0;
            timer = 0;
            slot = 0;
            recovering = false;
            recovered = replicate 8 0;
            timeouts = replicate 8 0;
            stamp = 0;
            lowest = 0;
            timeout = 0;
          })
          leaders;
      sent = replicate 8 0;
      delays = delays;
      links = replicate 64 (record { used = 0; messages = replicate 16 (record { sent = 0; due = 0; counts = replicate 8 0; stamp = 0 }) });
      ranks = replicate 8 0;
      clock = clock;
    }

-- the empty schedule leaves the fresh system, all zero
abbrev pub FreshWhole : Type 0
FreshWhole = (schedule []).system ≡ untouched false false 0 0 (replicate 8 0) (replicate 64 0)

-- set up with two stations and η 16: each keeps itself, the links 1 to 2 and 2 to 1 have delay 1, and there is no other link
abbrev pub SetUpWhole : Type 0
SetUpWhole = (schedule (set_up 2 16)).system ≡ untouched true false 2 16 (1 ∷ 2 ∷ replicate 6 0) (0 ∷ 1 ∷ replicate 6 0 ++ (1 ∷ replicate 55 0))

-- and of clock heads the same, with its mark
abbrev pub ClocksWhole : Type 0
ClocksWhole = (schedule (set_up_clocks 2 16)).system ≡ untouched true true 2 16 (1 ∷ 2 ∷ replicate 6 0) (0 ∷ 1 ∷ replicate 6 0 ++ (1 ∷ replicate 55 0))

-- with eight stations and η 255 all links have delay 1, but from a station to itself: the first, and every ninth place from there
abbrev pub EightWhole : Type 0
EightWhole =
    (schedule (set_up 8 255)).system
    ≡ untouched true false 8 255 (1 ∷ 2 ∷ 3 ∷ 4 ∷ 5 ∷ 6 ∷ 7 ∷ 8 ∷ []) (0 ∷ flat (replicate 7 (replicate 8 1 ++ (0 ∷ []))))
  where
    flat : List (List ℕ) → List ℕ
    flat [] = []
    flat (x ∷ xs) = x ++ flat xs

-- the tables
abbrev pub NoneOfTheErrors : Type 0
NoneOfTheErrors = Hold errors × Hold prints × DarkTwice × Decimals × FreshWhole × SetUpWhole × ClocksWhole × EightWhole
