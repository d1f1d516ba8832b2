-- Soundness of messages and of ranks, of both kinds of head, computed: systems that are sound, and systems that breach one clause alone.
use Rattle.std.specs.Prelude.{◌≡◌, List, [], ◌∷◌, ◌++◌, Bool, true, false, ℕ, replicate}
use Rattle.clock.specs.Rules.{bounding}
use Rattle.election.specs.Rows.{set_up_clocks, start, crash, run, at20}
use Rattle.election.specs.Schedule.{schedule}
use Rattle.election.specs.Sound.{sound}
use Rattle.election.specs.System.{station, unused, holding, with_station, with_link, with_rank}
use Rattle.election.specs.declared.Message.{Message}
use Rattle.election.specs.declared.System.{System}

-- η 16, two stations, both up, tick 34; 2 has just started again. The next send chances are at ticks 49 and 52.
abbrev pub base : System
base = (schedule (at20 ++ run 14 ++ crash 2 ++ start 2)).system

-- a message with a count of station 1, and a count of station 3, which is not there
abbrev pub counting : ℕ → ℕ → ℕ → ℕ → Message
counting sent due first third = record { sent = sent; due = due; counts = first ∷ 1 ∷ third ∷ 0 ∷ 0 ∷ 0 ∷ 0 ∷ 0 ∷ []; stamp = 0 }

-- one with a stamp and no counts
abbrev pub stamped : ℕ → ℕ → ℕ → Message
stamped sent due z = record { sent = sent; due = due; counts = replicate 8 0; stamp = z }

abbrev pub message : ℕ → ℕ → Message
message sent due = counting sent due 1 0

abbrev pub sounds : System → List System
sounds s =
    s
    -- sent at the latest chance, due 255 ticks later, with the largest count
    ∷ with_link 1 2 (holding (counting 33 288 4095 0 ∷ [])) s
    -- two sendings a period apart
    ∷ with_link 1 2 (holding (message 17 35 ∷ message 33 35 ∷ [])) s
    -- the largest rank
    ∷ with_rank 2 7 s
    ∷ []

abbrev pub breaches : System → List System
breaches s =
    -- sent after the tick; due in it; due more than 255 ticks after the sending
    with_link 2 1 (holding (message 35 36 ∷ [])) s
    ∷ with_link 1 2 (holding (message 33 34 ∷ [])) s
    ∷ with_link 1 2 (holding (message 33 289 ∷ [])) s
    -- a count above 4095; a count beyond the stations
    ∷ with_link 1 2 (holding (counting 33 35 4096 0 ∷ [])) s
    ∷ with_link 1 2 (holding (counting 33 35 1 1 ∷ [])) s
    -- sent less than a period before the sender's next chance
    ∷ with_link 1 2 (holding (message 34 35 ∷ [])) s
    -- two sendings less than a period apart; the youngest first
    ∷ with_link 1 2 (holding (message 18 35 ∷ message 33 35 ∷ [])) s
    ∷ with_link 1 2 (holding (message 33 35 ∷ message 17 35 ∷ [])) s
    -- an unused place that is not zero; a link of a station to itself
    ∷ with_link 1 2 (record { used = 0; messages = message 33 35 ∷ replicate 15 unused }) s
    ∷ with_link 1 1 (holding (message 33 35 ∷ [])) s
    -- a rank above 7; a rank beyond the stations
    ∷ with_rank 2 8 s
    ∷ with_rank 3 1 s
    ∷ with_rank 8 1 s
    -- a message with a stamp, and a head with a lowest stamp or a timeout of a clock head
    ∷ with_link 1 2 (holding (stamped 33 35 16 ∷ [])) s
    ∷ with_station 2 (bounding 16 0 (station s 2)) s
    ∷ with_station 2 (bounding 0 16 (station s 2)) s
    ∷ []

-- η 16, two clock heads, both up, tick 18; 1 leads, its next send chance is at tick 32, and 2 is in its wait
abbrev pub clocks : System
clocks = (schedule (set_up_clocks 2 16 ++ start 1 ++ run 10 ++ start 2 ++ run 8)).system

abbrev pub clock_sounds : System → List System
clock_sounds s =
    s
    -- the lowest and the highest stamp
    ∷ with_link 1 2 (holding (stamped 16 19 16 ∷ [])) s
    ∷ with_link 1 2 (holding (stamped 16 19 34 ∷ [])) s
    ∷ []

abbrev pub clock_breaches : System → List System
clock_breaches s =
    -- a stamp below the period; above period + tick; a count with it
    with_link 1 2 (holding (stamped 16 19 15 ∷ [])) s
    ∷ with_link 1 2 (holding (stamped 16 19 35 ∷ [])) s
    ∷ with_link 1 2 (holding (record { sent = 16; due = 19; counts = 1 ∷ replicate 7 0; stamp = 16 } ∷ [])) s
    -- no stamp at all; a message of a flash head
    ∷ with_link 1 2 (holding (stamped 16 19 0 ∷ [])) s
    ∷ with_link 1 2 (holding (message 16 19 ∷ [])) s
    -- sent less than a period before the sender's next chance
    ∷ with_link 1 2 (holding (stamped 17 19 16 ∷ [])) s
    -- an unused place with a stamp
    ∷ with_link 1 2 (record { used = 0; messages = record { sent = 0; due = 0; counts = replicate 8 0; stamp = 16 } ∷ replicate 15 unused }) s
    -- a rank
    ∷ with_rank 1 1 s
    ∷ []

unfoldable pub sound_each : List System → List Bool
sound_each [] = []
sound_each (s ∷ ss) = sound s ∷ sound_each ss

abbrev pub Clauses : Type 0
Clauses =
    (sound_each (sounds base) ≡ true ∷ true ∷ true ∷ true ∷ [])
    × (sound_each (breaches base) ≡ replicate 16 false)
    × (sound_each (clock_sounds clocks) ≡ true ∷ true ∷ true ∷ [])
    × (sound_each (clock_breaches clocks) ≡ replicate 8 false)
