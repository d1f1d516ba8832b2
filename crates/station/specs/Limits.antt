-- The largest numbers of a station.
use Rattle.std.specs.Prelude.{ℕ, ◌+◌}

-- the last tick, and the largest start count
abbrev pub last_tick : ℕ
last_tick = 1000000

abbrev pub most_starts : ℕ
most_starts = 4095

-- the largest rank
abbrev pub most_rank : ℕ
most_rank = 7

-- a timeout of a head with flash begins at period + count, at most 255 + 4095, and rises by at most one in a tick; that of a clock head is lower
abbrev pub longest : ℕ → ℕ
longest tick = 4350 + tick
