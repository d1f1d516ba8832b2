-- The rules of a head with a running clock and no flash (the third algorithm of document 001). A head is given its own number, me. Its
-- crash is that of a head with flash.
use Rattle.std.specs.Prelude.{Bool, true, cond, ◌&&◌, ◌||◌, ℕ, ◌+◌, replicate, leb, ltb, eqb}
use Rattle.station.specs.Rules.{trusting, pacing}
use Rattle.station.specs.declared.Station.{Station}

-- a clock reads the period plus the tick counter
abbrev pub clock_at : ℕ → ℕ → ℕ
clock_at period tick = period + tick

-- the head with another lowest stamp and timeout
abbrev pub bounding : ℕ → ℕ → Station → Station
bounding lowest timeout s =
    record {
      incarnation = s.incarnation;
      stable = s.stable;
      up = s.up;
      leader = s.leader;
      timer = s.timer;
      slot = s.slot;
      recovering = s.recovering;
      recovered = s.recovered;
      timeouts = s.timeouts;
      stamp = s.stamp;
      lowest = lowest;
      timeout = timeout;
    }

-- Start: no leader is trusted; the one timeout and the station's stamp are the clock, and the lowest stamp known is its own. The wait is
-- that timeout.
unfoldable pub started : ℕ → ℕ → Station → Station
started period tick s =
    record {
      incarnation = s.incarnation;
      stable = s.stable;
      up = true;
      leader = 0;
      timer = 0;
      slot = tick + clock_at period tick;
      recovering = true;
      recovered = replicate 8 0;
      timeouts = replicate 8 0;
      stamp = clock_at period tick;
      lowest = clock_at period tick;
      timeout = clock_at period tick;
    }

-- A stamp z of q is adopted if below the lowest known, or if equal and q is below the receiver (no leader yet) or not above the leader.
unfoldable pub adopts : ℕ → ℕ → ℕ → Station → Bool
adopts me q z s = ltb z s.lowest || (eqb z s.lowest && cond (eqb s.leader 0) (ltb q me) (leb q s.leader))

-- Hearing LEADER from q with the stamp z: adopting trusts the sender, takes over the stamp and resets the timer.
unfoldable pub heard : ℕ → ℕ → ℕ → ℕ → Station → Station
heard me q z tick s = cond (adopts me q z s) (bounding z s.timeout (trusting q (tick + s.timeout) s)) s

-- Timer ends: the timeout rises by one, the station trusts itself and its own stamp is the lowest.
unfoldable pub expired : ℕ → Station → Station
expired me s = bounding s.stamp (s.timeout + 1) (trusting me 0 s)

-- At the end of the wait it trusts itself if it trusts nobody, or resets the timer if it trusts another.
unfoldable pub waited : ℕ → ℕ → Station → Station
waited me tick s =
    cond (eqb s.leader 0) (trusting me 0 s) (cond (eqb s.leader me) s (trusting s.leader (tick + s.timeout) s))

-- Send chance: the first one is at the end of the wait; the next is a period later.
unfoldable pub slotted : ℕ → ℕ → ℕ → Station → Station
slotted me period tick s = pacing s.stable (tick + period) (cond s.recovering (waited me tick s) s)

-- At every chance a station that trusts itself sends LEADER; at the end of the wait also one that trusts nobody, since it then trusts itself.
unfoldable pub sends : ℕ → Station → Bool
sends me s = eqb s.leader me || (s.recovering && eqb s.leader 0)

-- LEADER carries the sender's own stamp.
abbrev pub carried : Station → ℕ
carried s = s.stamp
