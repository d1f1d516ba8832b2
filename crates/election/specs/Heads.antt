-- The two kinds of head: what they do, what fits them, what their messages hold and who may have a rank. The tick, soundness and the commands ask for
-- the kind only here; 25 (Commands.antt) and what a line shows (Listing.antt) ask for it themselves.
use Rattle.std.specs.Prelude.{List, Bool, cond, ◌&&◌, ℕ, ◌+◌, eqb}
use Rattle.station.specs.Rules.{started, heard, expired, slotted, sends}
use Rattle.station.specs.declared.Station.{Station}
use Rattle.fit.specs.Fit.{within, counts_in, fit}
use Rattle.clock.specs.Rules.{started as clockStarted, heard as clockHeard, expired as clockExpired, slotted as clockSlotted, sends as clockSends}
use Rattle.clock.specs.Fit.{fit as clockFit}
use Rattle.election.specs.declared.Message.{Message}
use Rattle.election.specs.declared.System.{System}

-- how station me, as it is, hears a message of q's in the tick now
abbrev pub Hearing : Type 0
Hearing = ℕ → ℕ → Message → ℕ → Station → Station

-- hearing by the order of candidates: the ranks, and the counts that the message brings
abbrev pub by_order : List ℕ → Hearing
by_order ranks me q m now x = heard ranks me q m.counts now x

-- hearing by the stamp that the message brings
abbrev pub by_stamp : Hearing
by_stamp me q m now x = clockHeard me q m.stamp now x

-- by the kind of head: hearing
abbrev pub hearing_of : Bool → List ℕ → Hearing
hearing_of clock ranks = cond clock by_stamp (by_order ranks)

-- the end of a timer
abbrev pub expiring_of : Bool → ℕ → Station → Station
expiring_of clock me x = cond clock (clockExpired me x) (expired me x)

-- a send chance in the tick now
abbrev pub slotting_of : Bool → ℕ → ℕ → ℕ → Station → Station
slotting_of clock me period now x = cond clock (clockSlotted me period now x) (slotted period now x)

-- whether LEADER is sent at it
abbrev pub announces_of : Bool → ℕ → Station → Bool
announces_of clock me x = cond clock (clockSends me x) (sends me x)

-- a start at a tick
abbrev pub starting_of : Bool → ℕ → ℕ → ℕ → ℕ → Station → Station
starting_of clock me n period tick x = cond clock (clockStarted period tick x) (started me n period tick x)

-- what fits the end of a tick
abbrev pub fits : Bool → ℕ → ℕ → ℕ → ℕ → Station → Bool
fits clock me n period tick x = cond clock (clockFit me n period tick x) (fit me n period tick x)

-- a message: counts in range and no stamp; or a stamp in range and no counts
abbrev pub content_in : Bool → ℕ → ℕ → ℕ → Message → Bool
content_in clock n period tick m =
    cond clock (counts_in 0 m.counts && within period m.stamp (period + tick)) (counts_in n m.counts && eqb m.stamp 0)

-- of clock heads all ranks are zero
abbrev pub ranked_of : Bool → ℕ → ℕ
ranked_of clock n = cond clock 0 n

-- what the heads of a system do. (a) hearing
abbrev pub hearing : System → Hearing
hearing s = hearing_of s.clock s.ranks

-- (b) the end of a timer
abbrev pub expiring : System → ℕ → Station → Station
expiring s me x = expiring_of s.clock me x

-- (c) a send chance in the tick now
abbrev pub slotting : System → ℕ → ℕ → Station → Station
slotting s me now x = slotting_of s.clock me s.period now x

-- and whether LEADER is sent at it
abbrev pub announces : System → ℕ → Station → Bool
announces s me x = announces_of s.clock me x

-- a start, between ticks
abbrev pub starting : System → ℕ → Station → Station
starting s me x = starting_of s.clock me s.n s.period s.tick x
