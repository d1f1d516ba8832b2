-- What a sound system can hand to an operation of a head with a running clock: the clauses of soundness about one station, and what comes
-- up in a tick.
use Rattle.std.specs.Prelude.{Bool, cond, not, ◌&&◌, ◌||◌, ℕ, ◌+◌, ◌-◌, leb, ltb, eqb}
use Rattle.station.specs.Limits.{last_tick}
use Rattle.station.specs.declared.Station.{Station}
use Rattle.fit.specs.Fit.{within, ranges, vectorless, cleared, heard_before}

-- counts and vectors are zero, and the kept leader is the station itself
unfoldable pub kept_in : ℕ → Station → Bool
kept_in me s = eqb s.incarnation 0 && eqb s.stable me && vectorless s

-- a station that is up: a leader, missing only in the start-up wait; stamps from the period to period + tick, the lowest not above the own
unfoldable pub alive : ℕ → ℕ → ℕ → Station → Bool
alive n period tick s =
    s.up && (within 1 s.leader n || (eqb s.leader 0 && s.recovering)) && within period s.stamp (period + tick)
    && within period s.lowest s.stamp

-- the timeout is from the period to period + tick
abbrev pub timeout_in : ℕ → ℕ → Station → Bool
timeout_in period tick s = within period s.timeout (period + tick)

-- the next send chance is after the tick by at most period + tick
abbrev pub slot_in : ℕ → ℕ → Station → Bool
slot_in period tick s = ltb tick s.slot && leb s.slot (tick + (period + tick))

-- the leader is another station
abbrev pub follows : ℕ → Station → Bool
follows me s = not (eqb s.leader 0) && not (eqb s.leader me)

-- a timer runs exactly there; it ends after the tick, at most the timeout later
unfoldable pub timer_in : ℕ → ℕ → Station → Bool
timer_in me tick s = cond (follows me s) (ltb tick s.timer && leb s.timer (tick + s.timeout)) (eqb s.timer 0)

-- an up station at the end of a tick, but for its timer
unfoldable pub standing : ℕ → ℕ → ℕ → Station → Bool
standing n period tick s = alive n period tick s && timeout_in period tick s && slot_in period tick s

-- a station, up or down, at the end of a tick
unfoldable pub fit : ℕ → ℕ → ℕ → ℕ → Station → Bool
fit me n period tick s =
    ranges me n period && kept_in me s && cond s.up (standing n period tick s && timer_in me tick s) (cleared s)

-- the timer was set in this very tick: the leader was heard
unfoldable pub just_set : ℕ → ℕ → Station → Bool
just_set me tick s = follows me s && eqb s.timer (tick + s.timeout)

-- handed to a start, between ticks
unfoldable pub fit_start : ℕ → ℕ → ℕ → ℕ → Station → Bool
fit_start me n period tick s = leb tick last_tick && fit me n period tick s

-- handed to a crash, between ticks
unfoldable pub fit_crash : ℕ → ℕ → ℕ → ℕ → Station → Bool
fit_crash me n period tick s = fit_start me n period tick s && s.up

-- handed to the end of a timer, in the tick
unfoldable pub fit_expire : ℕ → ℕ → ℕ → ℕ → Station → Bool
fit_expire me n period tick s = within 1 tick last_tick && fit me n period (tick - 1) s && s.up && eqb s.timer tick

-- a message from another station, with a stamp of a tick before
unfoldable pub fit_message : ℕ → ℕ → ℕ → ℕ → ℕ → ℕ → Bool
fit_message me n period tick q z = within 1 q n && not (eqb q me) && within period z (period + (tick - 1))

-- handed to hearing LEADER from q with the stamp z, in the tick
unfoldable pub fit_hear : ℕ → ℕ → ℕ → ℕ → ℕ → ℕ → Station → Bool
fit_hear me n period tick q z s =
    within 1 tick last_tick && ranges me n period && kept_in me s && fit_message me n period tick q z && standing n period (tick - 1) s
    && (timer_in me (tick - 1) s || (just_set me tick s && heard_before period tick q s))

-- its timer did not end in this tick: it ends later or is stopped, or was set in this tick
unfoldable pub unended : ℕ → ℕ → ℕ → Station → Bool
unended me period tick s =
    timeout_in period (tick - 1) s && ((timer_in me (tick - 1) s && not (eqb s.timer tick)) || just_set me tick s)

-- its timer ended in this tick, and raised the timeout to the highest
unfoldable pub ended : ℕ → ℕ → ℕ → Station → Bool
ended me period tick s =
    eqb s.leader me && eqb s.timer 0 && eqb s.lowest s.stamp && eqb s.timeout (period + tick)

-- handed to a send chance, in the tick
unfoldable pub fit_slot : ℕ → ℕ → ℕ → ℕ → Station → Bool
fit_slot me n period tick s =
    within 1 tick last_tick && ranges me n period && kept_in me s && alive n period (tick - 1) s && eqb s.slot tick
    && (unended me period tick s || ended me period tick s)
