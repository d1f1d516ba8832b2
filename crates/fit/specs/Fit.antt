-- What a sound system can hand to an operation of a head with flash: the clauses of soundness about one station, and what comes up in a tick.
use Rattle.std.specs.Prelude.{List, Bool, cond, not, ◌&&◌, ◌||◌, ℕ, ◌+◌, ◌-◌, min, get_or, leb, ltb, eqb}
use Rattle.lists.specs.Count.{count_to}
use Rattle.lists.specs.Test.{all_to}
use Rattle.station.specs.Limits.{last_tick, most_starts, most_rank, longest}
use Rattle.station.specs.Order.{entry, precedes}
use Rattle.station.specs.Rules.{other}
use Rattle.station.specs.declared.Station.{Station}

-- the longest delay of a link
abbrev pub longest_delay : ℕ
longest_delay = 255

-- the longest that two messages of one sender can lie apart and be due in one tick
abbrev pub flight : ℕ
flight = longest_delay - 1

-- x is a number from low to high
abbrev pub within : ℕ → ℕ → ℕ → Bool
within low x high = leb low x && leb x high

-- the station's number, the number of stations and the period are in range
unfoldable pub ranges : ℕ → ℕ → ℕ → Bool
ranges me n period = within 2 n 8 && within 16 period 255 && within 1 me n

-- what is kept: a count, and a leader among the stations
unfoldable pub kept_in : ℕ → Station → Bool
kept_in n s = leb s.incarnation most_starts && within 1 s.stable n

-- known counts: at most 4095, and zero beyond n
abbrev pub count_in : ℕ → ℕ → ℕ → Bool
count_in n k x = leb x (cond (ltb k n) most_starts 0)

unfoldable pub counts_in : ℕ → List ℕ → Bool
counts_in n v = all_to 8 (λ k. count_in n k (get_or v k 0))

-- ranks: at most 7, and zero beyond n
abbrev pub rank_in : ℕ → ℕ → ℕ → Bool
rank_in n k x = leb x (cond (ltb k n) most_rank 0)

unfoldable pub ranks_in : ℕ → List ℕ → Bool
ranks_in n ranks = all_to 8 (λ k. rank_in n k (get_or ranks k 0))

-- timeouts: from the period to the highest for each other station, zero for itself and beyond n
abbrev pub timeout_in : ℕ → ℕ → ℕ → ℕ → ℕ → ℕ → Bool
timeout_in me n period high k x = cond (other me n k) (within period x high) (eqb x 0)

unfoldable pub timeouts_in : ℕ → ℕ → ℕ → ℕ → List ℕ → Bool
timeouts_in me n period high t = all_to 8 (λ k. timeout_in me n period high k (get_or t k 0))

-- no counts and no timeouts: with no stations, every entry lies beyond them
unfoldable pub vectorless : Station → Bool
vectorless s = counts_in 0 s.recovered && timeouts_in 0 0 0 0 s.timeouts

-- the fields of a head with a running clock are zero
abbrev pub clockless : Station → Bool
clockless s = eqb s.stamp 0 && eqb s.lowest 0 && eqb s.timeout 0

-- what a down station lost is zero
unfoldable pub cleared : Station → Bool
cleared s = eqb s.leader 0 && eqb s.timer 0 && eqb s.slot 0 && not s.recovering && (vectorless s && clockless s)

-- a station that is up, with its count, own entry, leader and counts
unfoldable pub alive : ℕ → ℕ → Station → Bool
alive me n s =
    s.up && leb 1 s.incarnation && within 1 s.leader n && counts_in n s.recovered && leb 1 (entry s.recovered me) && clockless s

-- the next send chance is after the tick by at most period + 4095
unfoldable pub slot_in : ℕ → ℕ → Station → Bool
slot_in period tick s = ltb tick s.slot && leb s.slot (tick + (period + most_starts))

-- a timer runs exactly where the leader is another station; it ends after the tick, at most that leader's timeout later
unfoldable pub timer_in : ℕ → ℕ → Station → Bool
timer_in me tick s =
    cond (eqb s.leader me) (eqb s.timer 0) (ltb tick s.timer && leb s.timer (tick + entry s.timeouts s.leader))

-- an up station at the end of a tick, but for its timer
unfoldable pub standing : ℕ → ℕ → ℕ → ℕ → Station → Bool
standing me n period tick s = alive me n s && timeouts_in me n period (longest tick) s.timeouts && slot_in period tick s

-- a station, up or down, at the end of a tick
unfoldable pub fit : ℕ → ℕ → ℕ → ℕ → Station → Bool
fit me n period tick s =
    ranges me n period && kept_in n s && cond s.up (standing me n period tick s && timer_in me tick s) (cleared s)

-- the timer was set in this very tick: the leader was heard, and it is before the station
unfoldable pub just_set : List ℕ → ℕ → ℕ → Station → Bool
just_set ranks me tick s = eqb s.timer (tick + entry s.timeouts s.leader) && precedes ranks s.recovered s.leader me

-- how many timeouts are at a value
unfoldable pub timeouts_at : ℕ → List ℕ → ℕ
timeouts_at high t = count_to 8 (λ k. eqb (get_or t k 0) high)

-- handed to a start, between ticks
unfoldable pub fit_start : ℕ → ℕ → ℕ → ℕ → Station → Bool
fit_start me n period tick s = leb tick last_tick && fit me n period tick s

-- handed to a crash, between ticks
unfoldable pub fit_crash : ℕ → ℕ → ℕ → ℕ → Station → Bool
fit_crash me n period tick s = fit_start me n period tick s && s.up

-- handed to the end of a timer, in the tick
unfoldable pub fit_expire : ℕ → ℕ → ℕ → ℕ → Station → Bool
fit_expire me n period tick s = within 1 tick last_tick && fit me n period (tick - 1) s && s.up && eqb s.timer tick

-- the values of a tick in which candidates are compared
unfoldable pub in_tick : List ℕ → ℕ → ℕ → ℕ → ℕ → Bool
in_tick ranks me n period tick = within 1 tick last_tick && ranges me n period && ranks_in n ranks

-- a message from another station
unfoldable pub fit_message : ℕ → ℕ → ℕ → List ℕ → Bool
fit_message me n q v = within 1 q n && not (eqb q me) && counts_in n v

-- the leader was heard in this tick before a message from q: it is a lower sender, or q with an older message due in the same tick
unfoldable pub heard_before : ℕ → ℕ → ℕ → Station → Bool
heard_before period tick q s = ltb s.leader q || (eqb s.leader q && leb period (min (tick - 1) flight))

-- handed to hearing LEADER from q, in the tick
unfoldable pub fit_hear : List ℕ → ℕ → ℕ → ℕ → ℕ → ℕ → List ℕ → Station → Bool
fit_hear ranks me n period tick q v s =
    in_tick ranks me n period tick && kept_in n s && fit_message me n q v && standing me n period (tick - 1) s
    && (timer_in me (tick - 1) s || (just_set ranks me tick s && heard_before period tick q s))

-- its timer did not end in this tick: it ends later or is stopped, or was set in this tick
unfoldable pub unended : List ℕ → ℕ → ℕ → ℕ → ℕ → Station → Bool
unended ranks me n period tick s =
    timeouts_in me n period (longest (tick - 1)) s.timeouts
    && ((timer_in me (tick - 1) s && not (eqb s.timer tick)) || just_set ranks me tick s)

-- its timer ended in this tick, and raised the timeout to the highest
unfoldable pub ended : ℕ → ℕ → ℕ → ℕ → Station → Bool
ended me n period tick s =
    eqb s.leader me && eqb s.timer 0 && timeouts_in me n period (longest tick) s.timeouts
    && eqb (timeouts_at (longest tick) s.timeouts) 1

-- handed to a send chance, in the tick
unfoldable pub fit_slot : List ℕ → ℕ → ℕ → ℕ → ℕ → Station → Bool
fit_slot ranks me n period tick s =
    in_tick ranks me n period tick && kept_in n s && alive me n s && eqb s.slot tick
    && (unended ranks me n period tick s || ended me n period tick s)
