-- Rows of the rules of a head with a running clock, of what fits it and of its operations, computed.
use Rattle.std.specs.Prelude.{◌≡◌, List, [], ◌∷◌, Bool, true, false, cond, ℕ, set, replicate}
use Rattle.lists.specs.Every.{All}
use Rattle.station.specs.Rules.{down_with, knowing, waiting, trusting, pacing}
use Rattle.station.specs.declared.Station.{Station}
use Rattle.clock.specs.Fit.{fit}
use Rattle.clock.specs.Operations.{starting, crashing, slotting}
use Rattle.clock.specs.Rules.{bounding, started, heard, expired, slotted, sends, carried}

-- what is looked at: leader, timer, next chance, the wait; own stamp, lowest stamp, timeout
abbrev pub seen : Station → List ℕ
seen s = s.leader ∷ s.timer ∷ s.slot ∷ cond s.recovering 1 0 ∷ s.stamp ∷ s.lowest ∷ s.timeout ∷ []

-- in the wait, with the stamp 25, the lowest 20 and the timeout 27: head me without a leader; head 3 with the leader 1, and past the wait
abbrev pub unled : ℕ → Station
unled me = bounding 20 27 (started 16 9 (down_with 0 me))

abbrev pub led : Station
led = trusting 1 40 (unled 3)

abbrev pub past_wait : Station
past_wait = pacing 3 50 led

-- a start at tick 40
abbrev pub Starts : Type 0
Starts = seen (started 16 40 (down_with 0 2)) ≡ 0 ∷ 0 ∷ 96 ∷ 1 ∷ 56 ∷ 56 ∷ 56 ∷ []

-- an equal stamp, no leader yet: adopted from a lower number, not from a higher one
abbrev pub EqualFirst : Type 0
EqualFirst =
    (seen (heard 2 1 20 30 (unled 2)) ≡ 1 ∷ 57 ∷ 34 ∷ 1 ∷ 25 ∷ 20 ∷ 27 ∷ []) × (heard 1 2 20 30 (unled 1) ≡ unled 1)

-- an equal stamp, with a leader: adopted from it again, and from a number below its own, even one above the receiver's; not from one above
abbrev pub EqualAgain : Type 0
EqualAgain =
    (seen (heard 3 1 20 30 led) ≡ 1 ∷ 57 ∷ 34 ∷ 1 ∷ 25 ∷ 20 ∷ 27 ∷ [])
    × (seen (heard 1 2 20 30 (trusting 3 40 (unled 1))) ≡ 2 ∷ 57 ∷ 34 ∷ 1 ∷ 25 ∷ 20 ∷ 27 ∷ [])
    × (heard 3 2 20 30 led ≡ led)

-- a lower stamp: adopted from a higher number; a higher one: not from the leader, nor where there is none
abbrev pub LowerHigher : Type 0
LowerHigher =
    (seen (heard 3 4 19 30 led) ≡ 4 ∷ 57 ∷ 34 ∷ 1 ∷ 25 ∷ 19 ∷ 27 ∷ [])
    × (heard 3 1 21 30 led ≡ led)
    × (heard 2 1 21 30 (unled 2) ≡ unled 2)

-- the timer ends
abbrev pub TimerEnds : Type 0
TimerEnds = seen (expired 3 led) ≡ 3 ∷ 0 ∷ 34 ∷ 1 ∷ 25 ∷ 25 ∷ 28 ∷ []

-- the wait ends: nobody trusted; another trusted; itself trusted
abbrev pub WaitEnds : Type 0
WaitEnds =
    (seen (slotted 3 16 34 (unled 3)) ≡ 3 ∷ 0 ∷ 50 ∷ 0 ∷ 25 ∷ 20 ∷ 27 ∷ [])
    × (seen (slotted 3 16 34 led) ≡ 1 ∷ 61 ∷ 50 ∷ 0 ∷ 25 ∷ 20 ∷ 27 ∷ [])
    × (seen (slotted 3 16 34 (trusting 3 0 led)) ≡ 3 ∷ 0 ∷ 50 ∷ 0 ∷ 25 ∷ 20 ∷ 27 ∷ [])

-- a later chance leaves the timer
abbrev pub LaterChance : Type 0
LaterChance = seen (slotted 3 16 50 past_wait) ≡ 1 ∷ 40 ∷ 66 ∷ 0 ∷ 25 ∷ 20 ∷ 27 ∷ []

-- who sends at a chance: at the end of the wait who trusts nobody, not who trusts another; later who trusts itself
abbrev pub Sends : Type 0
Sends = (sends 3 (unled 3) ≡ true) × (sends 3 led ≡ false) × (sends 3 past_wait ≡ false) × (sends 3 (trusting 3 0 past_wait) ≡ true)

-- what is sent is the own stamp, not the lowest
abbrev pub Carries : Type 0
Carries = carried led ≡ 25

-- head 2 of 3 at the end of tick 40, with the period 16: it leads, from a start at some tick or at 40; it follows 3; it is in its wait
abbrev pub leads_from : ℕ → Station
leads_from tick = pacing 2 50 (trusting 2 0 (started 16 tick (down_with 0 2)))

abbrev pub leads : Station
leads = leads_from 40

abbrev pub follower : ℕ → Station
follower timer = trusting 3 timer leads

abbrev pub waits : ℕ → Station
waits timer = trusting 0 timer (started 16 40 (down_with 0 2))

-- as far as each number may go
abbrev pub fitting : List Station
fitting =
    leads ∷ leads_from 34 ∷ bounding 16 56 leads ∷ bounding 56 16 leads ∷ pacing 2 41 leads ∷ pacing 2 96 leads ∷ follower 41 ∷ follower 96 ∷ waits 0 ∷ down_with 0 2
    ∷ []

-- lowest stamp, timeout, own stamp, next chance
abbrev pub misnumbered : List Station
misnumbered =
    bounding 15 56 leads ∷ bounding 57 56 leads ∷ bounding 56 15 leads ∷ bounding 56 57 leads
    ∷ bounding 56 56 (leads_from 41) ∷ bounding 51 50 (leads_from 34) ∷ pacing 2 40 leads ∷ pacing 2 97 leads ∷ []

-- timer, leader
abbrev pub misled : List Station
misled =
    follower 40 ∷ follower 97 ∷ follower 0 ∷ trusting 2 41 leads ∷ waits 41 ∷ pacing 2 50 (waits 0) ∷ trusting 4 41 leads ∷ []

-- a down head that still has its stamp
abbrev pub branded : Station
branded =
    record {
      incarnation = 0;
      stable = 2;
      up = false;
      leader = 0;
      timer = 0;
      slot = 0;
      recovering = false;
      recovered = replicate 8 0;
      timeouts = replicate 8 0;
      stamp = 16;
      lowest = 0;
      timeout = 0;
    }

-- start count, kept leader, vectors; what a crash should have lost
abbrev pub misheld : List Station
misheld =
    started 16 40 (down_with 1 2) ∷ started 16 40 (down_with 0 1) ∷ knowing (set (replicate 8 0) 7 1) leads ∷ waiting 2 0 (set (replicate 8 0) 0 1) leads
    ∷ down_with 1 2 ∷ down_with 0 1 ∷ bounding 16 0 (down_with 0 2) ∷ bounding 0 16 (down_with 0 2) ∷ trusting 2 0 (down_with 0 2) ∷ branded ∷ []

abbrev pub fits : Bool → Station → Type 0
fits b s = fit 2 3 16 40 s ≡ b

abbrev pub Fits : Type 0
Fits = All (fits true) fitting × All (fits false) misnumbered × All (fits false) misled × All (fits false) misheld

-- the operations: 15 before 8 for a start, a crash of a head that is down, LEADER at the end of the wait and not from a follower
abbrev pub Operates : Type 0
Operates =
    ((starting 2 3 16 40 (trusting 4 41 leads)).refusal ≡ 15)
    × ((starting 2 3 16 40 leads).refusal ≡ 8)
    × ((starting 2 3 16 40 (down_with 0 2)).station ≡ started 16 40 (down_with 0 2))
    × ((crashing 2 3 16 40 leads).station ≡ down_with 0 2)
    × ((crashing 2 3 16 40 (down_with 0 2)).refusal ≡ 15)
    × ((slotting 2 3 16 40 (started 16 12 (down_with 0 2))).sending ≡ true)
    × ((slotting 2 3 16 50 (follower 60)).sending ≡ false)
