-- The proof of Paper 7 and of demand 3, file by file in its order; then their instances, that there is a leader, and the code.
--   A  what holds of every system of flash heads that a schedule reaches: nobody knows more starts of a head than it has had, each head's leader is
--      before it or itself, its timeouts are above the period, its next chance is at most a period away once its wait is over; and what the accepted
--      commands tell of the system at each moment of a stretch
--   B  one steady station at a time. A leader is late if it is L or after L by the counts known and the ranks; a late leader gives way to L
--   C  after M + 2 d ticks every leader is late, and L trusts itself
--   D  from then on a message of L's reaches each follower by a deadline, which comes nearer with each tick that brings none
--   E  so each follower is in one of three cases, and a tick takes it from case to case
--   F  what a follower can still lose is a number that no tick raises, and that a tick in which it does not trust L lowers
--   G  the ticks up to W + M + 3 d and a period, and after them the sum over the followers: the bound. An entry that is no run, also the start or crash
--      of a head that is not steady, leaves the steady heads and what is under way from L to them
--   H  in a tick that ends undivided no steady head but L sends; Paper 7
--   I  demand 3: nobody starts or crashes in its stretches, so the heads that are up are steady
pub mod A0Flash
pub mod A1Sane
pub mod A2Reached
pub mod A3Reaching
pub mod A4Moments
pub mod BCalm
pub mod DDeadline
pub mod E1Phase
pub mod E2Follower
pub mod E3Invariant
pub mod FPotential
pub mod G1Sums
pub mod G2Counting
pub mod G3Begins
pub mod G4Changes
pub mod G5Walk
pub mod HSteady
pub mod IDemand
pub mod Instance
pub mod Leader
pub mod OfCode
pub mod Restarting
pub mod SomeCode
pub mod Tested
pub mod TestedAmong
pub mod Tests
