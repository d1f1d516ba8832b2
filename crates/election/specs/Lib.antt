-- The election as definitions, in the paper's order, and what is claimed of it.
-- One tick of the desk: the system, what its heads do, a tick; the same in the paper's order; ticks in which nothing is due
pub mod System
pub mod Heads
pub mod Tick
pub mod Order
pub mod Idle
-- Commands of one byte, and what is turned down: a command, soundness, a schedule, the listing, its verdict and the search for it; going on with a schedule
pub mod Sound
pub mod Commands
pub mod Schedule
pub mod Listing
pub mod Verdicts
pub mod Search
pub mod Onward
-- The accepted commands of a schedule, and the claims
pub mod History
pub mod Claims
-- Tables that are computed: the rehearsals, the ranks, the clock heads, the findings of the search, the errors ruled out, and soundness breached clause by clause
pub mod Rows
pub mod Rehearsals
pub mod Ranked
pub mod Clocked
pub mod Found
pub mod Errors
pub mod Breaches
