-- The theorems of the election, and what they rest on.
-- What soundness says, of links and of systems
pub mod Spaced
pub mod Links
pub mod Places
pub mod Soundness
pub mod InitialSound
-- A tick: what the heads do keeps what fits, by their kind and step by step; it leaves a sound system
pub mod Heads
pub mod Steps
pub mod Delivery
pub mod StationTick
pub mod TickSound
pub mod Underway
-- The paper's order of a tick, and ticks in which nothing is due
pub mod Order
pub mod OrderLinks
pub mod Idle
-- Commands keep soundness
pub mod Accepting
pub mod Changes
pub mod KeepsSound
-- A schedule, command by command: 15 is never met, and 12 by no bytes; its end, its start counts and ranks, its kind of head, the bytes that matter, going on with it
pub mod Follow
pub mod NeverUnsound
pub mod NoTwelve
pub mod Followed
pub mod Counts
pub mod Ranks
pub mod Clocks
pub mod FromOffset
pub mod Ending
pub mod FirstOnly
pub mod GoingOn
-- The verdict of a listing, and the search for it
pub mod Verdicts
pub mod Search
-- The tables, computed; those of schedules by the rules alone
pub mod Opened
pub mod Ruled
pub mod Computed
pub mod Tables
pub mod Found
pub mod Breaches
