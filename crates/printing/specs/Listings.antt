-- The listings of a schedule, and what is known once they were printed.
use Rattle.std.specs.Prelude.{◌≡◌, List, ℕ, ◌<◌, ◌^◌, length}
use Rattle.election.specs.Listing.{reports}
use Rattle.election.specs.Schedule.{schedule, refusal_of, offset_of}
use Rattle.election.specs.System.{fresh}
use Rattle.printing.specs.declared.rules.Listed.{Listed}

-- the listings of the accepted reports, in order
abbrev pub listings : List ℕ → List ℕ
listings bytes = reports (length bytes) fresh bytes

-- how many bytes they are, few enough to be counted on; and the refusal and its place, or no refusal and the length, are those of the schedule
pub record Printed (listed : Listed) (bytes : List ℕ) : Type 0 where
  pub size : listed.size ≡ length (listings bytes)
  pub few : listed.size < 2 ^ 33
  pub refusal : refusal_of listed.ended ≡ (schedule bytes).refusal
  pub place : offset_of listed.ended ≡ (schedule bytes).offset
