-- How long listings and last lines can get, so that a caller knows of a buffer that holds each.
use Rattle.std.specs.Prelude.{ℕ, ◌≤◌, length}
use Rattle.election.specs.Listing.{listing, longest_listing, end_line}
use Rattle.election.specs.declared.System.{System}

abbrev pub ListingRoom : Type 0
ListingRoom = (s : System) → s.n ≤ 8 → length (listing s) ≤ longest_listing

abbrev pub EndRoom : Type 0
EndRoom = (refusal offset : ℕ) → length (end_line refusal offset) ≤ longest_listing
