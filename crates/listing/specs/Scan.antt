-- What the scan of the search asks of a station.
use Rattle.std.specs.Prelude.{Bool, false, ◌&&◌, ◌||◌, not, ℕ, Option, Some, None, eqb}
use Rattle.station.specs.declared.Station.{Station}

-- there is a leader so far, and this is another
abbrev pub differs : Option ℕ → ℕ → Bool
differs None m = false
differs (Some l) m = not (eqb m l)

-- the station is up, and trusts nobody or another leader than the up ones before it
abbrev pub ends_search : Option ℕ → Station → Bool
ends_search leader x = x.up && (eqb x.leader 0 || differs leader x.leader)
