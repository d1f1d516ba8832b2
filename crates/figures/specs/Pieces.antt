-- The definitions of demand 3 over the stations alone, piece by piece.
use Rattle.std.specs.Prelude.{Bool, cond, ◌&&◌, List, ℕ, ◌+◌, ◌-◌, ◌*◌, ◌/◌, eqb, get_or}
use Rattle.lists.specs.Count.{count_to}
use Rattle.lists.specs.Entries.{up_to}
use Rattle.lists.specs.Largest.{max_to}
use Rattle.station.specs.Order.{entry, precedes}
use Rattle.station.specs.declared.Station.{Station}
use Rattle.election.specs.System.{no_station, station_of}
use Rattle.figures.specs.declared.Figures.{Figures}

-- the start-up wait that a station has left
abbrev pub wait_of : ℕ → Station → ℕ
wait_of tick x = cond (x.up && x.recovering) (x.slot - tick) 0

-- the longest of n stations
unfoldable pub wait_over : ℕ → ℕ → List Station → ℕ
wait_over n tick stations = max_to n (λ k. wait_of tick (station_of stations (k + 1)))

-- the timeout for the station at place i, if that is not the own place k
abbrev pub timeout_for : ℕ → List ℕ → ℕ → ℕ
timeout_for k t i = cond (eqb i k) 0 (entry t (i + 1))

-- the longest of those for n stations
abbrev pub held_for : ℕ → ℕ → List ℕ → ℕ
held_for n k t = max_to n (λ i. timeout_for k t i)

-- of the station at place k, if it is up
abbrev pub timeout_of : ℕ → ℕ → Station → ℕ
timeout_of n k x = cond x.up (held_for n k x.timeouts) 0

unfoldable pub timeout_over : ℕ → List Station → ℕ
timeout_over n stations = max_to n (λ k. timeout_of n k (station_of stations (k + 1)))

-- how many of n stations are up
unfoldable pub up_over : ℕ → List Station → ℕ
up_over n stations = count_to n (λ k. (station_of stations (k + 1)).up)

-- the start counts of all places
unfoldable pub counts_of : List Station → List ℕ
counts_of stations = up_to 8 (λ k. (get_or stations k no_station).incarnation)

-- the first so far, 0 if there is none, and station p
abbrev pub first_of : List ℕ → List ℕ → Bool → ℕ → ℕ → ℕ
first_of ranks v up p l = cond up (cond (eqb l 0) p (cond (precedes ranks v p l) p l)) l

-- the bound of demand 3 from the figures
abbrev pub bound_of : ℕ → Figures → ℕ
bound_of d f = f.wait + f.timeout + 3 * d + f.period + (f.heads - 1) * (d - 1) * (d - 2) / 2
