-- The parts of a station's line, and a listing whose verdict is known, as their lengths are counted.
use Rattle.std.specs.Prelude.{List, ◌++◌, Bool, ℕ}
use Rattle.station.specs.declared.Station.{Station}
use Rattle.election.specs.Listing.{tick_word, sent_word, status, leader_of, kept_of, station_lines, verdict_line}
use Rattle.text.specs.Numbers.{decimal, newline, named}
use Rattle.election.specs.declared.Verdict.{Verdict}

-- who it is
unfoldable pub who : ℕ → Station → List ℕ
who p x = status p x.up ++ leader_of x.up x.leader

-- what it sent and keeps
unfoldable pub ends : Bool → ℕ → Station → List ℕ
ends clock sent x = named sent_word sent ++ (kept_of clock x.stable ++ newline)

-- the tick, a line for each station, and a verdict
abbrev pub listing_with : Bool → ℕ → ℕ → List Station → List ℕ → Verdict → List ℕ
listing_with clock n tick stations sent v = tick_word ++ decimal tick ++ newline ++ station_lines clock n stations sent ++ verdict_line v
