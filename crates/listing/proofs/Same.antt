-- The parts make up a line and the listing.
use mathlib.Core.Path.{◌≡◌}
use mathlib.Core.List.{List, ◌++◌, append_assoc}
use mathlib.Core.Bool.{Bool}
use Prim.Native.Nat.{ℕ, ◌+◌}
use native.Mathlib.Omega.{arith}
use lib.ListN.{length, length-append}
use Rattle.station.specs.declared.Station.{Station}
use Rattle.election.specs.declared.Verdict.{Verdict}
use Rattle.election.specs.Listing.{tick_word, sent_word, status, leader_of, known_of, kept_of, station_line, station_lines, verdict_line}
use Rattle.text.specs.Numbers.{decimal, newline, named}
use Rattle.listing.proofs.Pieces.{who, ends, listing_with}

-- the fields of a line, in three parts
group : (a b c d e f : List ℕ) → a ++ b ++ c ++ d ++ e ++ f ≡ a ++ b ++ c ++ (d ++ (e ++ f))
group a b c d e f = simp append_assoc

pub line_is : (clock : Bool) (n p : ℕ) (x : Station) (sent : ℕ) → station_line clock n p x sent ≡ who p x ++ known_of clock n x ++ ends clock sent x
unfolding station_line who ends
line_is clock n p x sent =
    group (status p x.up) (leader_of x.up x.leader) (known_of clock n x) (named sent_word sent) (kept_of clock x.stable) newline

module _ (clock : Bool) (n tick : ℕ) (stations : List Station) (sent : List ℕ) where
  -- the length of a listing is the sum of its parts'
  pub size_is : (v : Verdict) → length (listing_with clock n tick stations sent v) ≡ length (decimal tick) + length (station_lines clock n stations sent) + length (verdict_line v) + 6
  size_is v = rw (length-append (tick_word ++ decimal tick ++ newline ++ station_lines clock n stations sent) (verdict_line v), length-append (tick_word ++ decimal tick ++ newline) (station_lines clock n stations sent), length-append (tick_word ++ decimal tick) newline) (omega arith)
