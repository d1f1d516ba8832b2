-- Every listing of at most eight stations, and every last line, has at most 2,700 bytes.
use mathlib.Core.List.{List, ◌++◌}
use mathlib.Core.Bool.{Bool, true, false, cond, ◌&&◌}
use Prim.Native.Nat.{ℕ, ◌+◌, ◌*◌, ◌≤◌}
use native.Mathlib.Omega.{arith}
use lib.Dec.{ltb, eqb}
use lib.ListN.{length, get_or, length-append}
use Rattle.station.specs.declared.Station.{Station}
use Rattle.election.specs.System.{no_station}
use Rattle.election.specs.Listing.{up_word, down_word, none_word, end_word, refused_word, at_word, status, leader_of, vector_of, stamp_of, known_of, kept_of, station_line, station_lines, verdict, verdict_line, listing_of, end_line}
use Rattle.text.specs.Numbers.{decimal, newline, vector}
use Rattle.listing.proofs.Pieces.{who, ends}
use Rattle.election.specs.declared.Verdict.{Verdict}
use Rattle.election.specs.declared.Verdict.TheVariants.{Dark, Agreed, AgreedDark, Split}
use Rattle.listing.specs.Room.{ListingRoom, EndRoom}
use Rattle.text.proofs.Digits.{length-decimal}
use Rattle.text.proofs.Room.{either, joined, vector-room}
use Rattle.listing.proofs.Same.{line_is, size_is}

who-room : (p : ℕ) (x : Station) → length (who p x) ≤ 60
unfolding who status leader_of
who-room p x =
    simp length-append
    (omega (arith, length-decimal p, either x.up up_word down_word 5 (omega arith) (omega arith), either (x.up && ltb 0 x.leader) (decimal x.leader) none_word 20 (length-decimal x.leader) (omega arith)))

known-room : (clock : Bool) (n : ℕ) (x : Station) → n ≤ 8 → length (known_of clock n x) ≤ 200
unfolding known_of vector_of stamp_of
known-room true n x h = omega (arith, either x.up (decimal x.stamp) none_word 20 (length-decimal x.stamp) (omega arith))
known-room false n x h =
    simp length-append
    (omega (arith, length-decimal x.incarnation, either x.up (vector n x.recovered) none_word 168 (omega (arith, vector-room n x.recovered)) (omega arith)))

ends-room : (clock : Bool) (sent : ℕ) (x : Station) → length (ends clock sent x) ≤ 60
unfolding ends kept_of
ends-room clock sent x = simp length-append (omega (arith, length-decimal sent, either clock none_word (decimal x.stable) 20 (omega arith) (length-decimal x.stable)))

line_room_lem : (clock : Bool) (n p : ℕ) (x : Station) (sent : ℕ) → n ≤ 8 → length (station_line clock n p x sent) ≤ 320
line_room_lem clock n p x sent h = rw (line_is clock n p x sent) (simp length-append (omega (arith, who-room p x, known-room clock n x h, ends-room clock sent x)))

lines-room : (clock : Bool) (n : ℕ) (stations : List Station) (sent : List ℕ) → n ≤ 8 → length (station_lines clock n stations sent) ≤ n * 320
unfolding station_lines
lines-room clock n stations sent h = joined (λ k. station_line clock n (k + 1) (get_or stations k no_station) (get_or sent k 0)) 320 n (λ k. line_room_lem clock n (k + 1) (get_or stations k no_station) (get_or sent k 0) h)

verdict-room : (v : Verdict) → length (verdict_line v) ≤ 33
unfolding verdict_line
verdict-room Dark = omega arith
verdict-room (Agreed l) = simp length-append (omega (arith, length-decimal l))
verdict-room (AgreedDark l) = simp length-append (omega (arith, length-decimal l))
verdict-room Split = omega arith

pub listing-room : ListingRoom
unfolding listing_of
listing-room s h =
    let v : Verdict = verdict s.n s.stations in
    omega (arith, size_is s.clock s.n s.tick s.stations s.sent v, length-decimal s.tick, lines-room s.clock s.n s.stations s.sent h, verdict-room v)

pub end_room : EndRoom
unfolding end_line
end_room refusal offset =
    let a : List ℕ = end_word ++ decimal offset in
    let b : List ℕ = refused_word ++ decimal refusal ++ at_word ++ decimal offset in
    omega (arith, length-append (cond (eqb refusal 0) a b) newline, either (eqb refusal 0) a b 100 (simp length-append (omega (arith, length-decimal offset))) (simp length-append (omega (arith, length-decimal refusal, length-decimal offset))))
