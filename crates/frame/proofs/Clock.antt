-- Laws of a clock frame's bytes, and of its tests: where nothing is refused every one holds, and the other way round.
use mathlib.Core.Path.{◌≡◌, refl}
use mathlib.Core.List.{List, [], ◌∷◌}
use mathlib.Core.Bool.{true}
use Prim.Native.Nat.{ℕ, ◌+◌, ◌*◌, ◌/◌, ◌%◌, ◌≤◌, ◌<◌}
use native.Mathlib.Omega.{arith}
use lib.Dec.{leb, eqb}
use lib.ListN.{length, get_or}
use borrow.Author.Tests.{eqb-true, leb-true, eq-eqb, le-leb}
use Rattle.lists.specs.Entries.{over}
use Rattle.lists.proofs.First.{passed}
use Rattle.frame.specs.Claims.{Octets}
use Rattle.frame.specs.Frame.{stations_in, sender_in}
use Rattle.frame.specs.Reading.{sender_of}
use Rattle.frame.specs.Stamp.{stamp_mark, stamp_size, stamp_frame, stamp_of, stamp_writing, stamp_reading}

pub length-stamp_frame : (sender stamp : ℕ) → length (stamp_frame sender stamp) ≡ stamp_size
unfolding stamp_frame
length-stamp_frame sender stamp = refl

pub ruleset lengths = (length-stamp_frame)

-- the four bytes of a stamp give it back
pub stamp_of-frame : (sender stamp : ℕ) → stamp_of (stamp_frame sender stamp) ≡ stamp
unfolding stamp_frame
stamp_of-frame sender stamp = omega arith

-- four bytes are those of the stamp that they give
bytes_of :
    (a b c d : ℕ) → a < 256 → b < 256 → c < 256 → d < 256
    → let z : ℕ = a + 256 * b + 65536 * c + 16777216 * d in
    (z % 256 ≡ a) × (z / 256 % 256 ≡ b) × (z / 65536 % 256 ≡ c) × (z / 16777216 ≡ d)
bytes_of a b c d i j k l = (omega arith, omega arith, omega arith, omega arith)

-- so what is read from six bytes that begin with the mark makes them again
pub frame-stamp_of : (bytes : List ℕ) → Octets bytes → length bytes ≡ stamp_size → get_or bytes 0 0 ≡ stamp_mark → stamp_frame (sender_of bytes) (stamp_of bytes) ≡ bytes
unfolding stamp_frame
frame-stamp_of [] o e i = absurd (omega arith)
frame-stamp_of (m ∷ []) o e i = absurd (omega arith)
frame-stamp_of (m ∷ s ∷ []) o e i = absurd (omega arith)
frame-stamp_of (m ∷ s ∷ a ∷ []) o e i = absurd (omega arith)
frame-stamp_of (m ∷ s ∷ a ∷ b ∷ []) o e i = absurd (omega arith)
frame-stamp_of (m ∷ s ∷ a ∷ b ∷ c ∷ []) o e i = absurd (omega arith)
frame-stamp_of (m ∷ s ∷ a ∷ b ∷ c ∷ d ∷ []) o e i =
    let z = bytes_of a b c d (o 2) (o 3) (o 4) (o 5) in
    rw (z.0, z.1, z.2, z.3, i)
frame-stamp_of (m ∷ s ∷ a ∷ b ∷ c ∷ d ∷ x ∷ l) o e i = absurd (omega arith)

pub record StampReadable (n : ℕ) (bytes : List ℕ) : Type 0 where
  pub stations : stations_in n ≡ true
  pub size : length bytes ≡ stamp_size
  pub mark : get_or bytes 0 0 ≡ stamp_mark
  pub sender : sender_in n (sender_of bytes) ≡ true

pub record StampWritable (n sender stamp : ℕ) (buffer : List ℕ) : Type 0 where
  pub stations : stations_in n ≡ true
  pub sender-in : sender_in n sender ≡ true
  pub room : length (stamp_frame sender stamp) ≤ length buffer

pub stamp-readable : (n : ℕ) (bytes : List ℕ) → (stamp_reading n bytes).refusal ≡ 0 → StampReadable n bytes
unfolding stamp_reading
stamp-readable n bytes e =
    let a = passed (stations_in n) _ _ e in
    let b = passed (eqb (length bytes) stamp_size) _ _ a.1 in
    let c = passed (eqb (get_or bytes 0 0) stamp_mark) _ _ b.1 in
    let d = passed (sender_in n (sender_of bytes)) _ _ c.1 in
    record { stations = a.0; size = eqb-true _ _ b.0; mark = eqb-true _ _ c.0; sender = d.0 }

pub stamp_reading-of : (n : ℕ) (bytes : List ℕ) → StampReadable n bytes → stamp_reading n bytes ≡ record { refusal = 0; sender = sender_of bytes; stamp = stamp_of bytes }
unfolding stamp_reading
stamp_reading-of n bytes r = rw (r.stations, eq-eqb _ _ r.size, eq-eqb _ _ r.mark, r.sender)

pub stamp-writable : (n sender stamp : ℕ) (buffer : List ℕ) → (stamp_writing n sender stamp buffer).refusal ≡ 0 → StampWritable n sender stamp buffer
unfolding stamp_writing
stamp-writable n sender stamp buffer e =
    let a = passed (stations_in n) _ _ e in
    let b = passed (sender_in n sender) _ _ a.1 in
    let c = passed (leb (length (stamp_frame sender stamp)) (length buffer)) _ _ b.1 in
    record { stations = a.0; sender-in = b.0; room = leb-true _ _ c.0 }

pub stamp_writing-of :
    (n sender stamp : ℕ) (buffer : List ℕ) → StampWritable n sender stamp buffer
    → stamp_writing n sender stamp buffer ≡ record { refusal = 0; written = length (stamp_frame sender stamp); buffer = over (stamp_frame sender stamp) buffer }
unfolding stamp_writing
stamp_writing-of n sender stamp buffer w = rw (w.stations, w.sender-in, le-leb _ _ w.room)
