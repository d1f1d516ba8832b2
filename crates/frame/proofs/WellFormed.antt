-- A frame is read exactly when it is well formed.
use mathlib.Core.Path.{◌≡◌, refl, sym, ap, ◌∙◌}
use mathlib.Core.List.{List}
use mathlib.Core.Bool.{true}
use Prim.Native.Nat.{ℕ}
use native.Mathlib.Omega.{arith}
use lib.ListN.{length, replicate}
use lib.Seq.{take_all}
use Rattle.lists.specs.Entries.{over}
use Rattle.frame.specs.Claims.{Octets, WellFormed, ReadsWellFormed}
use Rattle.frame.specs.Frame.{frame, frame_size, stations_in, sender_in, counts_in}
use Rattle.frame.specs.Reading.{Reading, counts_of, sender_of, reading}
use Rattle.frame.proofs.Accepted.{Readable, readable, reading-of}
use Rattle.frame.proofs.Body.{length-frame, length-counts_of, counts_of-frame, frame-front}
use Rattle.frame.proofs.Ranges.{stations-range, sender-range, counts-range}

-- what is read from bytes makes them again
pub frame-counts_of : (n : ℕ) (bytes : List ℕ) → Octets bytes → Readable n bytes → frame n (sender_of bytes) (counts_of n bytes) ≡ bytes
frame-counts_of n bytes o r = (rw r.count at (frame-front n bytes o r.mark (omega arith))) ∙ take_all (frame_size n) bytes (omega arith)

-- a frame of numbers in their ranges is read
pub readable_frame : (n sender : ℕ) (counts : List ℕ) → stations_in n ≡ true → length counts ≡ n → sender_in n sender ≡ true → counts_in sender counts ≡ true → Readable n (frame n sender counts)
unfolding frame
readable_frame n sender counts a b c d =
    record {
      stations = a;
      size = length-frame n sender counts ∙ rw b;
      mark = refl;
      count = refl;
      sender = c;
      counts = rw (counts_of-frame n sender counts b) d;
    }

pub reading-frame :
    (n sender : ℕ) (counts : List ℕ) → stations_in n ≡ true → length counts ≡ n → sender_in n sender ≡ true → counts_in sender counts ≡ true
    → reading n (frame n sender counts) ≡ record { refusal = 0; sender = sender; counts = over counts (replicate 8 0) }
unfolding frame
reading-frame n sender counts a b c d = reading-of n _ (readable_frame n sender counts a b c d) ∙ rw (counts_of-frame n sender counts b)

-- so what is well formed is read as what it is the frame of
pub reading-formed : (n : ℕ) (bytes : List ℕ) (w : WellFormed n bytes) → reading n bytes ≡ record { refusal = 0; sender = w.sender; counts = over w.counts (replicate 8 0) }
reading-formed n bytes w =
    rw w.is-frame (reading-frame n _ _ ((stations-range n).1 w.stations) w.size ((sender-range n _).1 w.sender-in) ((counts-range _ _).1 (w.counts-in, w.own)))

pub reads-well_formed : ReadsWellFormed
reads-well_formed n bytes o = (formed, read)
  where
    formed : (reading n bytes).refusal ≡ 0 → WellFormed n bytes
    formed e =
        let r = readable n bytes e in
        let c = (counts-range _ _).0 r.counts in
        record {
          sender = sender_of bytes;
          counts = counts_of n bytes;
          stations = (stations-range n).0 r.stations;
          sender-in = (sender-range n _).0 r.sender;
          size = length-counts_of n bytes;
          counts-in = c.0;
          own = c.1;
          is-frame = sym (frame-counts_of n bytes o r);
        }

    read : WellFormed n bytes → (reading n bytes).refusal ≡ 0
    read w = ap (λ (x : Reading). x.refusal) (reading-formed n bytes w)
