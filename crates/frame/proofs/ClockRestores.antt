-- A clock frame is read exactly when it is well formed; reading restores what was written, and writing what was read.
use mathlib.Core.Path.{◌≡◌, refl, sym, ap, ◌∙◌}
use mathlib.Core.List.{List}
use mathlib.Core.Bool.{true}
use Prim.Native.Nat.{ℕ}
use native.Mathlib.Omega.{arith}
use Rattle.lists.proofs.Entries.{take_over}
use Rattle.frame.specs.Frame.{stations_in, sender_in}
use Rattle.frame.specs.Reading.{sender_of}
use Rattle.frame.specs.Stamp.{StampReading, stamp_frame, stamp_of, stamp_reading}
use Rattle.frame.specs.StampClaims.{StampFormed, ReadsStampFormed, StampReadRestores, StampWriteRestores, StampLength, NotBoth}
use Rattle.frame.proofs.Accepted.{readable}
use Rattle.frame.proofs.Clock.{length-stamp_frame, stamp_of-frame, frame-stamp_of, stamp-readable, stamp_reading-of, stamp-writable, stamp_writing-of}
use Rattle.frame.proofs.Ranges.{stations-range, sender-range}

-- the frame of a sender in its range is read as what it was made of
stamp_reading-frame : (n sender stamp : ℕ) → stations_in n ≡ true → sender_in n sender ≡ true → stamp_reading n (stamp_frame sender stamp) ≡ record { refusal = 0; sender = sender; stamp = stamp }
unfolding stamp_frame
stamp_reading-frame n sender stamp a b =
    stamp_reading-of n (stamp_frame sender stamp) (record { stations = a; size = refl; mark = refl; sender = b })
    ∙ ap (λ z. record { refusal = 0; sender = sender; stamp = z }) (stamp_of-frame sender stamp)

-- so what is well formed is read as what it is the frame of
pub stamp_reading-formed : (n : ℕ) (bytes : List ℕ) (w : StampFormed n bytes) → stamp_reading n bytes ≡ record { refusal = 0; sender = w.sender; stamp = w.stamp }
stamp_reading-formed n bytes w = rw w.is-frame (stamp_reading-frame n _ _ ((stations-range n).1 w.stations) ((sender-range n _).1 w.sender-in))

pub reads-stamp_formed : ReadsStampFormed
reads-stamp_formed n bytes o = (formed, read)
  where
    formed : (stamp_reading n bytes).refusal ≡ 0 → StampFormed n bytes
    formed e =
        let r = stamp-readable n bytes e in
        record {
          sender = sender_of bytes;
          stamp = stamp_of bytes;
          stations = (stations-range n).0 r.stations;
          sender-in = (sender-range n _).0 r.sender;
          stamp-in = omega (arith, o 2, o 3, o 4, o 5);
          is-frame = sym (frame-stamp_of bytes o r.size r.mark);
        }

    read : StampFormed n bytes → (stamp_reading n bytes).refusal ≡ 0
    read w = ap (λ (x : StampReading). x.refusal) (stamp_reading-formed n bytes w)

pub stamp-read_restores : StampReadRestores
stamp-read_restores n sender stamp buffer e =
    let w = stamp-writable n sender stamp buffer e in
    rw (stamp_writing-of n sender stamp buffer w, take_over) (stamp_reading-frame n sender stamp w.stations w.sender-in)

pub stamp-write_restores : StampWriteRestores
stamp-write_restores n bytes buffer o e h =
    let r = stamp-readable n bytes e in
    let same = frame-stamp_of bytes o r.size r.mark in
    rw (stamp_reading-of n bytes r)
    (stamp_writing-of n (sender_of bytes) (stamp_of bytes) buffer (record { stations = r.stations; sender-in = r.sender; room = rw same h }) ∙ rw same)

pub stamp-length : StampLength
stamp-length n sender stamp buffer e =
    rw (stamp_writing-of n sender stamp buffer (stamp-writable n sender stamp buffer e)) (length-stamp_frame sender stamp)

-- the first byte of the one is not that of the other
pub not_both : NotBoth
not_both n m bytes e f = omega (arith, (readable n bytes e).mark, (stamp-readable m bytes f).mark)
