-- Where nothing is refused every test holds, and the other way round.
use mathlib.Core.Path.{◌≡◌}
use mathlib.Core.List.{List}
use mathlib.Core.Bool.{true}
use Prim.Native.Nat.{ℕ, ◌≤◌}
use lib.Dec.{leb, eqb}
use lib.ListN.{length, get_or, replicate}
use borrow.Author.Tests.{eqb-true, leb-true, eq-eqb, le-leb}
use Rattle.lists.specs.Entries.{over}
use Rattle.lists.proofs.First.{passed}
use Rattle.frame.specs.Frame.{frame, frame_size, stations_in, sender_in, counts_in}
use Rattle.frame.specs.Reading.{counts_of, sender_of, written_count, reading}
use Rattle.frame.specs.Writing.{writing}

pub record Readable (n : ℕ) (bytes : List ℕ) : Type 0 where
  pub stations : stations_in n ≡ true
  pub size : length bytes ≡ frame_size n
  pub mark : get_or bytes 0 0 ≡ 0x10
  pub count : written_count bytes ≡ n
  pub sender : sender_in n (sender_of bytes) ≡ true
  pub counts : counts_in (sender_of bytes) (counts_of n bytes) ≡ true

pub record Writable (n sender : ℕ) (counts buffer : List ℕ) : Type 0 where
  pub stations : stations_in n ≡ true
  pub size : length counts ≡ n
  pub sender-in : sender_in n sender ≡ true
  pub counts-in : counts_in sender counts ≡ true
  pub room : length (frame n sender counts) ≤ length buffer

pub readable : (n : ℕ) (bytes : List ℕ) → (reading n bytes).refusal ≡ 0 → Readable n bytes
unfolding reading
readable n bytes e =
    let a = passed (stations_in n) _ _ e in
    let b = passed (eqb (length bytes) (frame_size n)) _ _ a.1 in
    let c = passed (eqb (get_or bytes 0 0) 0x10) _ _ b.1 in
    let d = passed (eqb (written_count bytes) n) _ _ c.1 in
    let f = passed (sender_in n (sender_of bytes)) _ _ d.1 in
    let g = passed (counts_in (sender_of bytes) (counts_of n bytes)) _ _ f.1 in
    record { stations = a.0; size = eqb-true _ _ b.0; mark = eqb-true _ _ c.0; count = eqb-true _ _ d.0; sender = f.0; counts = g.0 }

pub reading-of : (n : ℕ) (bytes : List ℕ) → Readable n bytes → reading n bytes ≡ record { refusal = 0; sender = sender_of bytes; counts = over (counts_of n bytes) (replicate 8 0) }
unfolding reading
reading-of n bytes r = rw (r.stations, eq-eqb _ _ r.size, eq-eqb _ _ r.mark, eq-eqb _ _ r.count, r.sender, r.counts)

pub writable : (n sender : ℕ) (counts buffer : List ℕ) → (writing n sender counts buffer).refusal ≡ 0 → Writable n sender counts buffer
unfolding writing
writable n sender counts buffer e =
    let a = passed (stations_in n) _ _ e in
    let b = passed (eqb (length counts) n) _ _ a.1 in
    let c = passed (sender_in n sender) _ _ b.1 in
    let d = passed (counts_in sender counts) _ _ c.1 in
    let f = passed (leb (length (frame n sender counts)) (length buffer)) _ _ d.1 in
    record { stations = a.0; size = eqb-true _ _ b.0; sender-in = c.0; counts-in = d.0; room = leb-true _ _ f.0 }

pub writing-of : (n sender : ℕ) (counts buffer : List ℕ) → Writable n sender counts buffer → writing n sender counts buffer ≡ record { refusal = 0; written = length (frame n sender counts); buffer = over (frame n sender counts) buffer }
unfolding writing
writing-of n sender counts buffer w = rw (w.stations, eq-eqb _ _ w.size, w.sender-in, w.counts-in, le-leb _ _ w.room)
