-- The clock frame (Paper 6 of document 02): 11 hex, the sender, four bytes of stamp, low byte first; writing one, and reading one.
use Rattle.std.specs.Prelude.{List, [], ◌∷◌, Bool, cond, ℕ, ◌+◌, ◌*◌, ◌/◌, ◌%◌, length, get_or, leb, eqb, Result, Ok, Err}
use Rattle.lists.specs.Entries.{over}
use Rattle.lists.specs.First.{first_failed}
use Rattle.frame.specs.Frame.{stations_in, sender_in}
use Rattle.frame.specs.Reading.{sender_of, number_of}
use Rattle.frame.specs.Writing.{Writing}
use Rattle.frame.specs.declared.ReadError.{ReadError}
use Rattle.frame.specs.declared.stamp.Stamp.{Stamp}

-- the first byte
abbrev pub stamp_mark : ℕ
stamp_mark = 0x11

unfoldable pub stamp_frame : ℕ → ℕ → List ℕ
stamp_frame sender stamp =
    stamp_mark ∷ sender ∷ stamp % 256 ∷ stamp / 256 % 256 ∷ stamp / 65536 % 256 ∷ stamp / 16777216 ∷ []

-- how many bytes it has
abbrev pub stamp_size : ℕ
stamp_size = 6

-- the tests of writing in their order, each with the refusal if it fails
abbrev pub stamp_write_tests : ℕ → ℕ → ℕ → ℕ → List (Bool × ℕ)
stamp_write_tests n sender stamp room =
    (stations_in n, 5)
    ∷ (sender_in n sender, 19)
    ∷ (leb (length (stamp_frame sender stamp)) room, 16)
    ∷ []

-- the frame and then what was there; refused, nothing is written
unfoldable pub stamp_writing : ℕ → ℕ → ℕ → List ℕ → Writing
stamp_writing n sender stamp buffer =
    let r : ℕ = first_failed (stamp_write_tests n sender stamp (length buffer)) in
    record {
      refusal = r;
      written = cond (eqb r 0) (length (stamp_frame sender stamp)) 0;
      buffer = cond (eqb r 0) (over (stamp_frame sender stamp) buffer) buffer;
    }

-- the stamp: four bytes, low byte first
abbrev pub stamp_of : List ℕ → ℕ
stamp_of bytes = get_or bytes 2 0 + 256 * get_or bytes 3 0 + 65536 * get_or bytes 4 0 + 16777216 * get_or bytes 5 0

-- the tests of reading in their order, each with the refusal if it fails
abbrev pub stamp_read_tests : ℕ → List ℕ → List (Bool × ℕ)
stamp_read_tests n bytes =
    (stations_in n, 5)
    ∷ (eqb (length bytes) stamp_size, 17)
    ∷ (eqb (get_or bytes 0 0) stamp_mark, 18)
    ∷ (sender_in n (sender_of bytes), 19)
    ∷ []

-- what reading answers: the refusal, the sender and the stamp
pub record StampReading : Type 0 where
  pub refusal : ℕ
  pub sender : ℕ
  pub stamp : ℕ

-- sender and stamp of the frame; refused, both are zero
unfoldable pub stamp_reading : ℕ → List ℕ → StampReading
stamp_reading n bytes =
    let r : ℕ = first_failed (stamp_read_tests n bytes) in
    record {
      refusal = r;
      sender = cond (eqb r 0) (sender_of bytes) 0;
      stamp = cond (eqb r 0) (stamp_of bytes) 0;
    }

-- an answer: sender and stamp, or the refusal and zeros
abbrev pub said : Result Stamp ReadError → StampReading
said (Ok s) = record { refusal = 0; sender = s.sender; stamp = s.stamp }
said (Err why) = record { refusal = number_of why; sender = 0; stamp = 0 }
