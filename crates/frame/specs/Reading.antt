-- Reading a frame ("Read frame" of document 01, with Paper 5 of document 02).
use Rattle.std.specs.Prelude.{List, [], ◌∷◌, Bool, cond, ℕ, ◌+◌, ◌*◌, length, get_or, replicate, eqb, Result, Ok, Err}
use Rattle.lists.specs.Entries.{up_to, over}
use Rattle.lists.specs.First.{first_failed}
use Rattle.frame.specs.Frame.{header, frame_size, stations_in, sender_in, counts_in}
use Rattle.frame.specs.declared.Leader.{Leader}
use Rattle.frame.specs.declared.ReadError.{ReadError}
use Rattle.frame.specs.declared.ReadError.TheVariants.{Stations, Length, Mark, Count, Sender, Entry}

-- the count of the station at place k, from 0: low byte, high byte
abbrev pub count_at : List ℕ → ℕ → ℕ
count_at bytes k = get_or bytes (header + 2 * k) 0 + 256 * get_or bytes (header + 2 * k + 1) 0

unfoldable pub counts_of : ℕ → List ℕ → List ℕ
counts_of n bytes = up_to n (count_at bytes)

abbrev pub sender_of : List ℕ → ℕ
sender_of bytes = get_or bytes 1 0

-- the number of stations that is written in the frame
abbrev pub written_count : List ℕ → ℕ
written_count bytes = get_or bytes 2 0

-- the tests in their order, each with the refusal if it fails
abbrev pub read_tests : ℕ → List ℕ → List (Bool × ℕ)
read_tests n bytes =
    (stations_in n, 5)
    ∷ (eqb (length bytes) (frame_size n), 17)
    ∷ (eqb (get_or bytes 0 0) 0x10, 18)
    ∷ (eqb (written_count bytes) n, 24)
    ∷ (sender_in n (sender_of bytes), 19)
    ∷ (counts_in (sender_of bytes) (counts_of n bytes), 20)
    ∷ []

-- the first that fails, 0 if none does
abbrev pub read_refusal : ℕ → List ℕ → ℕ
read_refusal n bytes = first_failed (read_tests n bytes)

-- what reading answers: the refusal, the sender, and the counts with zeros beyond n
pub record Reading : Type 0 where
  pub refusal : ℕ
  pub sender : ℕ
  pub counts : List ℕ

-- sender and counts of the frame; refused, both are zero
unfoldable pub reading : ℕ → List ℕ → Reading
reading n bytes =
    let r : ℕ = read_refusal n bytes in
    record {
      refusal = r;
      sender = cond (eqb r 0) (sender_of bytes) 0;
      counts = cond (eqb r 0) (over (counts_of n bytes) (replicate 8 0)) (replicate 8 0);
    }

-- the papers' number of a refusal
abbrev pub number_of : ReadError → ℕ
number_of Stations = 5
number_of Length = 17
number_of Mark = 18
number_of Count = 24
number_of Sender = 19
number_of Entry = 20

-- an answer: sender and counts, or the refusal and zeros
abbrev pub said : Result Leader ReadError → Reading
said (Ok leader) = record { refusal = 0; sender = leader.sender; counts = leader.counts }
said (Err why) = record { refusal = number_of why; sender = 0; counts = replicate 8 0 }
