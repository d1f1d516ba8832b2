-- Writing a frame into a buffer ("Write frame" of document 01, with the frame of Paper 5).
use Rattle.std.specs.Prelude.{List, [], ◌∷◌, cond, ℕ, length, leb, eqb, Result, Ok, Err}
use Rattle.lists.specs.Entries.{over}
use Rattle.lists.specs.First.{first_failed}
use Rattle.frame.specs.Frame.{frame, stations_in, sender_in, counts_in}
use Rattle.frame.specs.declared.WriteError.{WriteError}
use Rattle.frame.specs.declared.WriteError.TheVariants.{Stations, Counts, Sender, Entry, Space}

-- the refusals in their order, 0 for none
abbrev pub write_refusal : ℕ → ℕ → List ℕ → ℕ → ℕ
write_refusal n sender counts room =
    first_failed
    ((stations_in n, 5)
    ∷ (eqb (length counts) n, 17)
    ∷ (sender_in n sender, 19)
    ∷ (counts_in sender counts, 20)
    ∷ (leb (length (frame n sender counts)) room, 16)
    ∷ [])

-- what writing leaves: the refusal, the length written, and the buffer
pub record Writing : Type 0 where
  pub refusal : ℕ
  pub written : ℕ
  pub buffer : List ℕ

-- the frame and then what was there; refused, nothing is written
unfoldable pub writing : ℕ → ℕ → List ℕ → List ℕ → Writing
writing n sender counts buffer =
    let r : ℕ = write_refusal n sender counts (length buffer) in
    record {
      refusal = r;
      written = cond (eqb r 0) (length (frame n sender counts)) 0;
      buffer = cond (eqb r 0) (over (frame n sender counts) buffer) buffer;
    }

-- the papers' number of a refusal
abbrev pub number_of : WriteError → ℕ
number_of Stations = 5
number_of Counts = 17
number_of Sender = 19
number_of Entry = 20
number_of Space = 16

-- an answer, with the buffer as it is then: the length, or the refusal and a length of zero
abbrev pub said : Result ℕ WriteError → List ℕ → Writing
said (Ok size) buffer = record { refusal = 0; written = size; buffer = buffer }
said (Err why) buffer = record { refusal = number_of why; written = 0; buffer = buffer }
