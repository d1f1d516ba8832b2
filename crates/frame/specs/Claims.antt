-- What is claimed of frames; the theorems are in proofs/.
use Rattle.std.specs.Prelude.{◌≡◌, ◌↔◌, List, [], ◌∷◌, true, false, ℕ, ◌+◌, ◌*◌, ◌-◌, ◌≤◌, ◌<◌, length, get_or, take, replicate}
use Rattle.lists.specs.Entries.{over}
use Rattle.frame.specs.Frame.{body, frame, is_length}
use Rattle.frame.specs.Writing.{writing}
use Rattle.frame.specs.Reading.{reading}

-- a list of bytes
abbrev pub Octets : List ℕ → Type 0
Octets bytes = (k : ℕ) → get_or bytes k 0 < 256

-- well formed: the frame of a sender from 1 to n and of n counts, none above 4095 and the sender's own not zero
pub record WellFormed (n : ℕ) (bytes : List ℕ) : Type 0 where
  pub sender : ℕ
  pub counts : List ℕ
  pub stations : (2 ≤ n) × (n ≤ 8)
  pub sender-in : (1 ≤ sender) × (sender ≤ n)
  pub size : length counts ≡ n
  pub counts-in : (k : ℕ) → get_or counts k 0 ≤ 4095
  pub own : 1 ≤ get_or counts (sender - 1) 0
  pub is-frame : bytes ≡ frame n sender counts

-- a frame is read exactly when it is well formed
abbrev pub ReadsWellFormed : Type 0
ReadsWellFormed = (n : ℕ) (bytes : List ℕ) → Octets bytes → ((reading n bytes).refusal ≡ 0) ↔ WellFormed n bytes

-- reading what was written restores the sender and the counts
abbrev pub ReadRestores : Type 0
ReadRestores =
    (n sender : ℕ) (counts buffer : List ℕ)
    → (writing n sender counts buffer).refusal ≡ 0
    → reading n (take (writing n sender counts buffer).written (writing n sender counts buffer).buffer)
    ≡ record { refusal = 0; sender = sender; counts = over counts (replicate 8 0) }

-- writing what was read restores the bytes
abbrev pub WriteRestores : Type 0
WriteRestores =
    (n : ℕ) (bytes buffer : List ℕ)
    → Octets bytes
    → (reading n bytes).refusal ≡ 0
    → length bytes ≤ length buffer
    → writing n (reading n bytes).sender (take n (reading n bytes).counts) buffer
    ≡ record { refusal = 0; written = length bytes; buffer = over bytes buffer }

-- a frame that is written has 3 + 2n bytes
abbrev pub FrameLength : Type 0
FrameLength = (n sender : ℕ) (counts buffer : List ℕ) → (writing n sender counts buffer).refusal ≡ 0 → (writing n sender counts buffer).written ≡ 3 + 2 * n

-- a number of stations, from 2 to 8, whose frames have this length
pub record Sized (size : ℕ) : Type 0 where
  pub n : ℕ
  pub low : 2 ≤ n
  pub high : n ≤ 8
  pub is : size ≡ 3 + 2 * n

abbrev pub Lengths : Type 0
Lengths = (size : ℕ) → (is_length size ≡ true) ↔ Sized size

-- what has the length of no frame gives 17, for whichever n it is read
abbrev pub NoLength : Type 0
NoLength = (n : ℕ) (bytes : List ℕ) → is_length (length bytes) ≡ false → 2 ≤ n → n ≤ 8 → (reading n bytes).refusal ≡ 17

-- document 01's frame, which has no n
unfoldable pub old_frame : ℕ → List ℕ → List ℕ
old_frame sender counts = 0x10 ∷ sender ∷ body counts

-- it gives 17, whatever its sender and its counts are
abbrev pub OldFrames : Type 0
OldFrames = (n sender : ℕ) (counts : List ℕ) → 2 ≤ n → n ≤ 8 → (reading n (old_frame sender counts)).refusal ≡ 17

-- document 01's example with its n: station 2 of two, vector 1,1
abbrev pub Example : Type 0
Example =
    (writing 2 2 (1 ∷ 1 ∷ []) (9 ∷ 9 ∷ 9 ∷ 9 ∷ 9 ∷ 9 ∷ 9 ∷ 9 ∷ [])
    ≡ record { refusal = 0; written = 7; buffer = 0x10 ∷ 2 ∷ 2 ∷ 1 ∷ 0 ∷ 1 ∷ 0 ∷ 9 ∷ [] })
    × (reading 2 (0x10 ∷ 2 ∷ 2 ∷ 1 ∷ 0 ∷ 1 ∷ 0 ∷ []) ≡ record { refusal = 0; sender = 2; counts = 1 ∷ 1 ∷ 0 ∷ 0 ∷ 0 ∷ 0 ∷ 0 ∷ 0 ∷ [] })

-- the refusals of reading in their order: each of these frames is wrong in one way more than the next
abbrev pub Order : Type 0
Order =
    ((reading 1 (0x11 ∷ 3 ∷ 3 ∷ 0 ∷ 16 ∷ [])).refusal ≡ 5)
    × ((reading 2 (0x11 ∷ 3 ∷ 3 ∷ 0 ∷ 16 ∷ [])).refusal ≡ 17)
    × ((reading 2 (0x11 ∷ 3 ∷ 3 ∷ 0 ∷ 16 ∷ 1 ∷ 0 ∷ [])).refusal ≡ 18)
    × ((reading 2 (0x10 ∷ 3 ∷ 3 ∷ 0 ∷ 16 ∷ 1 ∷ 0 ∷ [])).refusal ≡ 24)
    × ((reading 2 (0x10 ∷ 3 ∷ 2 ∷ 0 ∷ 16 ∷ 1 ∷ 0 ∷ [])).refusal ≡ 19)
    × ((reading 2 (0x10 ∷ 2 ∷ 2 ∷ 0 ∷ 16 ∷ 1 ∷ 0 ∷ [])).refusal ≡ 20)
    × ((reading 2 (0x10 ∷ 2 ∷ 2 ∷ 255 ∷ 15 ∷ 1 ∷ 0 ∷ [])).refusal ≡ 0)
