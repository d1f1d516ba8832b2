-- What is claimed of clock frames; the theorems are in proofs/.
use Rattle.std.specs.Prelude.{◌≡◌, ◌↔◌, List, [], ◌∷◌, ℕ, ◌^◌, ◌≤◌, ◌<◌, length, take}
use Rattle.lists.specs.Entries.{over}
use Rattle.frame.specs.Claims.{Octets}
use Rattle.frame.specs.Reading.{reading}
use Rattle.frame.specs.Stamp.{stamp_frame, stamp_writing, stamp_reading}

-- well formed: the clock frame of a sender from 1 to n and of a stamp of four bytes
pub record StampFormed (n : ℕ) (bytes : List ℕ) : Type 0 where
  pub sender : ℕ
  pub stamp : ℕ
  pub stations : (2 ≤ n) × (n ≤ 8)
  pub sender-in : (1 ≤ sender) × (sender ≤ n)
  pub stamp-in : stamp < 2 ^ 32
  pub is-frame : bytes ≡ stamp_frame sender stamp

-- a clock frame is read exactly when it is well formed
abbrev pub ReadsStampFormed : Type 0
ReadsStampFormed = (n : ℕ) (bytes : List ℕ) → Octets bytes → ((stamp_reading n bytes).refusal ≡ 0) ↔ StampFormed n bytes

-- reading what was written restores the sender and the stamp
abbrev pub StampReadRestores : Type 0
StampReadRestores =
    (n sender stamp : ℕ) (buffer : List ℕ)
    → (stamp_writing n sender stamp buffer).refusal ≡ 0
    → stamp_reading n (take (stamp_writing n sender stamp buffer).written (stamp_writing n sender stamp buffer).buffer)
    ≡ record { refusal = 0; sender = sender; stamp = stamp }

-- writing what was read restores the bytes
abbrev pub StampWriteRestores : Type 0
StampWriteRestores =
    (n : ℕ) (bytes buffer : List ℕ)
    → Octets bytes
    → (stamp_reading n bytes).refusal ≡ 0
    → length bytes ≤ length buffer
    → stamp_writing n (stamp_reading n bytes).sender (stamp_reading n bytes).stamp buffer
    ≡ record { refusal = 0; written = length bytes; buffer = over bytes buffer }

-- a clock frame that is written has six bytes
abbrev pub StampLength : Type 0
StampLength = (n sender stamp : ℕ) (buffer : List ℕ) → (stamp_writing n sender stamp buffer).refusal ≡ 0 → (stamp_writing n sender stamp buffer).written ≡ 6

-- no bytes are read both as a LEADER frame and as a clock frame
abbrev pub NotBoth : Type 0
NotBoth = (n m : ℕ) (bytes : List ℕ) → (reading n bytes).refusal ≡ 0 → (stamp_reading m bytes).refusal ≡ 0 → ⊥

-- station 2 with the stamp 12345678 hex
abbrev pub StampExample : Type 0
StampExample =
    (stamp_writing 2 2 0x12345678 (9 ∷ 9 ∷ 9 ∷ 9 ∷ 9 ∷ 9 ∷ 9 ∷ [])
    ≡ record { refusal = 0; written = 6; buffer = 0x11 ∷ 2 ∷ 0x78 ∷ 0x56 ∷ 0x34 ∷ 0x12 ∷ 9 ∷ [] })
    × (stamp_reading 2 (0x11 ∷ 2 ∷ 0x78 ∷ 0x56 ∷ 0x34 ∷ 0x12 ∷ []) ≡ record { refusal = 0; sender = 2; stamp = 0x12345678 })

-- the refusals of reading in their order: each of these frames is wrong in one way more than the next
abbrev pub StampReadOrder : Type 0
StampReadOrder =
    ((stamp_reading 1 (0x10 ∷ 3 ∷ 0 ∷ 0 ∷ 0 ∷ [])).refusal ≡ 5)
    × ((stamp_reading 2 (0x10 ∷ 3 ∷ 0 ∷ 0 ∷ 0 ∷ [])).refusal ≡ 17)
    × ((stamp_reading 2 (0x10 ∷ 3 ∷ 0 ∷ 0 ∷ 0 ∷ 0 ∷ [])).refusal ≡ 18)
    × ((stamp_reading 2 (0x11 ∷ 3 ∷ 0 ∷ 0 ∷ 0 ∷ 0 ∷ [])).refusal ≡ 19)
    × ((stamp_reading 2 (0x11 ∷ 2 ∷ 0 ∷ 0 ∷ 0 ∷ 0 ∷ [])).refusal ≡ 0)

-- and those of writing
abbrev pub StampWriteOrder : Type 0
StampWriteOrder =
    ((stamp_writing 1 3 0 (9 ∷ 9 ∷ 9 ∷ 9 ∷ 9 ∷ [])).refusal ≡ 5)
    × ((stamp_writing 2 3 0 (9 ∷ 9 ∷ 9 ∷ 9 ∷ 9 ∷ [])).refusal ≡ 19)
    × (stamp_writing 2 2 0 (9 ∷ 9 ∷ 9 ∷ 9 ∷ 9 ∷ []) ≡ record { refusal = 16; written = 0; buffer = 9 ∷ 9 ∷ 9 ∷ 9 ∷ 9 ∷ [] })
    × ((stamp_writing 2 2 0 (9 ∷ 9 ∷ 9 ∷ 9 ∷ 9 ∷ 9 ∷ [])).refusal ≡ 0)
