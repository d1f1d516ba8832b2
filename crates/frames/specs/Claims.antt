-- What is claimed of the program frames; the theorems are in proofs/.
use Rattle.std.specs.Prelude.{◌≡◌, ◌↔◌, ◌⊎◌, List, [], ◌∷◌, ◌++◌, true, cond, ℕ, take}
use Rattle.text.specs.Hex.{spelled, hex_of}
use Rattle.text.specs.Quoted.{text}
use Rattle.frame.specs.Claims.{Octets, WellFormed, old_frame}
use Rattle.frame.specs.Reading.{reading}
use Rattle.frame.specs.Stamp.{stamp_reading}
use Rattle.frame.specs.StampClaims.{StampFormed}
use Rattle.frames.specs.Explained.{own_count, received, stamped, is_stamp, frame_text, output}
use Rattle.frames.specs.Line.{begin, after, printed}
use Rattle.frames.specs.Line.{Line}

-- well formed for some number of stations: as a LEADER frame, and as a clock frame
pub record Some (bytes : List ℕ) : Type 0 where
  pub n : ℕ
  pub formed : WellFormed n bytes

pub record SomeStamp (bytes : List ℕ) : Type 0 where
  pub n : ℕ
  pub formed : StampFormed n bytes

-- told as a frame: with the sender first
abbrev pub Told : List ℕ → Type 0
Told bytes = take 7 (frame_text bytes) ≡ text "sender "

-- bytes are told as a frame exactly when they are well formed for some number of stations, as the one or as the other
abbrev pub ToldFrames : Type 0
ToldFrames = (bytes : List ℕ) → Octets bytes → Told bytes ↔ (Some bytes ⊎ SomeStamp bytes)

-- a LEADER frame is told with that number, the sender and the counts
abbrev pub FrameTold : Type 0
FrameTold = (n : ℕ) (bytes : List ℕ) (w : WellFormed n bytes) → frame_text bytes ≡ received n w.sender w.counts

-- a clock frame is told with the sender and the stamp
abbrev pub StampTold : Type 0
StampTold = (n : ℕ) (bytes : List ℕ) (w : StampFormed n bytes) → frame_text bytes ≡ stamped w.sender w.stamp

-- the number is found in the LEADER frame
abbrev pub OwnCount : Type 0
OwnCount = (n : ℕ) (bytes : List ℕ) → WellFormed n bytes → own_count bytes ≡ n

-- 24 is not told, since n is the frame's own
abbrev pub NeverAnother : Type 0
NeverAnother = (bytes : List ℕ) → (reading (own_count bytes) bytes).refusal ≡ 24 → ⊥

-- nor are 5 and 18 of a clock frame, which begins with 11 hex and is read for 8
abbrev pub NeverStamp : Type 0
NeverStamp = (bytes : List ℕ) → is_stamp bytes ≡ true → ((stamp_reading 8 bytes).refusal ≡ 5 → ⊥) × ((stamp_reading 8 bytes).refusal ≡ 18 → ⊥)

-- old frames are told with 17
abbrev pub OldTold : Type 0
OldTold = (sender : ℕ) (counts : List ℕ) → (reading (own_count (old_frame sender counts)) (old_frame sender counts)).refusal ≡ 17

-- bytes as hex text spell them
abbrev pub HexRestores : Type 0
HexRestores = (bytes : List ℕ) → Octets bytes → spelled (hex_of bytes) ≡ record { hex = true; bytes = bytes }

-- a text is read in parts, however it comes: a part goes on where the last one ended
abbrev pub Parts : Type 0
Parts = (s : Line) (a b : List ℕ) → (after s (a ++ b) ≡ after (after s a) b) × (printed s (a ++ b) ≡ printed s a ++ printed (after s a) b)

-- and its lines are told, the last one too where no newline ends it
abbrev pub ended : Line → List ℕ
ended s = cond s.begun (0x0a ∷ []) []

abbrev pub Whole : Type 0
Whole = (input : List ℕ) → printed (begin 1) input ++ printed (after (begin 1) input) (ended (after (begin 1) input)) ≡ output input
