-- What is printed for captures: a line for each line of the text.
use Rattle.std.specs.Prelude.{List, [], ◌∷◌, ◌++◌, Bool, cond, ℕ, ◌+◌, length, get_or, eqb}
use Rattle.text.specs.Numbers.{newline, named, pair, vector}
use Rattle.text.specs.Quoted.{text}
use Rattle.frame.specs.Frame.{is_length}
use Rattle.frame.specs.Reading.{Reading, written_count, reading}
use Rattle.frame.specs.Stamp.{StampReading, stamp_mark, stamp_reading}
use Rattle.text.specs.Hex.{Spelled, spelled}

-- n as the frame has it. What has the length of no frame is read as for two stations; its length is wrong for any n.
unfoldable pub own_count : List ℕ → ℕ
own_count bytes = cond (is_length (length bytes)) (written_count bytes) 2

-- why a frame is refused
unfoldable pub reason : ℕ → List ℕ
reason r =
    cond (eqb r 5) (text "n is not 2 to 8")
    (cond (eqb r 17) (text "the length is not 3 + 2n")
    (cond (eqb r 18) (text "the first byte is neither 10 nor 11 hex")
    (cond (eqb r 24) (text "another n is written")
    (cond (eqb r 19) (text "the sender is not 1 to n")
    (text "a count is above 4095, or the sender's own is 0")))))

-- sender, n and counts by name
unfoldable pub counted : ℕ → List ℕ → List ℕ
counted n counts = text " counts " ++ vector n counts

unfoldable pub received : ℕ → ℕ → List ℕ → List ℕ
received n sender counts = named (text "sender ") sender ++ named (text " n ") n ++ counted n counts

-- the refusal and why
abbrev pub refused : ℕ → List ℕ → List ℕ
refused r why = named (text "refused ") r ++ text ", " ++ why

-- what was read of a frame for n stations, or the refusal and why
unfoldable pub answered : ℕ → Reading → List ℕ
answered n r = cond (eqb r.refusal 0) (received n r.sender r.counts) (refused r.refusal (reason r.refusal))

-- why a clock frame is refused
unfoldable pub stamp_reason : ℕ → List ℕ
stamp_reason r = cond (eqb r 17) (text "the length is not 6") (text "the sender is not 1 to 8")

-- sender and stamp by name
unfoldable pub stamped : ℕ → ℕ → List ℕ
stamped sender stamp = pair (text "sender ") sender (text " stamp ") stamp

-- what was read of a clock frame, or the refusal and why
unfoldable pub stamp_answered : StampReading → List ℕ
stamp_answered r = cond (eqb r.refusal 0) (stamped r.sender r.stamp) (refused r.refusal (stamp_reason r.refusal))

-- the bytes begin as a clock frame does
abbrev pub is_stamp : List ℕ → Bool
is_stamp bytes = eqb (get_or bytes 0 0) stamp_mark

-- a clock frame, which has no n in it, is read for 8 stations; all else as a LEADER frame, for the n that it has
unfoldable pub frame_text : List ℕ → List ℕ
frame_text bytes =
    cond (is_stamp bytes) (stamp_answered (stamp_reading 8 bytes))
    (answered (own_count bytes) (reading (own_count bytes) bytes))

unfoldable pub found : Spelled → List ℕ
found s = text ": " ++ cond s.hex (frame_text s.bytes) (text "no hex")

-- the line for line k
unfoldable pub line_text : ℕ → Spelled → List ℕ
line_text k s = named (text "line ") k ++ found s ++ newline

-- the lines of a text, the first of which has begun: each ends with a newline, and the last may do without one
unfoldable pub lines_from : List ℕ → List ℕ → List (List ℕ)
lines_from [] [] = []
lines_from (b ∷ begun) [] = (b ∷ begun) ∷ []
lines_from begun (c ∷ cs) = cond (eqb c 10) (begun ∷ lines_from [] cs) (lines_from (begun ++ (c ∷ [])) cs)

-- the lines from number k on, each explained
unfoldable pub explained : ℕ → List (List ℕ) → List ℕ
explained k [] = []
explained k (line ∷ lines) = line_text k (spelled line) ++ explained (k + 1) lines

-- all that is printed for a text
unfoldable pub output : List ℕ → List ℕ
output input = explained 1 (lines_from [] input)
