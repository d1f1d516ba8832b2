-- The LEADER frame (document 01, with Paper 5 of document 02): 10 hex, the sender, n, then n counts of two bytes, low byte first.
use Rattle.std.specs.Prelude.{List, [], ◌∷◌, Bool, ◌&&◌, ℕ, ◌+◌, ◌*◌, ◌-◌, ◌/◌, ◌%◌, length, get_or, leb, eqb}
use Rattle.lists.specs.Test.{all_to, some_to}

-- the counts, each as its low byte and its high byte
unfoldable pub body : List ℕ → List ℕ
body [] = []
body (c ∷ cs) = c % 256 ∷ c / 256 ∷ body cs

unfoldable pub frame : ℕ → ℕ → List ℕ → List ℕ
frame n sender counts = 0x10 ∷ sender ∷ n ∷ body counts

-- how many bytes stand before the counts
abbrev pub header : ℕ
header = 3

-- the length of a frame for n stations
abbrev pub frame_size : ℕ → ℕ
frame_size n = header + 2 * n

-- it is the length of a frame, for 2, 3, .. or 8 stations
unfoldable pub is_length : ℕ → Bool
is_length size = some_to 7 (λ k. eqb size (frame_size (k + 2)))

-- there are 2 to 8 stations
unfoldable pub stations_in : ℕ → Bool
stations_in n = leb 2 n && leb n 8

-- a sender is one of the stations 1 to n
unfoldable pub sender_in : ℕ → ℕ → Bool
sender_in n sender = leb 1 sender && leb sender n

-- no count is above 4095, and the sender's own is not zero
unfoldable pub counts_in : ℕ → List ℕ → Bool
counts_in sender counts = all_to (length counts) (λ k. leb (get_or counts k 0) 4095) && leb 1 (get_or counts (sender - 1) 0)
