-- What is claimed of every try-out, sentence by sentence; the theorems are in proofs/.
use Rattle.std.specs.Prelude.{◌≡◌, ◌≢◌, ◌⊎◌, List, [], true, false, cond, ℕ, ◌<◌, ◌≤◌, length, take}
use Rattle.lists.specs.Entries.{over}
use Rattle.election.specs.Commands.{decode, perform, command}
use Rattle.election.specs.Listing.{listing, longest_listing, listed}
use Rattle.election.specs.Sound.{sound}
use Rattle.election.specs.declared.System.{System}
use Rattle.dryrun.specs.DryRun.{Tried, tried}

-- the listing of a system stands at the front of the buffer, whose other bytes are as they were, and its length is answered
abbrev pub Shows : System → List ℕ → Tried → Type 0
Shows s buffer t = (t.written ≡ length (listing s)) × (t.buffer ≡ over (listing s) buffer)

-- nothing is written, and the length is 0
abbrev pub ShowsNothing : List ℕ → Tried → Type 0
ShowsNothing buffer t = (t.written ≡ 0) × (t.buffer ≡ buffer)

-- the original system comes back the same
abbrev pub SameSystem : Type 0
SameSystem = (s : System) (bytes buffer : List ℕ) → (tried s bytes buffer).system ≡ s

-- an accepted command, with a buffer that is long enough: 0, and the listing after the command
abbrev pub AcceptedShows : Type 0
AcceptedShows =
    (s : System) (bytes buffer : List ℕ) → (command s bytes).refusal ≡ 0 → length (listing (perform (decode bytes) s)) ≤ length buffer
    → ((tried s bytes buffer).refusal ≡ 0) × Shows (perform (decode bytes) s) buffer (tried s bytes buffer)

-- a refused command answers its refusal, whatever a listing would answer
abbrev pub CommandFirst : Type 0
CommandFirst = (s : System) (bytes buffer : List ℕ) → (command s bytes).refusal ≢ 0 → (tried s bytes buffer).refusal ≡ (command s bytes).refusal

-- and shows the listing as it was, where the system has one and the buffer is long enough
abbrev pub RefusedShows : Type 0
RefusedShows =
    (s : System) (bytes buffer : List ℕ) → (command s bytes).refusal ≢ 0 → sound s ≡ true → s.ready ≡ true → length (listing s) ≤ length buffer
    → Shows s buffer (tried s bytes buffer)

-- an accepted one answers the listing's refusal: 16 if the buffer is short, and else it shows (AcceptedShows)
abbrev pub ElseSixteen : Type 0
ElseSixteen =
    (s : System) (bytes buffer : List ℕ) → (command s bytes).refusal ≡ 0
    → ((tried s bytes buffer).refusal ≡ (listed (command s bytes).system buffer).refusal)
    × (length buffer < length (listing (perform (decode bytes) s)) → (tried s bytes buffer).refusal ≡ 16)

-- a short buffer, or a table that is unsound or, after the command, still not set up: nothing is written
abbrev pub NothingWritten : Type 0
NothingWritten =
    (s : System) (bytes buffer : List ℕ)
    → (length buffer < length (listing (command s bytes).system)) ⊎ (sound s ≡ false) ⊎ ((command s bytes).system.ready ≡ false)
    → ShowsNothing buffer (tried s bytes buffer)

-- with room for every listing the answer is the command's own, and what is written is the listing after it, if there is one
abbrev pub WithRoom : Type 0
WithRoom =
    (s : System) (bytes buffer : List ℕ) → sound s ≡ true → longest_listing ≤ length buffer
    → ((tried s bytes buffer).refusal ≡ (command s bytes).refusal)
    × (take (tried s bytes buffer).written (tried s bytes buffer).buffer
    ≡ cond (command s bytes).system.ready (listing (command s bytes).system) [])
