-- The table of the code, entry by entry, is that of the words.
use Rattle.std.specs.Prelude.{◌≡◌, [], ◌∷◌, ℕ, ◌<◌, ◌≤◌}
use Rattle.station.specs.Limits.{last_tick}
use Rattle.election.specs.Commands.{decode, last_command}
use Rattle.script.specs.Entries.{entry, runs, most_runs}
use Rattle.script.specs.declared.rules.entries.Entry.{Entry}

-- the byte of a run
abbrev pub run_byte : ℕ
run_byte = 5

-- what its byte makes of three numbers, 0 for those that it doesn't have: of a run many commands, else the one that the desk decodes
pub record Makes (k : ℕ) (r : Entry) : Type 0 where
  pub of_run : r.code ≡ run_byte → (x y z : ℕ) → runs most_runs x ≡ (entry k).makes x y z
  pub of_byte : (r.code ≡ run_byte → ⊥) → (x y z : ℕ) → (r.numbers < 3 → z ≡ 0) → decode (r.code ∷ x ∷ y ∷ z ∷ []) ∷ [] ≡ (entry k).makes x y z
  pub of_bytes : (r.code ≡ run_byte → ⊥) → r.most ≡ 255
  pub known : (1 ≤ r.code) × (r.code ≤ last_command)

-- the entry at k
pub record Tabled (k : ℕ) (r : Entry) : Type 0 where
  pub name : r.name.now ≡ (entry k).name
  pub numbers : r.numbers ≡ (entry k).numbers
  pub few : r.numbers ≤ 3
  pub least : r.least ≡ (entry k).least
  pub most : r.most ≡ (entry k).most
  pub ceiling : r.most ≤ last_tick
  pub code : Makes k r
