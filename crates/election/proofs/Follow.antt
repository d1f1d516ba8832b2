-- One command of a schedule, accepted and refused; and what holds of every refusal.
use mathlib.Core.Path.{◌≡◌, ap}
use mathlib.Core.Logic.{◌≢◌}
use mathlib.Core.List.{List, [], ◌∷◌, ◌++◌}
use mathlib.Core.Bool.{false}
use Prim.Native.Nat.{ℕ, zero, suc, ◌+◌}
use native.Mathlib.Decide.{ℕ_discrete}
use lib.Dec.{ltb}
use lib.ListN.{length, get_or, drop}
use borrow.Author.Tests.{eq-eqb, ne_eqb}
use Rattle.lists.specs.Every.{All}
use Rattle.lists.proofs.First.{first-is}
use Rattle.fit.specs.Fit.{within}
use Rattle.election.specs.Commands.{decode, operands, last_command, tests, ruling, command}
use Rattle.election.specs.Listing.{reported, reports}
use Rattle.election.specs.Schedule.{End, follow}
use Rattle.election.specs.declared.System.{System}

module _ (fuel : ℕ) (s : System) (at b : ℕ) (bytes : List ℕ) where
  pub follow-yes : (command s (b ∷ bytes)).refusal ≡ 0 → follow (suc fuel) s at (b ∷ bytes) ≡ follow fuel (command s (b ∷ bytes)).system (at + (command s (b ∷ bytes)).length) (drop (command s (b ∷ bytes)).length (b ∷ bytes))
  unfolding follow
  follow-yes t = rw (eq-eqb (command s (b ∷ bytes)).refusal 0 t, follow)

  pub follow-stops : (command s (b ∷ bytes)).refusal ≢ 0 → follow (suc fuel) s at (b ∷ bytes) ≡ record { refusal = (command s (b ∷ bytes)).refusal; offset = at; system = s }
  unfolding follow
  follow-stops ne = rw (ne_eqb (command s (b ∷ bytes)).refusal 0 ne, follow)

  pub follow-no : (command s (b ∷ bytes)).refusal ≢ 0 → (follow (suc fuel) s at (b ∷ bytes)).refusal ≡ (command s (b ∷ bytes)).refusal
  follow-no ne = ap (λ (e : End). e.refusal) (follow-stops ne)

-- what holds of 0, of 1 and 2, and of the numbers of a command's tests where they fail, holds of what the rules give
pub ruling-is : (P : ℕ → Type 0) → P 0 → P 1 → P 2 → (s : System) (bytes : List ℕ) → All (λ t. t.0 ≡ false → P t.1) (tests s (decode bytes)) → P (ruling s bytes)
ruling-is P none one two s bytes h =
    first-is P none ((ltb 0 (length bytes), 2) ∷ (within 1 (get_or bytes 0 0) last_command, 1) ∷ (ltb (operands (decode bytes)) (length bytes), 2) ∷ tests s (decode bytes)) ((λ e. two), ((λ e. one), ((λ e. two), h)))

-- what holds of 0, and of the refusal of every command whose system and bytes meet a condition that accepted commands keep, holds of a
-- schedule's refusal
module _ (P : ℕ → Type 0) (Meets : System → List ℕ → Type 0) (none : P 0)
    (each : (s : System) (bytes : List ℕ) → Meets s bytes → P (command s bytes).refusal)
    (keeps : (s : System) (bytes : List ℕ) → Meets s bytes → (command s bytes).refusal ≡ 0 → Meets (command s bytes).system (drop (command s bytes).length bytes)) where
  pub follow-refusal : (fuel : ℕ) (s : System) (at : ℕ) (bytes : List ℕ) → Meets s bytes → P (follow fuel s at bytes).refusal
  unfolding follow
  follow-refusal zero s at bytes m = none
  follow-refusal (suc fuel) s at [] m = none
  follow-refusal (suc fuel) s at (b ∷ bytes) m = go (ℕ_discrete (command s (b ∷ bytes)).refusal 0) (follow-refusal fuel)
    where
      go : Dec ((command s (b ∷ bytes)).refusal ≡ 0) → ((x : System) (to : ℕ) (rest : List ℕ) → Meets x rest → P (follow fuel x to rest).refusal) → P (follow (suc fuel) s at (b ∷ bytes)).refusal
      go (yes t) rest = rw (follow-yes fuel s at b bytes t) (rest _ _ _ (keeps s (b ∷ bytes) m t))
      go (no ne) rest = rw (follow-no fuel s at b bytes ne) (each s (b ∷ bytes) m)

-- what it lists
module _ (fuel : ℕ) (s : System) (b : ℕ) (bytes : List ℕ) where
  pub reports-yes : (command s (b ∷ bytes)).refusal ≡ 0
      → reports (suc fuel) s (b ∷ bytes) ≡ reported s (b ∷ bytes) ++ reports fuel (command s (b ∷ bytes)).system (drop (command s (b ∷ bytes)).length (b ∷ bytes))
  unfolding reports
  reports-yes t = rw (eq-eqb (command s (b ∷ bytes)).refusal 0 t, reports)

  pub reports-stops : (command s (b ∷ bytes)).refusal ≢ 0 → reports (suc fuel) s (b ∷ bytes) ≡ []
  unfolding reports
  reports-stops ne = rw (ne_eqb (command s (b ∷ bytes)).refusal 0 ne, reports)
