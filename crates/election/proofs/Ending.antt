-- Where a schedule ends: accepted at its length, refused at one of its bytes.
use mathlib.Core.Path.{◌≡◌, refl}
use mathlib.Core.Logic.{◌≢◌}
use mathlib.Core.List.{List, [], ◌∷◌}
use Prim.Native.Nat.{ℕ, zero, suc, ◌+◌, ◌<◌, ◌≤◌}
use native.Mathlib.Decide.{ℕ_discrete}
use native.Mathlib.Omega.{arith}
use lib.Dec.{ltb}
use lib.ListN.{length, drop, length-drop}
use Rattle.lists.proofs.Bools.{cond_elim}
use Rattle.election.specs.Claims.{AcceptedWhole, RefusedInside}
use Rattle.election.specs.Commands.{command}
use Rattle.election.specs.Schedule.{End, most_bytes, follow, schedule}
use Rattle.election.specs.System.{fresh}
use Rattle.election.specs.declared.System.{System}
use Rattle.election.proofs.Follow.{follow-yes, follow-stops}
use Rattle.election.proofs.FromOffset.{command-size}

record Ends (to : ℕ) (end : End) : Type 0 where
  accepted : end.refusal ≡ 0 → end.offset ≡ to
  refused : end.refusal ≢ 0 → end.offset < to

follow-ends : (fuel : ℕ) (s : System) (at : ℕ) (bytes : List ℕ) (to : ℕ) → length bytes ≤ fuel → at + length bytes ≡ to → Ends to (follow fuel s at bytes)
unfolding follow
follow-ends zero s at [] to h l = record { accepted = λ e. omega arith; refused = λ ne. absurd (ne refl) }
follow-ends zero s at (b ∷ bytes) to h l = absurd (omega arith)
follow-ends (suc fuel) s at [] to h l = record { accepted = λ e. omega arith; refused = λ ne. absurd (ne refl) }
follow-ends (suc fuel) s at (b ∷ bytes) to h l = go (ℕ_discrete (command s (b ∷ bytes)).refusal 0) (follow-ends fuel)
  where
    go : Dec ((command s (b ∷ bytes)).refusal ≡ 0)
        → ((x : System) (k : ℕ) (rest : List ℕ) (to : ℕ) → length rest ≤ fuel → k + length rest ≡ to → Ends to (follow fuel x k rest)) → Ends to (follow (suc fuel) s at (b ∷ bytes))
    go (yes t) ends =
        let size : ℕ = (command s (b ∷ bytes)).length in
        let (low, high) = command-size s (b ∷ bytes) t in
        let left = length-drop size (b ∷ bytes) in
        rw (follow-yes fuel s at b bytes t) (ends (command s (b ∷ bytes)).system (at + size) (drop size (b ∷ bytes)) to (omega arith) (omega arith))
    go (no ne) ends = rw (follow-stops fuel s at b bytes ne) (record { accepted = λ e. absurd (ne e); refused = λ e. omega arith })

schedule-ends : (bytes : List ℕ) → (schedule bytes).refusal ≢ 21 → Ends (length bytes) (schedule bytes)
unfolding schedule
schedule-ends bytes =
    cond_elim (λ (e : End). e.refusal ≢ 21 → Ends (length bytes) e) (ltb most_bytes (length bytes)) (λ t ne. absurd (ne refl))
    (λ t ne. follow-ends (length bytes) fresh 0 bytes (length bytes) (omega arith) (omega arith))

pub accepted-whole : AcceptedWhole
accepted-whole bytes e = (schedule-ends bytes (λ i. omega arith)).accepted e

pub refused-inside : RefusedInside
refused-inside bytes e ne = (schedule-ends bytes ne).refused e

-- either way not past its end
pub offset-inside : (bytes : List ℕ) → (schedule bytes).offset ≤ length bytes
unfolding schedule
offset-inside bytes =
    cond_elim (λ (e : End). e.offset ≤ length bytes) (ltb most_bytes (length bytes)) (λ t. omega arith)
    (λ t. within (follow (length bytes) fresh 0 bytes) (follow-ends (length bytes) fresh 0 bytes (length bytes) (omega arith) (omega arith)) (ℕ_discrete (follow (length bytes) fresh 0 bytes).refusal 0))
  where
    within : (e : End) → Ends (length bytes) e → Dec (e.refusal ≡ 0) → e.offset ≤ length bytes
    within e ends (yes z) = omega (arith, ends.accepted z)
    within e ends (no z) = omega (arith, ends.refused z)
