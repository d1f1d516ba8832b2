-- What is computed command by command, from an offset of a schedule: its fuel is enough, and it goes on at the next command.
use mathlib.Core.Path.{◌≡◌, sym, ap, ◌∙◌}
use mathlib.Core.Logic.{◌≢◌}
use mathlib.Core.List.{List, [], ◌∷◌}
use Prim.Native.Nat.{ℕ, zero, suc, ◌+◌, ◌<◌, ◌≤◌}
use native.Mathlib.Decide.{ℕ_discrete}
use native.Mathlib.Omega.{arith}
use lib.Dec.{ltb}
use lib.ListN.{length, get_or, drop, length-drop, drop_of_length-le}
use lib.Seq.{drop-drop}
use borrow.Author.Tests.{ltb-true, eq-eqb}
use Rattle.lists.proofs.First.{passed}
use Rattle.fit.specs.Fit.{within}
use Rattle.election.specs.Commands.{decode, operands, last_command, ruling, refusal, command}
use Rattle.election.specs.Sound.{sound}
use Rattle.election.specs.declared.System.{System}

-- an accepted command has at least one byte, and all its bytes are there
pub command-size : (s : System) (bytes : List ℕ) → (command s bytes).refusal ≡ 0 → (0 < (command s bytes).length) × ((command s bytes).length ≤ length bytes)
unfolding command refusal
command-size s bytes t =
    let (e, t₀) = passed (sound s) (ruling s bytes) 14 t in
    let (l, t₁) = passed (ltb 0 (length bytes)) _ 1 t₀ in
    let (b, t₂) = passed (within 1 (get_or bytes 0 0) last_command) _ 0 t₁ in
    let (o, t₃) = passed (ltb (operands (decode bytes)) (length bytes)) _ 1 t₂ in
    rw (eq-eqb (refusal s bytes) 0 t) (omega arith, omega (arith, ltb-true (operands (decode bytes)) (length bytes) o))

-- from an offset it ends inside the schedule
pub command-inside : (s : System) (at : ℕ) (bytes : List ℕ) → (command s (drop at bytes)).refusal ≡ 0
    → (at < at + (command s (drop at bytes)).length) × (at + (command s (drop at bytes)).length ≤ length bytes)
command-inside s at bytes t = let (low, high) = command-size s (drop at bytes) t in (omega arith, omega (arith, length-drop at bytes))

-- fewer bytes are left after it
shorter : (s : System) (bytes : List ℕ) → (command s bytes).refusal ≡ 0 → length (drop (command s bytes).length bytes) < length bytes
shorter s bytes t = let (low, high) = command-size s bytes t in omega (arith, length-drop (command s bytes).length bytes)

-- a function that ends with the bytes or the fuel, stops at a refused command, and goes on after an accepted one
pub record Walks {A : Type 0} (ends : System → ℕ → A) (stops : System → ℕ → List ℕ → A) (goes : System → ℕ → List ℕ → A → A)
    (f : ℕ → System → ℕ → List ℕ → A) : Type 0 where
  pub spent : (s : System) (at : ℕ) (bytes : List ℕ) → f zero s at bytes ≡ ends s at
  pub ended : (fuel : ℕ) (s : System) (at : ℕ) → f (suc fuel) s at [] ≡ ends s at
  pub refused : (fuel : ℕ) (s : System) (at b : ℕ) (bytes : List ℕ) → (command s (b ∷ bytes)).refusal ≢ 0 → f (suc fuel) s at (b ∷ bytes) ≡ stops s at (b ∷ bytes)
  pub accepted : (fuel : ℕ) (s : System) (at b : ℕ) (bytes : List ℕ) → (command s (b ∷ bytes)).refusal ≡ 0
      → f (suc fuel) s at (b ∷ bytes) ≡ goes s at (b ∷ bytes) (f fuel (command s (b ∷ bytes)).system (at + (command s (b ∷ bytes)).length) (drop (command s (b ∷ bytes)).length (b ∷ bytes)))

module _ {A : Type 0} (ends : System → ℕ → A) (stops : System → ℕ → List ℕ → A) (goes : System → ℕ → List ℕ → A → A) (f : ℕ → System → ℕ → List ℕ → A) (w : Walks ends stops goes f) where
  walks_end : (fuel : ℕ) (s : System) (at : ℕ) → f fuel s at [] ≡ ends s at
  walks_end zero s at = w.spent s at []
  walks_end (suc fuel) s at = w.ended fuel s at

  -- fuel beyond the number of bytes changes nothing
  enough : (k j : ℕ) (s : System) (at : ℕ) (bytes : List ℕ) → length bytes ≤ k → length bytes ≤ j → f k s at bytes ≡ f j s at bytes
  enough zero j s at [] h i = walks_end zero s at ∙ sym (walks_end j s at)
  enough zero j s at (b ∷ bytes) h i = absurd (omega arith)
  enough (suc k) j s at [] h i = walks_end (suc k) s at ∙ sym (walks_end j s at)
  enough (suc k) zero s at (b ∷ bytes) h i = absurd (omega arith)
  enough (suc k) (suc j) s at (b ∷ bytes) h i = go (ℕ_discrete (command s (b ∷ bytes)).refusal 0) (enough k)
    where
      go : Dec ((command s (b ∷ bytes)).refusal ≡ 0) → ((j : ℕ) (s : System) (at : ℕ) (bytes : List ℕ) → length bytes ≤ k → length bytes ≤ j → f k s at bytes ≡ f j s at bytes) → f (suc k) s at (b ∷ bytes) ≡ f (suc j) s at (b ∷ bytes)
      go (no ne) rest = w.refused k s at b bytes ne ∙ sym (w.refused j s at b bytes ne)
      go (yes t) rest =
          let l = shorter s (b ∷ bytes) t in
          w.accepted k s at b bytes t ∙ ap (goes s at (b ∷ bytes)) (rest j _ _ _ (omega arith) (omega arith)) ∙ sym (w.accepted j s at b bytes t)

  refused-first : (k : ℕ) (s : System) (at : ℕ) (bytes : List ℕ) → 0 < k → 0 < length bytes → (command s bytes).refusal ≢ 0 → f k s at bytes ≡ stops s at bytes
  refused-first zero s at bytes h i = absurd (omega arith)
  refused-first (suc k) s at [] h i = absurd (omega arith)
  refused-first (suc k) s at (b ∷ bytes) h i = w.refused k s at b bytes

  accepted-first : (k : ℕ) (s : System) (at : ℕ) (bytes : List ℕ) → length bytes ≤ k → (command s bytes).refusal ≡ 0
      → f k s at bytes ≡ goes s at bytes (f k (command s bytes).system (at + (command s bytes).length) (drop (command s bytes).length bytes))
  accepted-first k s at [] h t = absurd (omega (arith, shorter s [] t))
  accepted-first zero s at (b ∷ bytes) h t = absurd (omega arith)
  accepted-first (suc k) s at (b ∷ bytes) h t =
      let l = shorter s (b ∷ bytes) t in
      w.accepted k s at b bytes t ∙ ap (goes s at (b ∷ bytes)) (enough k (suc k) _ _ _ (omega arith) (omega arith))

  -- at the end, at a refused command, and at an accepted one
  pub from_end : (s : System) (at : ℕ) (bytes : List ℕ) → length bytes ≤ at → f (length bytes) s at (drop at bytes) ≡ ends s at
  from_end s at bytes h = rw (drop_of_length-le bytes {i = at} h) (walks_end (length bytes) s at)

  pub from-refused : (s : System) (at : ℕ) (bytes : List ℕ) → at < length bytes → (command s (drop at bytes)).refusal ≢ 0 → f (length bytes) s at (drop at bytes) ≡ stops s at (drop at bytes)
  from-refused s at bytes h = refused-first (length bytes) s at (drop at bytes) (omega arith) (omega (arith, length-drop at bytes))

  pub from-accepted : (s : System) (at : ℕ) (bytes : List ℕ) → (command s (drop at bytes)).refusal ≡ 0
      → f (length bytes) s at (drop at bytes) ≡ goes s at (drop at bytes) (f (length bytes) (command s (drop at bytes)).system (at + (command s (drop at bytes)).length) (drop (at + (command s (drop at bytes)).length) bytes))
  from-accepted s at bytes t =
      rw (← (drop-drop (command s (drop at bytes)).length at bytes)) (accepted-first (length bytes) s at (drop at bytes) (omega (arith, length-drop at bytes)) t)
