-- What a decision says of the command that is decided on.
use mathlib.Core.Path.{◌≡◌, refl, ap, ◌∙◌}
use mathlib.Core.Logic.{◌≢◌}
use mathlib.Core.List.{List, [], ◌∷◌}
use mathlib.Core.Bool.{Bool, true, false, cond}
use Prim.Native.Nat.{ℕ, ◌+◌}
use native.Mathlib.Omega.{arith}
use lib.Dec.{eqb, ltb}
use lib.ListN.{length, get_or}
use borrow.Author.Tests.{eqb-true}
use Rattle.lists.specs.First.{first_failed}
use Rattle.fit.specs.Fit.{within}
use Rattle.election.specs.Sound.{sound}
use Rattle.election.specs.Commands.{Command, Result, decode, operands, last_command, tests, ruling, refusal, perform, command, number_of}
use Rattle.election.specs.declared.Refusal.{Refusal}
use Rattle.election.specs.declared.Refusal.TheVariants.{UnknownCommand, MissingOperand, NotSetUp, SetUpTwice, StationsRange, PeriodRange, StationRange, StationUp, StationDown, WornOut, SameStation, NoTicks, PastLastTick, Unsound, BufferShort, ScheduleLong, RankRange, AlreadyStarted, ClockHeads}
use Rattle.election.specs.declared.System.{System}
use Rattle.decision.specs.Decided.{Turned, Taken, decided}
use Rattle.decision.proofs.Bytes.{width_of}

-- a refusal has a number
pub numbered : (why : Refusal) → number_of why ≢ 0
numbered UnknownCommand e = absurd (omega (arith, e))
numbered MissingOperand e = absurd (omega (arith, e))
numbered NotSetUp e = absurd (omega (arith, e))
numbered SetUpTwice e = absurd (omega (arith, e))
numbered StationsRange e = absurd (omega (arith, e))
numbered PeriodRange e = absurd (omega (arith, e))
numbered StationRange e = absurd (omega (arith, e))
numbered StationUp e = absurd (omega (arith, e))
numbered StationDown e = absurd (omega (arith, e))
numbered WornOut e = absurd (omega (arith, e))
numbered SameStation e = absurd (omega (arith, e))
numbered NoTicks e = absurd (omega (arith, e))
numbered PastLastTick e = absurd (omega (arith, e))
numbered Unsound e = absurd (omega (arith, e))
numbered BufferShort e = absurd (omega (arith, e))
numbered ScheduleLong e = absurd (omega (arith, e))
numbered RankRange e = absurd (omega (arith, e))
numbered AlreadyStarted e = absurd (omega (arith, e))
numbered ClockHeads e = absurd (omega (arith, e))

-- what was decided, read back
turned_by : (k : ℕ) (c : Command) {number : ℕ} → Turned number ≡ decided k c → k ≡ number
turned_by k c {number} e = go (eqb k 0) e
  where
    go : (none : Bool) → Turned number ≡ cond none (Taken c) (Turned k) → k ≡ number
    go true e = let z : ◌≡◌ {A = ℕ} 0 1 = cc in absurd (omega arith)
    go false e = cc

taken-by : (k : ℕ) (c : Command) {d : Command} → Taken d ≡ decided k c → (k ≡ 0) × (c ≡ d)
taken-by k c {d} e = go (eqb k 0) refl e
  where
    go : (none : Bool) → eqb k 0 ≡ none → Taken d ≡ cond none (Taken c) (Turned k) → (k ≡ 0) × (c ≡ d)
    go true n e = (eqb-true k 0 n, cc)
    go false n e = let z : ◌≡◌ {A = ℕ} 0 1 = cc in absurd (omega arith)

-- where no test failed, none of the later ones did
later : (t : Bool) {rest number : ℕ} → number ≢ 0 → cond t rest number ≡ 0 → rest ≡ 0
later true n e = e
later false n e = absurd (n e)

-- the width that the command byte tells is that of the command
pub taken-width : (bytes : List ℕ) (c : Command) → decode bytes ≡ c → operands c ≡ operands (decode (get_or bytes 0 0 ∷ []))
taken-width bytes c e = rw (← e) (width_of bytes)

-- a sound system's refusal is the ruling
ruled : (s : System) (bytes : List ℕ) → sound s ≡ true → refusal s bytes ≡ ruling s bytes
unfolding refusal
ruled s bytes ok = rw ok

-- of a sound system
module _ (s : System) (bytes : List ℕ) (ok : sound s ≡ true) where
  -- turned down, the command answers the refusal
  pub refused-number : (why : Refusal) → Turned (number_of why) ≡ decided (ruling s bytes) (decode bytes) → (command s bytes).refusal ≡ number_of why
  unfolding command
  refused-number why e = ruled s bytes ok ∙ turned_by (ruling s bytes) (decode bytes) e

  -- taken, it is the command of the bytes, it passes every test, and it is done
  pub taken-command : (c : Command) → Taken c ≡ decided (ruling s bytes) (decode bytes) → (decode bytes ≡ c) × (first_failed (tests s c) ≡ 0) × (command s bytes ≡ record { refusal = 0; length = 1 + operands c; system = perform c s })
  unfolding command
  taken-command c e =
      let (none, is) = taken-by (ruling s bytes) (decode bytes) e in
      let passed : first_failed (tests s (decode bytes)) ≡ 0 =
      later (ltb (operands (decode bytes)) (length bytes)) (λ h. absurd (omega (arith, h)))
      (later (within 1 (get_or bytes 0 0) last_command) (λ h. absurd (omega (arith, h)))
      (later (ltb 0 (length bytes)) (λ h. absurd (omega (arith, h))) none)) in
      (is, rw (← is) passed, rw (ruled s bytes ok ∙ none, is) refl)

  -- so it is accepted
  pub accepted : (c : Command) → Taken c ≡ decided (ruling s bytes) (decode bytes) → (command s bytes).refusal ≡ 0
  accepted c e = ap (λ (r : Result). r.refusal) (taken-command c e).2
