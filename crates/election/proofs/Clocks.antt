-- The kind of head stays; a clock head has no count and no rank, is never worn out, and gets no rank.
use mathlib.Core.Path.{◌≡◌, refl, sym, ◌∙◌}
use mathlib.Core.Logic.{◌≢◌}
use mathlib.Core.List.{List, [], ◌∷◌}
use mathlib.Core.Bool.{true, not, true≢false}
use Prim.Native.Nat.{ℕ, zero, suc, ◌-◌, ◌≤◌}
use native.Mathlib.Decide.{ℕ_discrete}
use native.Mathlib.Omega.{arith}
use lib.Dec.{ltb, eqb}
use lib.ListN.{length, get_or}
use borrow.Author.Tests.{lt-ltb, le-ltb, eqb-true}
use Rattle.lists.specs.First.{first_failed}
use Rattle.lists.proofs.Bools.{cond_elim}
use Rattle.lists.proofs.First.{first-is}
use Rattle.fit.specs.Fit.{within}
use Rattle.fit.proofs.Tests.{within_of, ranks-of}
use Rattle.station.specs.Order.{entry}
use Rattle.station.specs.Limits.{most_starts}
use Rattle.clock.proofs.Tests.{fit-ranges}
use Rattle.election.specs.Claims.{KindStays, ClockZeros, ClockNeverWorn, ClockNoRank}
use Rattle.election.specs.Commands.{Command, SetUp, Start, Crash, Link, Run, Lose, Report, Rank, decode, operands, last_command, tests, ruling, refusal, command}
use Rattle.election.specs.Schedule.{End, follow, most_bytes, schedule}
use Rattle.election.specs.Sound.{sound}
use Rattle.election.specs.System.{station, fresh}
use Rattle.election.specs.declared.System.{System}
use Rattle.election.proofs.Accepting.{accepts}
use Rattle.election.proofs.Counts.{clock_after}
use Rattle.election.proofs.Follow.{follow-yes, follow-stops}
use Rattle.election.proofs.KeepsSound.{refusal-tests}
use Rattle.election.proofs.Soundness.{Sound, sound-of}

pub clock_zeros : ClockZeros
clock_zeros s e ready kind p low high =
    let f : Sound s = sound-of s e ready in
    let (r, k) = fit-ranges p s.n s.period s.tick (station s p) (rw kind at (f.fits p (record { low = low; high = high }))) in
    let zero : entry s.ranks p ≤ 0 = rw (le-ltb (p - 1) 0 (omega arith)) at (ranks-of 0 s.ranks (rw kind at f.ranked) (p - 1) (omega (arith, f.n-high))) in
    (k.none, k.own, omega (arith, zero))

module _ (s : System) (e : sound s ≡ true) (kind : s.clock ≡ true) where
  start-other : (p : ℕ) → first_failed (tests s (Start p)) ≢ 10
  start-other p =
      cond_elim (λ (k : ℕ). k ≢ 10) s.ready
      (λ r. cond_elim (λ (k : ℕ). k ≢ 10) (within 1 p s.n)
      (λ w.
      let (low, high) = within_of 1 p s.n w in
      rw (lt-ltb (station s p).incarnation most_starts (omega (arith, (clock_zeros s e r kind p low high).0)))
      (cond_elim (λ (k : ℕ). k ≢ 10) (not (station s p).up) (λ d. omega arith) (λ d. omega arith)))
      (λ w. omega arith))
      (λ r. omega arith)

  tests-other : (c : Command) → first_failed (tests s c) ≢ 10
  tests-other (SetUp clock n period) = first-is (λ k. k ≢ 10) (omega arith) (tests s (SetUp clock n period)) (omega arith)
  tests-other (Start p) = start-other p
  tests-other (Crash p) = first-is (λ k. k ≢ 10) (omega arith) (tests s (Crash p)) (omega arith)
  tests-other (Link p q d) = first-is (λ k. k ≢ 10) (omega arith) (tests s (Link p q d)) (omega arith)
  tests-other (Run t) = first-is (λ k. k ≢ 10) (omega arith) (tests s (Run t)) (omega arith)
  tests-other (Lose p q) = first-is (λ k. k ≢ 10) (omega arith) (tests s (Lose p q)) (omega arith)
  tests-other Report = first-is (λ k. k ≢ 10) (omega arith) (tests s Report) (omega arith)
  tests-other (Rank p r) = first-is (λ k. k ≢ 10) (omega arith) (tests s (Rank p r)) (omega arith)

  ruling-other : (bytes : List ℕ) → ruling s bytes ≢ 10
  ruling-other bytes =
      cond_elim (λ (k : ℕ). k ≢ 10) (ltb 0 (length bytes))
      (λ a. cond_elim (λ (k : ℕ). k ≢ 10) (within 1 (get_or bytes 0 0) last_command)
      (λ b. cond_elim (λ (k : ℕ). k ≢ 10) (ltb (operands (decode bytes)) (length bytes)) (λ c. tests-other (decode bytes)) (λ c. omega arith))
      (λ b. omega arith))
      (λ a. omega arith)

pub kind_stays : KindStays
unfolding command
kind_stays s bytes ready =
    cond_elim (λ (x : System). x.clock ≡ s.clock) (eqb (refusal s bytes) 0)
    (λ t. clock_after (decode bytes) s ready (accepts (decode bytes) s (refusal-tests s bytes (eqb-true (refusal s bytes) 0 t))))
    (λ t. refl)

command-other : (s : System) (bytes : List ℕ) → s.clock ≡ true → (command s bytes).refusal ≢ 10
unfolding command refusal
command-other s bytes kind = cond_elim (λ (k : ℕ). k ≢ 10) (sound s) (λ e. ruling-other s e kind bytes) (λ e. omega arith)

-- a schedule that is refused stops at the system whose command was refused
follow-other : (fuel : ℕ) (s : System) (at : ℕ) (bytes : List ℕ) → (follow fuel s at bytes).system.clock ≡ true → (follow fuel s at bytes).refusal ≢ 10
unfolding follow
follow-other zero s at bytes kind = omega arith
follow-other (suc fuel) s at [] kind = omega arith
follow-other (suc fuel) s at (b ∷ bytes) kind = go (ℕ_discrete (command s (b ∷ bytes)).refusal 0) kind (follow-other fuel)
  where
    go : Dec ((command s (b ∷ bytes)).refusal ≡ 0) → (follow (suc fuel) s at (b ∷ bytes)).system.clock ≡ true
        → ((x : System) (to : ℕ) (rest : List ℕ) → (follow fuel x to rest).system.clock ≡ true → (follow fuel x to rest).refusal ≢ 10) → (follow (suc fuel) s at (b ∷ bytes)).refusal ≢ 10
    go (yes t) kind rest = rw (follow-yes fuel s at b bytes t) (rest _ _ _ (rw (follow-yes fuel s at b bytes t) at kind))
    go (no ne) kind rest = rw (follow-stops fuel s at b bytes ne) (command-other s (b ∷ bytes) (rw (follow-stops fuel s at b bytes ne) at kind))

schedule-other : (bytes : List ℕ) → (schedule bytes).system.clock ≡ true → (schedule bytes).refusal ≢ 10
unfolding schedule
schedule-other bytes = cond_elim (λ (x : End). x.system.clock ≡ true → x.refusal ≢ 10) (ltb most_bytes (length bytes)) (λ t kind. omega arith) (λ t kind. follow-other (length bytes) fresh 0 bytes kind)

pub clock_never_worn : ClockNeverWorn
clock_never_worn = (command-other, schedule-other)

pub clock_no_rank : ClockNoRank
clock_no_rank s kind p r t = let (ready, flash, ip, few, none) = accepts (Rank p r) s t in true≢false (sym kind ∙ flash)
