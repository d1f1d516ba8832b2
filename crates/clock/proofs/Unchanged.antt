-- Single fields after each rule of a head with a running clock: what hearing, the end of a timer and a send chance leave alone, and what a
-- start sets.
use mathlib.Core.Path.{◌≡◌, refl}
use mathlib.Core.Bool.{true}
use Prim.Native.Nat.{ℕ, ◌+◌}
use Rattle.station.specs.declared.Station.{Station}
use Rattle.station.proofs.Unchanged.{Unchanged, unchanged}
use Rattle.clock.specs.Rules.{started, heard, expired, slotted}
use Rattle.clock.proofs.Elimination.{heard-elim, slotted-elim}

module _ (me q z tick : ℕ) (s : Station) where
  pub heard-unchanged : Unchanged s (heard me q z tick s)
  heard-unchanged =
      heard-elim (Unchanged s) me q z tick s
      (λ l. record { up = refl; slot = refl; recovering = refl; stable = refl; incarnation = refl }) (unchanged s)

  pub heard-timeouts : (heard me q z tick s).timeouts ≡ s.timeouts
  heard-timeouts = heard-elim (λ (y : Station). y.timeouts ≡ s.timeouts) me q z tick s (λ l. refl) refl

  pub heard-timeout : (heard me q z tick s).timeout ≡ s.timeout
  heard-timeout = heard-elim (λ (y : Station). y.timeout ≡ s.timeout) me q z tick s (λ l. refl) refl

pub expired-unchanged : (me : ℕ) (s : Station) → Unchanged s (expired me s)
unfolding expired
expired-unchanged me s = record { up = refl; slot = refl; recovering = refl; stable = refl; incarnation = refl }

module _ (me period tick : ℕ) (s : Station) where
  pub slotted-up : (slotted me period tick s).up ≡ s.up
  slotted-up = slotted-elim (λ (y : Station). y.up ≡ s.up) me period tick s (λ a b. refl) (λ a b c. refl) (λ a. refl)

  pub slotted-count : (slotted me period tick s).incarnation ≡ s.incarnation
  slotted-count = slotted-elim (λ (y : Station). y.incarnation ≡ s.incarnation) me period tick s (λ a b. refl) (λ a b c. refl) (λ a. refl)

  pub slotted-slot : (slotted me period tick s).slot ≡ tick + period
  slotted-slot = slotted-elim (λ (y : Station). y.slot ≡ tick + period) me period tick s (λ a b. refl) (λ a b c. refl) (λ a. refl)

  pub slotted-timeout : (slotted me period tick s).timeout ≡ s.timeout
  slotted-timeout = slotted-elim (λ (y : Station). y.timeout ≡ s.timeout) me period tick s (λ a b. refl) (λ a b c. refl) (λ a. refl)

module _ (period tick : ℕ) (s : Station) where
  pub started-up : (started period tick s).up ≡ true
  unfolding started
  started-up = refl

  pub started-count : (started period tick s).incarnation ≡ s.incarnation
  unfolding started
  started-count = refl

  pub started-slot : (started period tick s).slot ≡ tick + (period + tick)
  unfolding started
  started-slot = refl

  pub started-recovering : (started period tick s).recovering ≡ true
  unfolding started
  started-recovering = refl
