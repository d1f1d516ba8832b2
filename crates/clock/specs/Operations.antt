-- The station operations of a head with a running clock: the refusals in their order, then the rule. A start does not wear it out.
use Rattle.std.specs.Prelude.{[], ◌∷◌, false, not, ℕ}
use Rattle.lists.specs.First.{first_failed}
use Rattle.station.specs.Rules.{crashed}
use Rattle.station.specs.declared.Station.{Station}
use Rattle.operations.specs.Operations.{Operation, operation}
use Rattle.clock.specs.Fit.{fit_start, fit_crash, fit_hear, fit_expire, fit_slot}
use Rattle.clock.specs.Rules.{started, heard, expired, slotted, sends}

unfoldable pub starting : ℕ → ℕ → ℕ → ℕ → Station → Operation
starting me n period tick s =
    operation (first_failed ((fit_start me n period tick s, 15) ∷ (not s.up, 8) ∷ [])) false (started period tick s) s

unfoldable pub crashing : ℕ → ℕ → ℕ → ℕ → Station → Operation
crashing me n period tick s = operation (first_failed ((fit_crash me n period tick s, 15) ∷ [])) false (crashed s) s

unfoldable pub hearing : ℕ → ℕ → ℕ → ℕ → ℕ → ℕ → Station → Operation
hearing me n period tick q z s =
    operation (first_failed ((fit_hear me n period tick q z s, 15) ∷ [])) false (heard me q z tick s) s

unfoldable pub expiring : ℕ → ℕ → ℕ → ℕ → Station → Operation
expiring me n period tick s = operation (first_failed ((fit_expire me n period tick s, 15) ∷ [])) false (expired me s) s

unfoldable pub slotting : ℕ → ℕ → ℕ → ℕ → Station → Operation
slotting me n period tick s =
    operation (first_failed ((fit_slot me n period tick s, 15) ∷ [])) (sends me s) (slotted me period tick s) s
