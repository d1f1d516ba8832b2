-- The rows of specs/Rows.antt, computed by the rules.
use mathlib.Core.Path.{refl}
use Rattle.lists.specs.Test.{all_to}
use Rattle.fit.specs.Fit.{ranges, counts_in, timeouts_in, vectorless, cleared}
use Rattle.station.specs.Rules.{crashed}
use Rattle.clock.specs.Fit.{kept_in, alive, timer_in, standing, fit, just_set, fit_start, fit_crash, unended, ended, fit_slot}
use Rattle.clock.specs.Operations.{starting, crashing, slotting}
use Rattle.clock.specs.Rows.{Starts, EqualFirst, EqualAgain, LowerHigher, TimerEnds, WaitEnds, LaterChance, Sends, Carries, Fits, Operates}
use Rattle.clock.specs.Rules.{started, adopts, heard, expired, waited, slotted, sends}

pub starts : Starts
unfolding started
starts = refl

pub equal_first : EqualFirst
unfolding started heard adopts
equal_first = (refl, refl)

pub equal_again : EqualAgain
unfolding started heard adopts
equal_again = (refl, refl, refl)

pub lower_higher : LowerHigher
unfolding started heard adopts
lower_higher = (refl, refl, refl)

pub timer_ends : TimerEnds
unfolding started expired
timer_ends = refl

pub wait-ends : WaitEnds
unfolding started slotted waited
wait-ends = (refl, refl, refl)

pub later-chance : LaterChance
unfolding started slotted
later-chance = refl

pub sends-so : Sends
unfolding started sends
sends-so = (refl, refl, refl, refl)

pub carries : Carries
unfolding started
carries = refl

pub fits : Fits
unfolding started fit ranges kept_in vectorless counts_in timeouts_in all_to cleared standing alive timer_in
fits = (
  (refl, (refl, (refl, (refl, (refl, (refl, (refl, (refl, (refl, (refl, tt)))))))))),
  (refl, (refl, (refl, (refl, (refl, (refl, (refl, (refl, tt)))))))),
  (refl, (refl, (refl, (refl, (refl, (refl, (refl, tt))))))),
  (refl, (refl, (refl, (refl, (refl, (refl, (refl, (refl, (refl, (refl, tt)))))))))),
)

pub operates : Operates
unfolding started slotted waited sends crashed starting crashing slotting fit_start fit_crash fit_slot unended ended just_set fit ranges kept_in vectorless counts_in timeouts_in all_to cleared standing alive timer_in
operates = (refl, refl, refl, refl, refl, refl, refl)
