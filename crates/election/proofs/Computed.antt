-- The tables of specs/Rehearsals.antt, specs/Ranked.antt, specs/Clocked.antt and specs/Errors.antt, computed by the rules.
use mathlib.Core.Path.{refl}
use Rattle.election.specs.Clocked.{elections, refusals}
use Rattle.election.specs.Errors.{errors, prints, DarkTwice, Decimals, FreshWhole, SetUpWhole, ClocksWhole, EightWhole}
use Rattle.election.specs.Listing.{reported, end_line, reports, output}
use Rattle.election.specs.Ranked.{preferences, changes}
use Rattle.election.specs.Rehearsals.{rehearsals}
use Rattle.election.proofs.Opened.{listings}
use Rattle.election.proofs.Ruled.{ruled, HoldRuled}

-- what is opened to compute what a schedule prints by the rules
unfoldable printing : Unit {0}
unfolding listings ruled reported end_line
printing = tt

pub errors-ruled : HoldRuled errors
unfolding printing
errors-ruled = ((refl, refl), ((refl, refl), ((refl, refl), ((refl, refl), ((refl, refl), ((refl, refl), ((refl, refl), ((refl, refl), ((refl, refl), ((refl, refl), ((refl, refl), ((refl, refl), ((refl, refl), ((refl, refl), ((refl, refl), ((refl, refl), tt))))))))))))))))

pub prints-ruled : HoldRuled prints
unfolding printing
prints-ruled = ((refl, refl), ((refl, refl), ((refl, refl), ((refl, refl), ((refl, refl), tt)))))

-- these from the definitions themselves
pub spelled_out : DarkTwice × Decimals × FreshWhole × SetUpWhole × ClocksWhole × EightWhole
unfolding printing reports output
spelled_out = (refl, refl, refl, refl, refl, refl)

pub rehearsals-ruled : HoldRuled rehearsals
unfolding printing
rehearsals-ruled = ((refl, refl), ((refl, refl), ((refl, refl), ((refl, refl), ((refl, refl), ((refl, refl), ((refl, refl), ((refl, refl), ((refl, refl), ((refl, refl), tt))))))))))

pub preferences-ruled : HoldRuled preferences
unfolding printing
preferences-ruled = ((refl, refl), ((refl, refl), ((refl, refl), ((refl, refl), ((refl, refl), ((refl, refl), tt))))))

pub changes-ruled : HoldRuled changes
unfolding printing
changes-ruled = ((refl, refl), ((refl, refl), ((refl, refl), ((refl, refl), ((refl, refl), ((refl, refl), ((refl, refl), ((refl, refl), ((refl, refl), ((refl, refl), ((refl, refl), ((refl, refl), ((refl, refl), ((refl, refl), tt))))))))))))))

pub elections-ruled : HoldRuled elections
unfolding printing
elections-ruled = ((refl, refl), ((refl, refl), ((refl, refl), ((refl, refl), ((refl, refl), ((refl, refl), ((refl, refl), ((refl, refl), ((refl, refl), ((refl, refl), tt))))))))))

pub refusals-ruled : HoldRuled refusals
unfolding printing
refusals-ruled = ((refl, refl), ((refl, refl), ((refl, refl), ((refl, refl), ((refl, refl), ((refl, refl), ((refl, refl), ((refl, refl), ((refl, refl), ((refl, refl), tt))))))))))
