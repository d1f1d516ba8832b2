-- Try-outs computed.
use mathlib.Core.Path.{refl}
use Rattle.election.specs.Listing.{listed}
use Rattle.election.specs.System.{at_tick}
use Rattle.election.proofs.Opened.{listings}
use Rattle.dryrun.specs.DryRun.{tried}
use Rattle.dryrun.specs.Rows.{TriedOut}

pub tried-out : TriedOut
unfolding listings at_tick listed tried
tried-out = (refl, (refl, (refl, (refl, (refl, (refl, (refl, (refl, (refl, tt)))))))))
