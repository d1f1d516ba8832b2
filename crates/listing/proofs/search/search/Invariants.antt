use Rattle.listing.proofs.Scan.{Kept}
use Rattle.listing.proofs.search.search.Given as goal

abbrev pub invariant-loop-k : goal.invariant-loop-k
invariant-loop-k l = Kept l.stations l.k l.leader
