-- The findings of specs/Found.antt, computed.
use mathlib.Core.Path.{refl}
use Rattle.lists.specs.Fold.{each}
use Rattle.lists.specs.Test.{all_to}
use Rattle.election.specs.Found.{SearchesFound}
use Rattle.election.specs.Listing.{dark, all_trust, a_leader, up_among, verdict}
use Rattle.election.specs.Search.{ends_at}

pub searches-found : SearchesFound
unfolding ends_at verdict dark all_trust a_leader up_among all_to each
searches-found = (refl, (refl, (refl, (refl, (refl, (refl, (refl, (refl, (refl, (refl, (refl, (refl, (refl, (refl, (refl, (refl, (refl, (refl, (refl, (refl, (refl, (refl, (refl, tt)))))))))))))))))))))))
