-- The table of specs/Breaches.antt, computed.
use mathlib.Core.Path.{refl}
use Rattle.election.specs.Breaches.{sound_each, Clauses}
use Rattle.election.proofs.Opened.{rules}

pub clauses : Clauses
unfolding rules sound_each
clauses = (refl, refl, refl, refl)
