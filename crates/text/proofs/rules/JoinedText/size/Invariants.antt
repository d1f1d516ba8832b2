use mathlib.Core.Path.{◌≡◌}
use Prim.Native.Nat.{◌≤◌}
use lib.ListN.{length}
use Rattle.lists.specs.Join.{join_to}
use Rattle.text.proofs.rules.JoinedText.size.Given as goal

abbrev pub invariant-loop-place : goal.invariant-loop-place
invariant-loop-place g l = (l.place ≤ l.place-end) × (l.size ≡ length (join_to l.place (g.P.Pieces.piece l.self.0)))
