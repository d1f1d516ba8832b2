use Prim.Native.Nat.{◌≤◌}
use Rattle.lists.specs.Join.{join_to}
use Rattle.text.specs.Wrote.{Wrote}
use Rattle.text.proofs.rules.JoinedText.put.Given as goal

abbrev pub invariant-loop-place : goal.invariant-loop-place
invariant-loop-place g l = (l.place ≤ l.place-end) × Wrote (join_to l.place (g.P.Pieces.piece l.self.0)) l.initial.buffer l.at l.buffer
