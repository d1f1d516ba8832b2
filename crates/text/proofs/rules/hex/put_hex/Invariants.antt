use mathlib.Core.Path.{◌≡◌}
use Prim.Native.Nat.{◌*◌, ◌≤◌}
use lib.ListN.{length, take}
use Rattle.text.specs.Hex.{spaced}
use Rattle.text.specs.Wrote.{Wrote}
use Rattle.text.proofs.rules.hex.put_hex.Given as goal

abbrev pub invariant-loop-b : goal.invariant-loop-b
invariant-loop-b l = (l.at ≡ 3 * l.b-index) × (3 * length l.bytes ≤ length l.buffer) × (length l.buffer ≡ length l.initial.buffer) × Wrote (spaced (take l.b-index l.bytes)) l.initial.buffer l.at l.buffer
