-- What assembling leaves: its answer and the buffer.
use mathlib.Core.Path.{◌≡◌, refl}
use mathlib.Core.List.{List}
use Prim.Native.Nat.{ℕ}
use lib.ListN.{length}
use Rattle.std.specs.Prelude.{Ok, Err}
use Rattle.text.specs.Wrote.{Wrote}
use Rattle.script.specs.Assembled.{Script, Schedule, WrongAt, script, Left, leaving, assembled}
use Rattle.script.specs.Passes.{measured, script_bytes, bytes_in, Accepted}
use Rattle.script.specs.declared.WrongLine.{WrongLine}

-- an answer of so many bytes is that of a text with no wrong line
accepted-script : (s : Script) (n : ℕ) → measured s ≡ Ok n → s ≡ Schedule (script_bytes s)
accepted-script (Schedule bytes) n e = refl
accepted-script (WrongAt k why) n e = cc

pub is-accepted : (room : ℕ) (text : List ℕ) (n : ℕ) → measured (script room text) ≡ Ok n → Accepted room text
is-accepted room text n e = accepted-script (script room text) n e

-- bytes that are written, and a refusal
leaves_bytes : (s : Script) (old new : List ℕ) (n : ℕ) → s ≡ Schedule (script_bytes s) → Wrote (script_bytes s) old n new → ◌≡◌ {A = Left} (record { answer = Ok n; buffer = new }) (leaving s old)
leaves_bytes (Schedule bytes) old new n e w = rw (w.count, w.bytes)
leaves_bytes (WrongAt k why) old new n e w = cc

leaves_wrong : (s : Script) (old : List ℕ) (w : WrongLine) → measured s ≡ Err w → ◌≡◌ {A = Left} (record { answer = Err w; buffer = old }) (leaving s old)
leaves_wrong (Schedule bytes) old w e = cc
leaves_wrong (WrongAt k why) old w e = rw (← e)

module _ (text old : List ℕ) where
  pub bytes_left : (n : ℕ) (new : List ℕ) → Accepted (length old) text → Wrote (bytes_in (length old) text) old n new → ◌≡◌ {A = Left} (record { answer = Ok n; buffer = new }) (assembled text old)
  unfolding assembled
  bytes_left n new e w = leaves_bytes (script (length old) text) old new n e w

  pub wrong_left : (w : WrongLine) → measured (script (length old) text) ≡ Err w → ◌≡◌ {A = Left} (record { answer = Err w; buffer = old }) (assembled text old)
  unfolding assembled
  wrong_left w e = leaves_wrong (script (length old) text) old w e
