-- What the arguments ask for: one command, in hex.
use Rattle.std.specs.Prelude.{List, Bool, cond, ◌&&◌, ℕ, ◌+◌, ltb, length, get_or, take, Result, Ok, Err}
use Rattle.fit.specs.Fit.{within}
use Rattle.text.specs.Hex.{Spelled, spelled}
use Rattle.election.specs.Commands.{decode, operands, last_command}
use Rattle.tryout.specs.declared.command.WrongArguments.{WrongArguments}
use Rattle.tryout.specs.declared.command.WrongArguments.TheVariants as wrong

-- the bytes of a command; or there are none, or bytes are left over behind it, or it is no hex
pub data Asking : Type 0 where
  TryOut : List ℕ → Asking
  NoBytes : Asking
  LeftOver : Asking
  NoHex : Asking

-- bytes are left over behind a command and its operands
abbrev pub is_left_over : List ℕ → Bool
is_left_over bytes = within 1 (get_or bytes 0 0) last_command && ltb (1 + operands (decode bytes)) (length bytes)

-- what a line asks for: the arguments, with blanks between them
unfoldable pub asking : List ℕ → Asking
asking line =
    let s : Spelled = spelled line in
    cond s.hex (cond (ltb 0 (length s.bytes)) (cond (is_left_over s.bytes) LeftOver (TryOut s.bytes)) NoBytes) NoHex

-- what the code answered, with the bytes at the front of the buffer
abbrev pub meant : Result ℕ WrongArguments → List ℕ → Asking
meant (Ok size) buffer = TryOut (take size buffer)
meant (Err wrong.NoBytes) buffer = NoBytes
meant (Err wrong.LeftOver) buffer = LeftOver
meant (Err wrong.NoHex) buffer = NoHex
