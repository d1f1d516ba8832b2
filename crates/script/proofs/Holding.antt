-- Laws of the line that holds a byte of the schedule, looked for line by line.
use mathlib.Core.Path.{◌≡◌, sym, ap, ◌∙◌}
use mathlib.Core.List.{List}
use Prim.Native.Nat.{ℕ, ◌+◌, ◌<◌, ◌≤◌}
use native.Mathlib.Omega.{arith}
use borrow.Author.Tests.{lt-ltb, le-ltb}
use lib.ListN.{length, drop, drop_of_length-le}
use Rattle.std.specs.Prelude.{Result}
use Rattle.script.specs.Assembled.{commands_of, of_line}
use Rattle.script.specs.Encoded.{encode_all}
use Rattle.script.specs.Meanings.{line_bytes}
use Rattle.script.specs.Passes.{LineAt}
use Rattle.script.specs.Places.{holding_from, line_holding}
use Rattle.script.specs.Split.{lines}
use Rattle.script.specs.declared.Why.{Why}
use Rattle.script.specs.declared.rules.lines.Line.{Line}

-- no line so far holds it
pub record NotTo (text : List ℕ) (offset at passed size : ℕ) : Type 0 where
  pub is : line_holding text offset ≡ holding_from (passed + 1) size offset (lines (drop at text))
  pub before : size ≤ offset
  pub within : at ≤ length text
  pub few : passed ≤ at

module _ {text : List ℕ} {offset at passed size : ℕ} (n : NotTo text offset at passed size) {l : Result Line Why} {next : ℕ} (here : LineAt text at l next) {more : ℕ} (count : more ≡ length (line_bytes l)) where
  own-size : length (encode_all (commands_of (of_line here.own))) ≡ more
  own-size = ap (λ m. length (encode_all (commands_of m))) (sym here.reads.is) ∙ sym count

  pub held-here : offset < size + more → passed + 1 ≡ line_holding text offset
  unfolding holding_from
  held-here h = sym (n.is ∙ rw (here.first, own-size, lt-ltb offset (size + more) h))

  pub not_here : size + more ≤ offset → NotTo text offset next (passed + 1) (size + more)
  unfolding holding_from
  not_here h = record { is = n.is ∙ rw (here.first, own-size, le-ltb offset (size + more) h); before = h; within = here.within; few = omega (arith, n.few, here.on) }

pub held-nowhere : {text : List ℕ} {offset at passed size : ℕ} → NotTo text offset at passed size → length text ≤ at → 0 ≡ line_holding text offset
unfolding holding_from lines
held-nowhere {text} {at = at} n h = sym (n.is ∙ rw (drop_of_length-le text {i = at} h))
