-- How long what is said can be.
use mathlib.Core.List.{List}
use mathlib.Core.Bool.{not}
use Prim.Native.Nat.{ℕ, ◌≤◌}
use native.Mathlib.Omega.{arith}
use lib.Dec.{eqb}
use lib.ListN.{length, drop, length-append}
use Rattle.text.specs.Quoted.{text}
use Rattle.text.proofs.Digits.{length-decimal}
use Rattle.text.proofs.Room.{either}
use Rattle.election.specs.Commands.{decode}
use Rattle.election.specs.declared.System.{System}
use Rattle.words.proofs.Room.{refused-room}
use Rattle.settling.specs.Settling.{bound}
use Rattle.figures.specs.declared.Figures.{Figures}
use Rattle.script.specs.Places.{line_holding}
use Rattle.script.specs.declared.NoText.{NoText}
use Rattle.script.specs.declared.NoText.TheVariants as none
use Rattle.script.specs.declared.Why.{Why}
use Rattle.script.specs.declared.Why.TheVariants.{UnknownWord, NumberMissing, TooManyWords, NumberRange, ScheduleLong, BufferShort}
use Rattle.script.proofs.Worded.{line_room_lem}
use Rattle.desk.specs.Figure.{waits, heads, bound_line, numbers, conditions, promise, quoted, no_table, clock_table, none_up, figure_of, figure}
use Rattle.desk.specs.Wording.{wrongness, wrong_line, textless, no_text, long_text, held_in, refused_in, ending, complaint}

-- a line that is wrong
pub wrongness-room : (why : Why) → length (wrongness why) ≤ 39
unfolding text wrongness
wrongness-room UnknownWord = omega arith
wrongness-room NumberMissing = omega arith
wrongness-room TooManyWords = omega arith
wrongness-room NumberRange = omega arith
wrongness-room ScheduleLong = omega arith
wrongness-room BufferShort = omega arith

pub wrong_line-room : (line : ℕ) (why : Why) → length (wrong_line line why) ≤ 73
unfolding text wrong_line
wrong_line-room line why = simp length-append (omega (arith, length-decimal line, wrongness-room why))

-- bytes that have no text
pub textless-room : (why : NoText) → length (textless why) ≤ 36
unfolding text textless
textless-room none.NoCommand = omega arith
textless-room none.MissingOperand = omega arith
textless-room none.NoTicks = omega arith
textless-room none.ScheduleLong = omega arith
textless-room none.BufferShort = omega arith

pub no_text-room : (offset : ℕ) (why : NoText) → length (no_text offset why) ≤ 70
unfolding text no_text
no_text-room offset why = simp length-append (omega (arith, length-decimal offset, textless-room why))

-- a text that is too long
pub long_text-room : length long_text ≤ 43
unfolding text long_text
long_text-room = omega arith

-- a command that is refused
pub held_in-room : (given : List ℕ) (offset : ℕ) (bytes : List ℕ) → length (held_in given offset bytes) ≤ 109
unfolding text held_in
held_in-room given offset bytes = simp length-append (omega (arith, length-decimal (line_holding given offset), line_room_lem (decode (drop offset bytes))))

pub refused_in-room : (refusal : ℕ) (given : List ℕ) (offset : ℕ) (bytes : List ℕ) → length (refused_in refusal given offset bytes) ≤ 187
unfolding refused_in
refused_in-room refusal given offset bytes = simp length-append (omega (arith, refused-room refusal, held_in-room given offset bytes))

pub ending-room : (refusal : ℕ) (given : List ℕ) (offset : ℕ) (bytes : List ℕ) → length (ending refusal given offset bytes) ≤ 187
unfolding text ending
ending-room refusal given offset bytes = either (eqb refusal 0) _ _ 187 (omega arith) (refused_in-room refusal given offset bytes)

pub complaint-room : (refusal : ℕ) (given : List ℕ) (offset : ℕ) (bytes : List ℕ) → length (complaint refusal given offset bytes) ≤ 193
unfolding text complaint
complaint-room refusal given offset bytes = simp length-append (omega (arith, refused_in-room refusal given offset bytes))

-- the figure
pub waits-room : (f : Figures) → length (waits f) ≤ 121
unfolding text waits
waits-room f = simp length-append (omega (arith, length-decimal f.wait, length-decimal f.timeout, length-decimal f.period))

pub heads-room : (f : Figures) → length (heads f) ≤ 81
unfolding text heads
heads-room f = simp length-append (omega (arith, length-decimal f.heads, length-decimal f.leader))

pub bound_line-room : (most : ℕ) → length (bound_line most) ≤ 80
unfolding text bound_line
bound_line-room most = simp length-append (omega (arith, length-decimal most))

pub numbers-room : (f : Figures) (most : ℕ) → length (numbers f most) ≤ 282
unfolding numbers
numbers-room f most = simp length-append (omega (arith, waits-room f, heads-room f, bound_line-room most))

pub conditions-room : (d most : ℕ) → length (conditions d most) ≤ 224
unfolding text conditions
conditions-room d most = simp length-append (omega (arith, length-decimal d, length-decimal most))

pub promise-room : (leader : ℕ) → length (promise leader) ≤ 156
unfolding text promise
promise-room leader = simp length-append (omega (arith, length-decimal leader))

pub quoted-room : (d : ℕ) (f : Figures) (most : ℕ) → length (quoted d f most) ≤ 662
unfolding quoted
quoted-room d f most = simp length-append (omega (arith, numbers-room f most, conditions-room d most, promise-room f.leader))

pub figure-room : (d : ℕ) (s : System) (f : Figures) → length (figure d s f) ≤ 662
unfolding text no_table clock_table none_up figure_of
figure-room d s f =
    either (not s.ready) _ _ 662 (omega arith)
    (either s.clock _ _ 662 (omega arith)
    (either (eqb f.heads 0) _ _ 662 (omega arith) (quoted-room d f (bound d s))))
