-- The commands of a text: those of its lines in order, and the ticks of a run.
use mathlib.Core.Path.{◌≡◌, refl, ◌∙◌}
use mathlib.Core.List.{List, [], ◌∷◌}
use mathlib.Core.Bool.{Bool, true, false, cond}
use Prim.Native.Nat.{ℕ, zero, suc, ◌+◌, ◌*◌, ◌-◌, ◌≤◌}
use native.Mathlib.Omega.{arith}
use lib.Dec.{leb}
use lib.ListN.{length}
use borrow.Author.Tests.{leb-false}
use Rattle.election.specs.Commands.{Run}
use Rattle.script.specs.Assembled.{Schedule, of_lines}
use Rattle.script.specs.Claims.{SameCommands, AllTicks, in_order, ticks_of}
use Rattle.script.specs.Encoded.{encode_all}
use Rattle.script.specs.Entries.{longest_run, runs, most_runs}
use Rattle.script.specs.Split.{lines}
use Rattle.script.proofs.Coded.{encode-append, decode-from}
use Rattle.script.proofs.Taking.{Taken, taken}

-- the bytes are those of the commands of the lines
pub lines-encode : (ls : List (List ℕ)) (k size room : ℕ) (bytes : List ℕ) → of_lines k size room ls ≡ Schedule bytes → bytes ≡ encode_all (in_order ls)
unfolding of_lines in_order encode_all
lines-encode [] k size room bytes e = cc
lines-encode (l ∷ ls) k size room bytes e =
    let t : Taken k size room l ls bytes = taken k size room l ls bytes e in
    t.all ∙ rw (t.means, encode-append t.commands (in_order ls), lines-encode ls (k + 1) (size + length (encode_all t.commands)) room t.more t.others)

-- so the desk decodes these commands
pub same-commands : SameCommands
same-commands space text bytes e =
    let all : bytes ≡ encode_all (in_order (lines text)) = lines-encode (lines text) 1 0 space bytes e in
    rw all (decode-from (in_order (lines text)) (length (encode_all (in_order (lines text)))) (omega arith))

-- the ticks of as many run commands as are needed
pub runs-ticks : (fuel t : ℕ) → t ≤ fuel * longest_run → ticks_of (runs fuel t) ≡ t
unfolding runs ticks_of
runs-ticks zero t h = omega arith
runs-ticks (suc fuel) t h = go (leb t longest_run) refl (runs-ticks fuel (t - longest_run))
  where
    go : (b : Bool) → leb t longest_run ≡ b → (t - longest_run ≤ fuel * longest_run → ticks_of (runs fuel (t - longest_run)) ≡ t - longest_run) → ticks_of (cond b (Run t ∷ []) (Run longest_run ∷ runs fuel (t - longest_run))) ≡ t
    go true e r = omega arith
    go false e r = rw (r (omega arith)) (omega (arith, leb-false t longest_run e))

pub all_ticks : AllTicks
all_ticks t h = runs-ticks most_runs t (omega arith)
