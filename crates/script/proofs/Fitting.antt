-- A text that is shown has room.
use mathlib.Core.Path.{◌≡◌, refl}
use mathlib.Core.List.{List, [], ◌∷◌, ◌++◌}
use mathlib.Core.Bool.{Bool, true, false, cond}
use Prim.Native.Nat.{ℕ, zero, suc, ◌+◌, ◌≤◌}
use native.Mathlib.Omega.{arith}
use borrow.Author.Tests.{ltb-false}
use lib.Dec.{ltb}
use lib.ListN.{length, drop, length-append}
use Rattle.fit.specs.Fit.{within}
use Rattle.election.specs.Commands.{decode, operands, last_command}
use Rattle.election.specs.Schedule.{most_bytes}
use Rattle.script.specs.Claims.{TextFits}
use Rattle.script.specs.Shown.{line_of, is_idle, Showing, Text, NoneAt, behind, showing, shown_text}
use Rattle.script.specs.declared.NoText.TheVariants.{NoCommand, MissingOperand, NoTicks, ScheduleLong, BufferShort}

-- the commands from an offset on, with so many characters before them
shown-fits : (fuel at size room : ℕ) (bytes text : List ℕ) → size ≤ room → showing fuel at size room bytes ≡ Text text → size + length text ≤ room
unfolding showing
shown-fits zero at size room bytes text h e = let n : text ≡ [] = cc in rw n (omega arith)
shown-fits (suc fuel) at size room [] text h e = let n : text ≡ [] = cc in rw n (omega arith)
shown-fits (suc fuel) at size room (b ∷ bytes) text h e =
    by (within 1 b last_command) (ltb (operands (decode (b ∷ bytes))) (length (b ∷ bytes))) (is_idle (decode (b ∷ bytes))) (ltb room (size + length (line_of (decode (b ∷ bytes)))))
    (showing fuel (at + (1 + operands (decode (b ∷ bytes)))) (size + length (line_of (decode (b ∷ bytes)))) room (drop (1 + operands (decode (b ∷ bytes))) (b ∷ bytes))) refl refl e
    (shown-fits fuel (at + (1 + operands (decode (b ∷ bytes)))) (size + length (line_of (decode (b ∷ bytes)))) room (drop (1 + operands (decode (b ∷ bytes))) (b ∷ bytes)))
  where
    by : (k t i r : Bool) (s : Showing) → ltb room (size + length (line_of (decode (b ∷ bytes)))) ≡ r
        → showing fuel (at + (1 + operands (decode (b ∷ bytes)))) (size + length (line_of (decode (b ∷ bytes)))) room (drop (1 + operands (decode (b ∷ bytes))) (b ∷ bytes)) ≡ s
        → cond k (cond t (cond i (NoneAt at NoTicks) (cond r (NoneAt at BufferShort) (behind (line_of (decode (b ∷ bytes))) s))) (NoneAt at MissingOperand)) (NoneAt at NoCommand) ≡ Text text
        → ((more : List ℕ) → size + length (line_of (decode (b ∷ bytes))) ≤ room → showing fuel (at + (1 + operands (decode (b ∷ bytes)))) (size + length (line_of (decode (b ∷ bytes)))) room (drop (1 + operands (decode (b ∷ bytes))) (b ∷ bytes)) ≡ Text more → size + length (line_of (decode (b ∷ bytes))) + length more ≤ room)
        → size + length text ≤ room
    by true true false false (Text more) r o g ih =
        let all : text ≡ line_of (decode (b ∷ bytes)) ++ more = cc in
        let fits = ltb-false room (size + length (line_of (decode (b ∷ bytes)))) r in
        rw all (omega (arith, ih more (omega (arith, fits)) o, length-append (line_of (decode (b ∷ bytes))) more))
    by true true false false (NoneAt a why) r o g ih = absurd (let z : ◌≡◌ {A = ℕ} 0 1 = cc in omega arith)
    by true true false true s r o g ih = absurd (let z : ◌≡◌ {A = ℕ} 0 1 = cc in omega arith)
    by true true true x s r o g ih = absurd (let z : ◌≡◌ {A = ℕ} 0 1 = cc in omega arith)
    by true false x y s r o g ih = absurd (let z : ◌≡◌ {A = ℕ} 0 1 = cc in omega arith)
    by false x y z s r o g ih = absurd (let q : ◌≡◌ {A = ℕ} 0 1 = cc in omega arith)

pub text-fits : TextFits
unfolding shown_text
text-fits room bytes text e = go (ltb most_bytes (length bytes)) refl e
  where
    go : (b : Bool) → ltb most_bytes (length bytes) ≡ b → cond b (NoneAt 0 ScheduleLong) (showing (length bytes) 0 0 room bytes) ≡ Text text → (length text ≤ room) × (length bytes ≤ most_bytes)
    go true l g = absurd (let z : ◌≡◌ {A = ℕ} 0 1 = cc in omega arith)
    go false l g = (omega (arith, shown-fits (length bytes) 0 0 room bytes text (omega arith) g), omega (arith, ltb-false most_bytes (length bytes) l))
