-- Assembling what show wrote restores the bytes.
use mathlib.Core.Path.{◌≡◌, refl, ap, ◌∙◌}
use mathlib.Core.List.{List, [], ◌∷◌, ◌++◌, append_assoc}
use mathlib.Core.Bool.{Bool, true, false, cond}
use Prim.Native.Nat.{ℕ, zero, suc, ◌+◌, ◌-◌, ◌<◌, ◌≤◌}
use native.Mathlib.Omega.{arith}
use lib.Dec.{ltb}
use lib.ListN.{length, drop, length-drop}
use borrow.Author.Tests.{ltb-true, ltb-false}
use Rattle.lists.proofs.Every.{all_drop}
use Rattle.fit.specs.Fit.{within}
use Rattle.text.specs.Numbers.{newline}
use Rattle.election.specs.Commands.{Command, Bytes, decode, operands, last_command}
use Rattle.election.specs.Schedule.{most_bytes}
use Rattle.script.specs.Assembled.{Commands, of_line, Schedule, behind, of_lines}
use Rattle.script.specs.Claims.{Restores}
use Rattle.script.specs.Encoded.{encode_all}
use Rattle.script.specs.Shown.{written, line_of, is_idle, Showing, Text, NoneAt, showing, shown_text}
use Rattle.script.specs.Shown as show
use Rattle.script.specs.Split.{lines}
use Rattle.script.specs.declared.NoText.{NoText}
use Rattle.script.specs.declared.NoText.TheVariants.{NoCommand, MissingOperand, NoTicks, ScheduleLong, BufferShort}
use Rattle.script.proofs.Coded.{length-encode, encode_one, encode-decode}
use Rattle.script.proofs.Meaning.{decoded_writable, written-line, written-means}
use Rattle.script.proofs.Splitting.{lines-one}
use Rattle.script.proofs.Taking.{lines_next, fitting-all}
use Rattle.script.proofs.Values.{within-is}

never : (at : ℕ) (why : NoText) (text : List ℕ) → NoneAt at why ≡ Text text → ⊥
never at why text e = let z : ◌≡◌ {A = ℕ} 0 1 = cc in omega arith

-- what is known where bytes have a text: their first command has a line, and the others have the rest
pub record HasText (fuel at size room : ℕ) (b : ℕ) (bytes text : List ℕ) : Type 0 where
  pub more : List ℕ
  pub known : within 1 b last_command ≡ true
  pub there : operands (decode (b ∷ bytes)) ≤ length bytes
  pub moves : is_idle (decode (b ∷ bytes)) ≡ false
  pub others : showing fuel (at + (1 + operands (decode (b ∷ bytes)))) (size + length (line_of (decode (b ∷ bytes)))) room (drop (1 + operands (decode (b ∷ bytes))) (b ∷ bytes)) ≡ Text more
  pub all : text ≡ line_of (decode (b ∷ bytes)) ++ more

pub has_text : (fuel at size room b : ℕ) (bytes text : List ℕ) → showing (suc fuel) at size room (b ∷ bytes) ≡ Text text → HasText fuel at size room b bytes text
unfolding showing
has_text fuel at size room b bytes text e =
    by (within 1 b last_command) (ltb (operands c) (length (b ∷ bytes))) (is_idle c) (ltb room (size + length (line_of c)))
    (showing fuel (at + (1 + operands c)) (size + length (line_of c)) room (drop (1 + operands c) (b ∷ bytes))) refl refl refl refl e
  where
    c : Command
    c = decode (b ∷ bytes)

    by : (k t i r : Bool) (s : Showing) → within 1 b last_command ≡ k → ltb (operands (decode (b ∷ bytes))) (length (b ∷ bytes)) ≡ t → is_idle (decode (b ∷ bytes)) ≡ i → showing fuel (at + (1 + operands (decode (b ∷ bytes)))) (size + length (line_of (decode (b ∷ bytes)))) room (drop (1 + operands (decode (b ∷ bytes))) (b ∷ bytes)) ≡ s → cond k (cond t (cond i (NoneAt at NoTicks) (cond r (NoneAt at BufferShort) (show.behind (line_of (decode (b ∷ bytes))) s))) (NoneAt at MissingOperand)) (NoneAt at NoCommand) ≡ Text text → HasText fuel at size room b bytes text
    by true true false false (Text more) k t i o e =
        record { more = more; known = k; there = omega (arith, ltb-true (operands (decode (b ∷ bytes))) (length (b ∷ bytes)) t); moves = i; others = o; all = cc }
    by true true false false (NoneAt at' why) k t i o e = absurd (never at' why text e)
    by true true false true s k t i o e = absurd (never at BufferShort text e)
    by true true true r s k t i o e = absurd (never at NoTicks text e)
    by true false i r s k t i' o e = absurd (never at MissingOperand text e)
    by false t i r s k t' i' o e = absurd (never at NoCommand text e)

-- the line of a command, and more lines
lines_of : (c : Command) (more : List ℕ) → lines (line_of c ++ more) ≡ written c ∷ lines more
unfolding line_of
lines_of c more = ap lines (append_assoc (written c) newline more) ∙ lines-one (written c) more (written-line c)

-- the lines of some bytes, with so many bytes before them
pub restoring : (fuel at size room : ℕ) (bytes text : List ℕ) → Bytes bytes → length bytes ≤ fuel → showing fuel at size room bytes ≡ Text text
    → (k before space : ℕ) → before + length bytes ≤ space → before + length bytes ≤ most_bytes → of_lines k before space (lines text) ≡ Schedule bytes
unfolding showing of_lines lines
restoring zero at size room [] text o f e k before space h l = let n : text ≡ [] = cc in rw n
restoring zero at size room (b ∷ bytes) text o f e k before space h l = absurd (omega arith)
restoring (suc fuel) at size room [] text o f e k before space h l = let n : text ≡ [] = cc in rw n
restoring (suc fuel) at size room (b ∷ bytes) text o f e k before space h l =
    let w : HasText fuel at size room b bytes text = has_text fuel at size room b bytes text e in
    let c : Command = decode (b ∷ bytes) in
    let rest : List ℕ = drop (1 + operands c) (b ∷ bytes) in
    let few : length rest ≡ length (b ∷ bytes) - (1 + operands c) = length-drop (1 + operands c) (b ∷ bytes) in
    let known = within-is 1 b last_command w.known in
    let long : length (encode_all (c ∷ [])) ≡ 1 + operands c = ap length (encode_one c) ∙ length-encode c in
    let means : of_line (written c) ≡ Commands (c ∷ []) = written-means c (decoded_writable (b ∷ bytes) o w.moves) in
    let on : of_lines (k + 1) (before + length (encode_all (c ∷ []))) space (lines w.more) ≡ Schedule rest =
    restoring fuel (at + (1 + operands c)) (size + length (line_of c)) room rest w.more (all_drop (λ (x : ℕ). x < 256) (1 + operands c) (b ∷ bytes) o) (omega (arith, few)) w.others (k + 1) (before + length (encode_all (c ∷ []))) space (omega (arith, few, long, w.there)) (omega (arith, few, long, w.there)) in
    ap (of_lines k before space) (ap lines w.all ∙ lines_of c w.more)
    ∙ lines_next k before space (written c) (lines w.more) (c ∷ []) means
    ∙ fitting-all k space (before + length (encode_all (c ∷ []))) (behind (encode_all (c ∷ [])) (of_lines (k + 1) (before + length (encode_all (c ∷ []))) space (lines w.more))) (omega (arith, long, w.there)) (omega (arith, long, w.there))
    ∙ ap (behind (encode_all (c ∷ []))) on
    ∙ ap Schedule (ap (λ (x : List ℕ). x ++ rest) (encode_one c) ∙ encode-decode b bytes o.1 known.0 known.1 w.there)

pub restores : Restores
unfolding shown_text
restores room bytes text o e space h = go (ltb most_bytes (length bytes)) refl e
  where
    go : (b : Bool) → ltb most_bytes (length bytes) ≡ b → cond b (NoneAt 0 ScheduleLong) (showing (length bytes) 0 0 room bytes) ≡ Text text → of_lines 1 0 space (lines text) ≡ Schedule bytes
    go true l e = absurd (never 0 ScheduleLong text e)
    go false l e = restoring (length bytes) 0 0 room bytes text o (omega arith) e 1 0 space (omega arith) (omega (arith, ltb-false most_bytes (length bytes) l))
