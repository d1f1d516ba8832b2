-- A schedule's text from an offset on: what is found there, and that it leads to the text of the whole.
use mathlib.Core.Path.{◌≡◌, refl, sym, ap, ◌∙◌}
use mathlib.Core.List.{List, [], ◌∷◌}
use mathlib.Core.Bool.{Bool, true, false, cond}
use Prim.Native.Nat.{ℕ, zero, suc, ◌+◌, ◌-◌, ◌<◌, ◌≤◌}
use native.Mathlib.Decide.{dec_lt}
use native.Mathlib.Nat.{add-zero}
use native.Mathlib.Omega.{arith}
use lib.Dec.{ltb}
use lib.ListN.{length, get_or, take, drop, length-drop, drop_of_length-le}
use lib.Seq.{drop-drop, take_all, get_or-drop}
use borrow.Author.Tests.{lt-ltb, le-ltb, ltb-true, ltb-false}
use Rattle.std.specs.Prelude.{Result, Ok, Err}
use Rattle.fit.specs.Fit.{within}
use Rattle.election.specs.Commands.{Command, decode, operands, last_command}
use Rattle.decision.proofs.Bytes.{width_of}
use Rattle.script.specs.Pieces.{found_known, found}
use Rattle.script.specs.Shown.{line_of, is_idle, Showing, Text, NoneAt, behind, showing}
use Rattle.script.specs.declared.NoText.{NoText}
use Rattle.script.specs.declared.NoText.TheVariants.{NoCommand, MissingOperand, NoTicks, BufferShort}
use Rattle.script.specs.declared.rules.showing.Piece.{Piece}

-- more commands than there are bytes don't matter
fuel_more : (fuel at size room : ℕ) (bytes : List ℕ) → length bytes ≤ fuel → showing (suc fuel) at size room bytes ≡ showing fuel at size room bytes
unfolding showing
fuel_more zero at size room [] h = refl
fuel_more zero at size room (b ∷ bytes) h = absurd (omega arith)
fuel_more (suc fuel) at size room [] h = refl
fuel_more (suc fuel) at size room (b ∷ bytes) h =
    let c : Command = decode (b ∷ bytes) in
    rw (fuel_more fuel (at + (1 + operands c)) (size + length (line_of c)) room (drop (1 + operands c) (b ∷ bytes)) (omega (arith, length-drop (1 + operands c) (b ∷ bytes)))) refl

-- room that is left
left : (size room n : ℕ) → size ≤ room → ltb room (size + n) ≡ ltb (room - size) n
left size room n h = go (dec_lt room (size + n))
  where
    go : Dec (room < size + n) → ltb room (size + n) ≡ ltb (room - size) n
    go (yes l) = lt-ltb room (size + n) l ∙ sym (lt-ltb (room - size) n (omega arith))
    go (no l) = le-ltb room (size + n) (omega arith) ∙ sym (le-ltb (room - size) n (omega arith))

-- what is found leads on, or stops
abbrev pub led : ℕ → Showing → Result Piece NoText → Showing
led at more (Ok p) = more
led at more (Err why) = NoneAt at why

step : (fuel at size room b : ℕ) (bytes : List ℕ) → size ≤ room
    → showing (suc fuel) at size room (b ∷ bytes)
    ≡ led at (behind (line_of (decode (b ∷ bytes))) (showing fuel (at + (1 + operands (decode (b ∷ bytes)))) (size + length (line_of (decode (b ∷ bytes)))) room (drop (1 + operands (decode (b ∷ bytes))) (b ∷ bytes))))
    (found (room - size) (b ∷ bytes))
unfolding showing found found_known
step fuel at size room b bytes h =
    let c : Command = decode (b ∷ bytes) in
    rw (left size room (length (line_of c)) h)
    (go _ (record { width = 1 + operands c; size = length (line_of c) }) (within 1 b last_command) (ltb (operands c) (length (b ∷ bytes))) (is_idle c) (ltb (room - size) (length (line_of c))))
  where
    go : (more : Showing) (p : Piece) (t u i s : Bool)
        → cond t (cond u (cond i (NoneAt at NoTicks) (cond s (NoneAt at BufferShort) more)) (NoneAt at MissingOperand)) (NoneAt at NoCommand)
        ≡ led at more (cond t (cond u (cond i (Err NoTicks) (cond s (Err BufferShort) (Ok p))) (Err MissingOperand)) (Err NoCommand))
    go more p false u i s = refl
    go more p true false i s = refl
    go more p true true true s = refl
    go more p true true false true = refl
    go more p true true false false = refl

-- what a line that is found says
pub record Here (room : ℕ) (bytes : List ℕ) (w n : ℕ) : Type 0 where
  pub width : w ≡ 1 + operands (decode bytes)
  pub size : n ≡ length (line_of (decode bytes))
  pub enough : operands (decode bytes) < length bytes
  pub fits : length (line_of (decode bytes)) ≤ room

pub here : (room : ℕ) (bytes : List ℕ) (p : Piece) → found room bytes ≡ Ok p → Here room bytes p.width p.size
unfolding found found_known
here room bytes p e =
    let c : Command = decode bytes in
    go (within 1 (get_or bytes 0 0) last_command) (ltb (operands c) (length bytes)) (is_idle c) (ltb room (length (line_of c))) refl refl e
  where
    go : (t u i s : Bool) → ltb (operands (decode bytes)) (length bytes) ≡ u → ltb room (length (line_of (decode bytes))) ≡ s
        → ◌≡◌ {A = Result Piece NoText} (cond t (cond u (cond i (Err NoTicks) (cond s (Err BufferShort) (Ok (record { width = 1 + operands (decode bytes); size = length (line_of (decode bytes)) })))) (Err MissingOperand)) (Err NoCommand)) (Ok p)
        → Here room bytes p.width p.size
    go false u i s eu es e = cc
    go true false i s eu es e = cc
    go true true true s eu es e = cc
    go true true false true eu es e = cc
    go true true false false eu es e =
        let q : ◌≡◌ {A = Piece} p (record { width = 1 + operands (decode bytes); size = length (line_of (decode bytes)) }) = cc in
        record {
          width = ap (λ (x : Piece). x.width) q;
          size = ap (λ (x : Piece). x.size) q;
          enough = ltb-true (operands (decode bytes)) (length bytes) eu;
          fits = ltb-false room (length (line_of (decode bytes))) es;
        }

module _ (room : ℕ) (bytes : List ℕ) where
  -- the text from an offset on, with so many characters before it
  abbrev pub rest : ℕ → ℕ → Showing
  rest at size = showing (length bytes) at size room (drop at bytes)

  -- .. and that behind the command there
  abbrev pub next : ℕ → ℕ → Showing
  next at size = rest (at + (1 + operands (decode (drop at bytes)))) (size + length (line_of (decode (drop at bytes))))

  pub rest-none : (at size : ℕ) → length bytes ≤ at → rest at size ≡ Text []
  unfolding showing
  rest-none at size h = rw (drop_of_length-le bytes {i = at} h) (go (length bytes))
    where
      go : (fuel : ℕ) → showing fuel at size room [] ≡ Text []
      go zero = refl
      go (suc fuel) = refl

  module _ (at size : ℕ) (inside : at < length bytes) (fits : size ≤ room) where
    -- what is found there leads on
    pub turn : rest at size ≡ led at (behind (line_of (decode (drop at bytes))) (next at size)) (found (room - size) (drop at bytes))
    turn = go (length bytes) inside (omega (arith, length-drop at bytes)) (drop at bytes) refl (omega (arith, length-drop at bytes))
      where
        go : (fuel : ℕ) → at < fuel → length (drop at bytes) ≤ fuel → (l : List ℕ) → drop at bytes ≡ l → 0 < length l
            → showing fuel at size room l ≡ led at (behind (line_of (decode l)) (showing fuel (at + (1 + operands (decode l))) (size + length (line_of (decode l))) room (drop (at + (1 + operands (decode l))) bytes))) (found (room - size) l)
        go zero h k l e s = absurd (omega arith)
        go (suc fuel) h k [] e s = absurd (omega arith)
        go (suc fuel) h k (b ∷ l) e s =
            let c : Command = decode (b ∷ l) in
            let d : drop (at + (1 + operands c)) bytes ≡ drop (1 + operands c) (b ∷ l) = sym (drop-drop (1 + operands c) at bytes) ∙ ap (drop (1 + operands c)) e in
            step fuel at size room b l fits
            ∙ rw (d, fuel_more fuel (at + (1 + operands c)) (size + length (line_of c)) room (drop (1 + operands c) (b ∷ l)) (omega (arith, length-drop (1 + operands c) (b ∷ l), ap length e))) refl

-- the bytes from an offset on, as they are lent, and the width that the byte there tells
pub lent : (bytes : List ℕ) (at : ℕ) → take (length bytes - at) (drop at bytes) ≡ drop at bytes
lent bytes at = take_all (length bytes - at) (drop at bytes) (omega (arith, length-drop at bytes))

pub lent_found : (left : ℕ) (bytes : List ℕ) (at : ℕ) {r g : Result Piece NoText} → r ≡ found left (take (length bytes - at) (drop at bytes)) → r ≡ g → found left (drop at bytes) ≡ g
lent_found left bytes at e f = ap (found left) (sym (lent bytes at)) ∙ sym e ∙ f

pub lent_width : (bytes : List ℕ) (at w : ℕ) → w ≡ operands (decode (get_or bytes at 0 ∷ [])) → w ≡ operands (decode (drop at bytes))
lent_width bytes at w e = e ∙ ap (λ b. operands (decode (b ∷ []))) (ap (λ i. get_or bytes i 0) (sym (add-zero at)) ∙ sym (get_or-drop at bytes 0 0)) ∙ sym (width_of (drop at bytes))
