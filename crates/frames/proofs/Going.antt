-- Laws of a text that is read in parts, and character by character.
use mathlib.Core.Path.{◌≡◌, refl, sym, ap, ◌∙◌}
use mathlib.Core.List.{List, [], ◌∷◌, ◌++◌, append_assoc, append-nil}
use mathlib.Core.Bool.{true, cond}
use Prim.Native.Nat.{ℕ, ◌+◌, ◌*◌, ◌-◌, ◌<◌, ◌≤◌}
use native.Mathlib.Numerals.{add-one}
use native.Mathlib.Omega.{arith}
use lib.ListN.{length, get_or, take, drop, length-append, length-drop}
use lib.Seq.{take-suc, take_all, length-take-le}
use lib.Dec.{eqb}
use borrow.Rule.Slice.PartMut.{put_mid}
use Rattle.lists.proofs.Bools.{cond_elim}
use Rattle.text.specs.Wrote.{Wrote}
use Rattle.text.proofs.Parts.{wrote_part, wrote_length}
use Rattle.frames.specs.Claims.{Parts, ended}
use Rattle.frames.specs.Line.{begin, read, longest_line, stepped, told_at, after, printed}
use Rattle.frames.specs.Line.{Line}
use Rattle.frames.proofs.Room.{line_room_lem}

pub after-append : (s : Line) (a b : List ℕ) → after s (a ++ b) ≡ after (after s a) b
unfolding after
after-append s [] b = refl
after-append s (c ∷ a) b = after-append (stepped s c) a b

pub printed-append : (s : Line) (a b : List ℕ) → printed s (a ++ b) ≡ printed s a ++ printed (after s a) b
unfolding after printed
printed-append s [] b = refl
printed-append s (c ∷ a) b = rw (printed-append (stepped s c) a b) (sym (append_assoc (told_at s c) (printed (stepped s c) a) (printed (after (stepped s c) a) b)))

printed-one : (s : Line) (c : ℕ) → printed s (c ∷ []) ≡ told_at s c
unfolding printed
printed-one s c = append-nil (told_at s c)

pub parts : Parts
parts s a b = (after-append s a b, printed-append s a b)

-- a line that has begun is told by a newline
pub last-part : (s : Line) → s.begun ≡ true → length (printed s (0x0a ∷ [])) ≡ length (printed s (ended s))
last-part s e = ap (λ b. length (printed s (cond b (0x0a ∷ []) []))) (sym e)

-- the number of a line is at most as many more as there were characters
number_stepped : (s : Line) (c : ℕ) → (stepped s c).number ≤ s.number + 1
unfolding stepped begin read
number_stepped s c = cond_elim (λ (x : Line). x.number ≤ s.number + 1) (eqb c 10) (λ e. omega arith) (λ e. omega arith)

pub number_after : (s : Line) (cs : List ℕ) → (after s cs).number ≤ s.number + length cs
unfolding after
number_after s [] = omega arith
number_after s (c ∷ cs) = omega (arith, number_after (stepped s c) cs, number_stepped s c)

-- nor is more printed than a line for each
told-room : (s : Line) (c : ℕ) → length (told_at s c) ≤ longest_line
unfolding told_at
told-room s c = cond_elim (λ (l : List ℕ). length l ≤ longest_line) (eqb c 10) (λ e. line_room_lem s) (λ e. omega arith)

pub printed-room : (s : Line) (cs : List ℕ) → length (printed s cs) ≤ longest_line * length cs
unfolding printed
printed-room s [] = omega arith
printed-room s (c ∷ cs) = omega (arith, length-append (told_at s c) (printed (stepped s c) cs), told-room s c, printed-room (stepped s c) cs)

-- a loop that takes the characters one by one: where it stands
pub record Stands (first : Line) (bytes old : List ℕ) (k : ℕ) (s : Line) (at : ℕ) (b : List ℕ) : Type 0 where
  pub line : s ≡ after first (take k bytes)
  pub text : Wrote (printed first (take k bytes)) old at b

pub stands_first : (s : Line) (bytes old : List ℕ) (w : Wrote [] old 0 old) → Stands s bytes old 0 s 0 old
unfolding after printed
stands_first s bytes old w = record { line = refl; text = w }

module _ {first : Line} {bytes old : List ℕ} {k : ℕ} {s : Line} {at : ℕ} {b : List ℕ} (now : Stands first bytes old k s at b) where
  -- where it ends
  pub stands_last : length bytes ≤ k → (s ≡ after first bytes) × Wrote (printed first bytes) old at b
  stands_last h = let all = take_all k bytes h in (rw all at now.line, rw all at now.text)

  -- how far it has written
  pub stands_at : k ≤ length bytes → at ≤ longest_line * k
  stands_at h = omega (arith, now.text.count, printed-room first (take k bytes), length-take-le k bytes h)

  pub stands_length : k ≤ length bytes → longest_line * length bytes ≤ length old → length b ≡ length old
  stands_length h room = wrote_length now.text (omega (arith, now.text.count, stands_at h))

-- a turn of it
module _ {first : Line} {bytes old : List ℕ} {k : ℕ} {s : Line} {at : ℕ} {b : List ℕ} (now : Stands first bytes old k s at b) (l : k < length bytes) (room : longest_line * length bytes ≤ length old) where
  written : at ≤ longest_line * k
  written = stands_at now (omega arith)

  same : length b ≡ length old
  same = stands_length now (omega arith) room

  pub stands_inside : at ≤ length b
  stands_inside = omega (arith, written, same)

  pub stands_room : longest_line ≤ length (take (length b - at) (drop at b))
  stands_room = rw (take_all (length b - at) (drop at b) (omega (arith, length-drop at b))) (omega (arith, length-drop at b, written, same))

  pub stands_number : s.number ≤ first.number + k
  stands_number = rw now.line (omega (arith, number_after first (take k bytes), length-take-le k bytes (omega arith)))

  pub stands_turn : {s' : Line} {r : ℕ} {ys : List ℕ} → s' ≡ stepped s (get_or bytes k 0) → Wrote (told_at s (get_or bytes k 0)) (take (length b - at) (drop at b)) r ys → Stands first bytes old (k + 1) s' (at + r) (put_mid at (length b - at) b ys)
  unfolding after
  stands_turn {s'} {r} {ys} e w = record {
    line = e ∙ rw (now.line, add-one k, take-suc bytes k 0 l) (sym (after-append first (take k bytes) (get_or bytes k 0 ∷ [])));
    text = rw (add-one k, take-suc bytes k 0 l, printed-append, printed-one) (wrote_part now.text (rw now.line at w));
  }
