-- A text that is read from its beginning to its end is explained line by line.
use mathlib.Core.Path.{◌≡◌, refl, sym, ap, ◌∙◌}
use mathlib.Core.List.{List, [], ◌∷◌, ◌++◌, append-nil, append_assoc}
use mathlib.Core.Bool.{Bool, true, false, cond}
use Prim.Native.Nat.{ℕ, ◌+◌}
use lib.Dec.{eqb}
use Rattle.frames.specs.Claims.{ended, Whole}
use Rattle.frames.specs.Explained.{line_text, lines_from, explained, output}
use Rattle.text.specs.Hex.{spelled}
use Rattle.frames.specs.Line.{begin, read, told, stepped, told_at, after, printed}
use Rattle.frames.specs.Line.{Line}
use Rattle.frames.proofs.Kept.{read_all, whole-line}

read-snoc : (s : Line) (cs : List ℕ) (c : ℕ) → read_all s (cs ++ (c ∷ [])) ≡ read (read_all s cs) c
unfolding read_all
read-snoc s [] c = refl
read-snoc s (d ∷ cs) c = read-snoc (read s d) cs c

-- reading characters keeps the number, and begins the line
read_number : (s : Line) (cs : List ℕ) → (read_all s cs).number ≡ s.number
unfolding read_all read
read_number s [] = refl
read_number s (c ∷ cs) = read_number (read s c) cs

read-begun : (s : Line) (cs : List ℕ) → s.begun ≡ true → (read_all s cs).begun ≡ true
unfolding read_all read
read-begun s [] e = e
read-begun s (c ∷ cs) e = read-begun (read s c) cs refl

-- all that is printed from a line on
abbrev all : Line → List ℕ → List ℕ
all s cs = printed s cs ++ printed (after s cs) (ended (after s cs))

all_next : (s : Line) (c : ℕ) (cs : List ℕ) → all s (c ∷ cs) ≡ told_at s c ++ all (stepped s c) cs
unfolding after printed
all_next s c cs = append_assoc (told_at s c) (printed (stepped s c) cs) _

all_end : (s : Line) → s.begun ≡ true → all s [] ≡ told s
unfolding after printed told_at
all_end s e = rw e (append-nil (told s))

-- a newline, and another character
ends : (s : Line) (c : ℕ) (cs : List ℕ) → eqb c 10 ≡ true → told_at s c ++ all (stepped s c) cs ≡ told s ++ all (begin (s.number + 1)) cs
unfolding told_at stepped
ends s c cs e = rw e

goes_on : (s : Line) (c : ℕ) (cs : List ℕ) → eqb c 10 ≡ false → told_at s c ++ all (stepped s c) cs ≡ all (read s c) cs
unfolding told_at stepped
goes_on s c cs e = rw e

goes : (k : ℕ) (line cs : List ℕ) → all (read_all (begin k) line) cs ≡ explained k (lines_from line cs)
unfolding begin read read_all after printed lines_from explained
goes k [] [] = refl
goes k (b ∷ line) [] =
    all_end (read_all (begin k) (b ∷ line)) (read-begun (read (begin k) b) line refl) ∙ whole-line k (b ∷ line) ∙ sym (append-nil (line_text k (spelled (b ∷ line))))
goes k line (c ∷ cs) = all_next s c cs ∙ go (eqb c 10) refl (goes (k + 1) [] cs) (goes k (line ++ (c ∷ [])) cs)
  where
    s : Line
    s = read_all (begin k) line

    go :
        (b : Bool) → eqb c 10 ≡ b → all (read_all (begin (k + 1)) []) cs ≡ explained (k + 1) (lines_from [] cs) → all (read_all (begin k) (line ++ (c ∷ []))) cs ≡ explained k (lines_from (line ++ (c ∷ [])) cs)
        → told_at s c ++ all (stepped s c) cs ≡ explained k (cond b (line ∷ lines_from [] cs) (lines_from (line ++ (c ∷ [])) cs))
    go true e next more =
        ends s c cs e
        ∙ ap (λ n. told s ++ all (begin (n + 1)) cs) (read_number (begin k) line)
        ∙ ap (λ l. l ++ all (begin (k + 1)) cs) (whole-line k line)
        ∙ ap (λ l. line_text k (spelled line) ++ l) next
    go false e next more = goes_on s c cs e ∙ ap (λ x. all x cs) (sym (read-snoc (begin k) line c)) ∙ more

pub whole : Whole
unfolding output read_all
whole input = goes 1 [] input
