-- A line as far as it is read, character by character: what the program keeps of it, and what it prints at its end.
use Rattle.std.specs.Prelude.{List, [], ◌∷◌, ◌++◌, Bool, true, false, cond, not, ◌&&◌, ◌||◌, ℕ, ◌+◌, ◌*◌, Option, Some, None, is_some, length, ltb, eqb}
use Rattle.std.specs.Option.{unwrap_or}
use Rattle.frame.specs.Frame.{frame_size}
use Rattle.text.specs.Hex.{Spelled, is_blank, digit_of, is_digit}
use Rattle.frames.specs.Explained.{line_text}

-- how many bytes of a line are kept: one more than the longest frame has, so that a longer line is not taken for it
abbrev pub kept : ℕ
kept = frame_size 8 + 1

-- a line as far as it is read: its number, from 1; whether it has a character; whether it is hex; the first digit of a byte, while it waits for the second; and
-- the first bytes
pub record Line : Type 0 where
  pub number : ℕ
  pub begun : Bool
  pub hex : Bool
  pub high : Option ℕ
  pub bytes : List ℕ

-- line k before its first character
unfoldable pub begin : ℕ → Line
begin k = record { number = k; begun = false; hex = true; high = None; bytes = [] }

-- the line and one character more
unfoldable pub read : Line → ℕ → Line
read s c =
    let waits : Bool = is_some s.high in
    let more : Bool = is_digit c && waits && ltb (length s.bytes) kept in
    record {
      number = s.number;
      begun = true;
      hex = s.hex && (is_digit c || (is_blank c && not waits));
      high = cond (is_digit c && not waits) (Some (digit_of c)) None;
      bytes = cond more (s.bytes ++ ((16 * unwrap_or s.high 0 + digit_of c) ∷ [])) s.bytes;
    }

-- what it spells if it ends here
abbrev pub spells : Line → Spelled
spells s = record { hex = s.hex && not (is_some s.high); bytes = s.bytes }

abbrev pub told : Line → List ℕ
told s = line_text s.number (spells s)

-- room that is enough for it
abbrev pub longest_line : ℕ
longest_line = 256

-- a newline ends the line, which is told, and begins the next
unfoldable pub stepped : Line → ℕ → Line
stepped s c = cond (eqb c 10) (begin (s.number + 1)) (read s c)

unfoldable pub told_at : Line → ℕ → List ℕ
told_at s c = cond (eqb c 10) (told s) []

-- the line that some bytes leave, and what is printed for them
unfoldable pub after : Line → List ℕ → Line
after s [] = s
after s (c ∷ cs) = after (stepped s c) cs

unfoldable pub printed : Line → List ℕ → List ℕ
printed s [] = []
printed s (c ∷ cs) = told_at s c ++ printed (stepped s c) cs
