-- Hex text: two digits for each byte, which stand together, and any blanks around bytes.
use Rattle.std.specs.Prelude.{List, [], ◌∷◌, Bool, true, false, cond, ◌&&◌, ◌||◌, ℕ, ◌+◌, ◌*◌, ◌-◌, ◌/◌, ◌%◌, Option, Some, None, take, leb, ltb, eqb}

-- a space, a tab or a carriage return
unfoldable pub is_blank : ℕ → Bool
is_blank c = eqb c 32 || eqb c 9 || eqb c 13

-- the value of a digit, in either case; 16 for any other character
unfoldable pub digit_of : ℕ → ℕ
digit_of c =
    cond (leb 48 c && leb c 57) (c - 48)
    (cond (leb 65 c && leb c 70) (c - 55)
    (cond (leb 97 c && leb c 102) (c - 87) 16))

abbrev pub is_digit : ℕ → Bool
is_digit c = ltb (digit_of c) 16

-- what a line spells: whether it is hex, and the bytes, none where it is not
pub record Spelled : Type 0 where
  pub hex : Bool
  pub bytes : List ℕ

abbrev pub no_hex : Spelled
no_hex = record { hex = false; bytes = [] }

-- a byte before what the rest spells
abbrev pub with_first : ℕ → Spelled → Spelled
with_first b s = record { hex = s.hex; bytes = cond s.hex (b ∷ s.bytes) [] }

unfoldable pub spelled : List ℕ → Spelled
spelled [] = record { hex = true; bytes = [] }
spelled (c ∷ []) = cond (is_blank c) (record { hex = true; bytes = [] }) no_hex
spelled (c ∷ d ∷ line) =
    let rest : Spelled = spelled line in
    cond (is_blank c) (spelled (d ∷ line)) (cond (is_digit c && is_digit d) (with_first (16 * digit_of c + digit_of d) rest) no_hex)

-- what a reader answers, with the buffer that it read into: so many bytes at its front, or no hex
abbrev pub read : Option ℕ → List ℕ → Spelled
read (Some size) buffer = record { hex = true; bytes = take size buffer }
read None buffer = no_hex

-- bytes as hex text, in lower case
unfoldable pub digit : ℕ → ℕ
digit d = cond (ltb d 10) (48 + d) (87 + d)

unfoldable pub hex_of : List ℕ → List ℕ
hex_of [] = []
hex_of (b ∷ bytes) = digit (b / 16) ∷ digit (b % 16) ∷ hex_of bytes

-- and with a space before each
unfoldable pub spaced : List ℕ → List ℕ
spaced [] = []
spaced (b ∷ bytes) = 32 ∷ digit (b / 16) ∷ digit (b % 16) ∷ spaced bytes
