-- Where in a text a byte of its schedule comes from.
use Rattle.std.specs.Prelude.{List, [], ◌∷◌, cond, ℕ, ◌+◌, ltb, length}
use Rattle.script.specs.Assembled.{commands_of, of_line}
use Rattle.script.specs.Encoded.{encode_all}
use Rattle.script.specs.Split.{lines}

-- of the lines from line k on, with so many bytes before them, the number of the one whose bytes hold an offset, 0 where none does
unfoldable pub holding_from : ℕ → ℕ → ℕ → List (List ℕ) → ℕ
holding_from k size offset [] = 0
holding_from k size offset (l ∷ ls) =
    let all : ℕ = size + length (encode_all (commands_of (of_line l))) in
    cond (ltb offset all) k (holding_from (k + 1) all offset ls)

abbrev pub line_holding : List ℕ → ℕ → ℕ
line_holding text offset = holding_from 1 0 offset (lines text)
