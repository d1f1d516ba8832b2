-- A text in lines, and a line in words.
use Rattle.std.specs.Prelude.{List, [], ◌∷◌, Bool, false, cond, not, ℕ, eqb}
use Rattle.text.specs.Hex.{is_blank}
use Rattle.script.specs.declared.rules.words.Part.{Part}
use Rattle.script.specs.declared.rules.words.Part.TheVariants.{Blanks, Word, Uncommented, Line}

-- a character before the first of some pieces
abbrev pub onto : ℕ → List (List ℕ) → List (List ℕ)
onto c [] = (c ∷ []) ∷ []
onto c (p ∷ ps) = (c ∷ p) ∷ ps

-- the lines of a text: each ends with a newline, and the last may do without one
unfoldable pub lines : List ℕ → List (List ℕ)
lines [] = []
lines (c ∷ cs) = cond (eqb c 10) ([] ∷ lines cs) (onto c (lines cs))

-- whether a text goes on with a character that is no blank
unfoldable pub goes_on : List ℕ → Bool
goes_on [] = false
goes_on (c ∷ cs) = not (is_blank c)

-- the words of a line, with blanks between them
unfoldable pub words : List ℕ → List (List ℕ)
words [] = []
words (c ∷ cs) = cond (is_blank c) (words cs) (cond (goes_on cs) (onto c (words cs)) ((c ∷ []) ∷ words cs))

-- which characters a part of a text is made of: the blanks before a word; a word; what stands before a comment, which # begins; a line
unfoldable pub inside : Part → ℕ → Bool
inside Blanks c = is_blank c
inside Word c = not (is_blank c)
inside Uncommented c = not (eqb c 35)
inside Line c = not (eqb c 10)

-- the first characters of a text, as long as they pass a test, and what is left behind them
unfoldable pub lead : (ℕ → Bool) → List ℕ → List ℕ
lead t [] = []
lead t (c ∷ cs) = cond (t c) (c ∷ lead t cs) []

unfoldable pub rest : (ℕ → Bool) → List ℕ → List ℕ
rest t [] = []
rest t (c ∷ cs) = cond (t c) (rest t cs) (c ∷ cs)
