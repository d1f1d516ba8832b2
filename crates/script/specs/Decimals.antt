-- Decimal numbers as words, and the numbers that stand behind the words of a command.
use Rattle.std.specs.Prelude.{List, [], ◌∷◌, Bool, true, cond, ◌&&◌, ℕ, zero, suc, ◌+◌, ◌*◌, ◌-◌, leb, get_or, Option, Some, None, Result, Ok, Err}
use Rattle.fit.specs.Fit.{within}
use Rattle.script.specs.declared.Why.{Why}
use Rattle.script.specs.declared.Why.TheVariants.{UnknownWord, NumberMissing, TooManyWords, NumberRange}

-- every character is a decimal digit
unfoldable pub is_number : List ℕ → Bool
is_number [] = true
is_number (c ∷ cs) = within 48 c 57 && is_number cs

-- the number that the digits spell, with v spelled before them
unfoldable pub value_from : ℕ → List ℕ → ℕ
value_from v [] = v
value_from v (c ∷ cs) = value_from (10 * v + (c - 48)) cs

abbrev pub value_of : List ℕ → ℕ
value_of word = value_from 0 word

-- a number before others; the third of them is lost, and no command has four
abbrev pub shift : ℕ → Result (List ℕ) Why → Result (List ℕ) Why
shift v (Ok xs) = Ok (v ∷ get_or xs 0 0 ∷ get_or xs 1 0 ∷ [])
shift v (Err why) = Err why

-- so many numbers in a range, and no word more; 0 stands for those that aren't asked for. What is wrong is told of the first word that is.
unfoldable pub numbers : ℕ → ℕ → ℕ → List (List ℕ) → Result (List ℕ) Why
numbers zero least most [] = Ok (0 ∷ 0 ∷ 0 ∷ [])
numbers zero least most (w ∷ ws) = Err TooManyWords
numbers (suc k) least most [] = Err NumberMissing
numbers (suc k) least most (w ∷ ws) =
    cond (is_number w) (cond (within least (value_of w) most) (shift (value_of w) (numbers k least most ws)) (Err NumberRange)) (Err UnknownWord)

-- a number, as far as it matters: no place takes more than 1,000,000
abbrev pub capped : ℕ → ℕ
capped x = cond (leb x 1000000) x 1000001

-- the number that a word spells, if it is one
unfoldable pub valued : List ℕ → Option ℕ
valued word = cond (is_number word) (Some (capped (value_of word))) None
