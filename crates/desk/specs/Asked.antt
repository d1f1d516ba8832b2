-- What the arguments ask for.
use Rattle.std.specs.Prelude.{List, [], ◌∷◌, cond, ℕ, get_or, Option, Some, None, Result, Ok, Err}
use Rattle.text.specs.Quoted.{text}
use Rattle.script.specs.Decimals.{numbers}
use Rattle.script.specs.Entries.{same}
use Rattle.script.specs.Split.{words}
use Rattle.script.specs.declared.Why.{Why}
use Rattle.desk.specs.declared.asked.Mode.{Mode}
use Rattle.desk.specs.declared.asked.Mode.TheVariants.{Rehearse, Bytes, Text, Figure}

-- a delay, for the figure
abbrev pub delay_of : Result (List ℕ) Why → Option Mode
delay_of (Ok xs) = Some (Figure (get_or xs 0 0))
delay_of (Err why) = None

-- by the first word: none rehearses; the others have no word behind them, but for figure, which has a delay of 1 to 255
abbrev pub alone : List (List ℕ) → Mode → Option Mode
alone [] mode = Some mode
alone (w ∷ ws) mode = None

unfoldable pub of_words : List (List ℕ) → Option Mode
of_words [] = Some Rehearse
of_words (w ∷ ws) =
    cond (same (text "bytes") w) (alone ws Bytes)
    (cond (same (text "text") w) (alone ws Text)
    (cond (same (text "figure") w) (delay_of (numbers 1 1 255 ws))
    None))

-- a line: the arguments, with blanks between them
unfoldable pub asking : List ℕ → Option Mode
asking line = of_words (words line)
