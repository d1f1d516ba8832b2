-- The rows of texts are as they stand there.
use mathlib.Core.Path.{refl}
use Rattle.text.specs.Hex.{is_blank}
use Rattle.text.specs.Quoted.{text}
use Rattle.script.specs.Assembled.{of_words, of_line, of_lines}
use Rattle.script.specs.AssembledRows.{EachEntry, Blanks, Empty, LongRun, Wrongs, Short, Holding}
use Rattle.script.specs.Decimals.{is_number, value_from, numbers}
use Rattle.script.specs.Encoded.{encode, encode_all}
use Rattle.script.specs.Entries.{runs, same, begins, first_from}
use Rattle.script.specs.Places.{holding_from}
use Rattle.script.specs.Split.{lines, goes_on, words, inside, lead}

pub rows : EachEntry × Blanks × Empty × LongRun × Wrongs × Short × Holding
unfolding is_blank text of_words of_line of_lines is_number value_from numbers encode encode_all runs same begins first_from lines goes_on words inside lead holding_from
rows = (
  refl,
  refl,
  (refl, refl),
  (refl, refl),
  (refl, refl, refl, refl, refl, refl, refl, refl, refl, refl, refl, refl, refl, refl, refl, refl, refl),
  (refl, refl),
  (refl, refl, refl, refl, refl, refl),
)
