-- What is said, computed.
use mathlib.Core.Path.{refl}
use Rattle.text.specs.Hex.{is_blank}
use Rattle.text.specs.Numbers.{digits}
use Rattle.text.specs.Quoted.{text}
use Rattle.election.proofs.Opened.{rules}
use Rattle.words.specs.Reasons.{reason, refused}
use Rattle.script.specs.Assembled.{of_words, of_line, of_lines}
use Rattle.script.specs.Decimals.{is_number, value_from, numbers as numbersIn}
use Rattle.script.specs.Encoded.{encode, encode_all}
use Rattle.script.specs.Entries.{same, begins, first_from}
use Rattle.script.specs.Places.{holding_from}
use Rattle.script.specs.Shown.{entry_of, numbers_of, spaced, written, line_of}
use Rattle.script.specs.Split.{lines, goes_on, words, inside, lead}
use Rattle.desk.specs.Figure.{waits, heads, bound_line, numbers, conditions, promise, quoted, no_table, clock_table, none_up, figure_of}
use Rattle.desk.specs.Rows.{WrongLines, NoTexts, Quoted, Unquoted, Refused}
use Rattle.desk.specs.Said.{reading}
use Rattle.desk.specs.Wording.{wrongness, wrong_line, textless, no_text, held_in, refused_in, ending}

pub wrong_lines : WrongLines
unfolding digits text wrongness wrong_line
wrong_lines = (refl, refl, refl, refl, refl, refl)

pub no_texts : NoTexts
unfolding digits text textless no_text
no_texts = (refl, refl)

pub quoted-so : Quoted
unfolding digits text waits heads bound_line numbers conditions promise quoted figure_of
quoted-so = refl

pub unquoted_so : Unquoted
unfolding text no_table clock_table none_up figure_of
unquoted_so d s f = (λ ready. rw ready, λ ready clock. rw (ready, clock), λ ready clock none. rw (ready, clock, none))

pub refused-so : Refused
unfolding is_blank digits text rules reason refused of_words of_line of_lines is_number value_from numbersIn encode encode_all same begins first_from holding_from entry_of numbers_of spaced written line_of lines goes_on words inside lead reading held_in refused_in ending
refused-so = (refl, refl)
