-- What is printed for captures, computed.
use mathlib.Core.Path.{refl}
use Rattle.lists.specs.Entries.{up_to, over}
use Rattle.lists.specs.Join.{join_to}
use Rattle.lists.specs.Test.{all_to, some_to}
use Rattle.text.specs.Numbers.{digits, count_of, vector}
use Rattle.text.specs.Quoted.{text}
use Rattle.frame.specs.Frame.{is_length, stations_in, sender_in, counts_in}
use Rattle.frame.specs.Reading.{counts_of, reading}
use Rattle.frame.specs.Stamp.{stamp_reading}
use Rattle.frames.specs.Explained.{own_count, reason, counted, received, answered, stamp_reason, stamped, stamp_answered, frame_text, found, line_text, lines_from, explained, output}
use Rattle.text.specs.Hex.{is_blank, digit_of, spelled}
use Rattle.frames.specs.Rows.{Kinds}

pub kinds : Kinds
unfolding text digits count_of vector join_to up_to over all_to some_to stations_in sender_in counts_in counts_of reading stamp_reading is_blank digit_of spelled is_length own_count reason counted received answered stamp_reason stamped stamp_answered frame_text found line_text lines_from explained output
kinds = refl
