-- Frames computed: an example, and the order of the refusals.
use mathlib.Core.Path.{refl}
use Rattle.lists.specs.Entries.{up_to, over}
use Rattle.lists.specs.Test.{all_to}
use Rattle.frame.specs.Claims.{Example, Order}
use Rattle.frame.specs.Frame.{body, frame, stations_in, sender_in, counts_in}
use Rattle.frame.specs.Reading.{counts_of, reading}
use Rattle.frame.specs.Stamp.{stamp_frame, stamp_reading, stamp_writing}
use Rattle.frame.specs.StampClaims.{StampExample, StampReadOrder, StampWriteOrder}
use Rattle.frame.specs.Writing.{writing}

pub example : Example
unfolding body frame stations_in sender_in counts_in counts_of reading writing up_to over all_to
example = (refl, refl)

pub order : Order
unfolding body frame stations_in sender_in counts_in counts_of reading up_to over all_to
order = (refl, refl, refl, refl, refl, refl, refl)

pub stamp-example : StampExample
unfolding stamp_frame stations_in sender_in stamp_reading stamp_writing over
stamp-example = (refl, refl)

pub stamp-read_order : StampReadOrder
unfolding stations_in sender_in stamp_reading
stamp-read_order = (refl, refl, refl, refl, refl)

pub stamp-write_order : StampWriteOrder
unfolding stamp_frame stations_in sender_in stamp_writing over
stamp-write_order = (refl, refl, refl, refl)
