-- Schedules as text, computed.
use mathlib.Core.Path.{refl}
use lib.ListN.{length}
use borrow.Author.Tests.{lt-ltb}
use Rattle.lists.specs.Entries.{over}
use Rattle.text.specs.Numbers.{digits}
use Rattle.text.specs.Quoted.{text}
use Rattle.election.specs.Commands.{decode}
use Rattle.election.specs.Schedule.{most_bytes}
use Rattle.script.specs.Shown.{entry_of, numbers_of, spaced, written, line_of, showing, shown_text, shown}
use Rattle.script.specs.ShownRows.{Lines, Empty, NoByte, Missing, Idle, Short, Long, Buffers}

pub rows : Lines × Empty × NoByte × Missing × Idle × Short × Buffers
unfolding over digits text decode entry_of numbers_of spaced written line_of showing shown_text shown
rows = (refl, refl, (refl, refl), (refl, refl), (refl, refl), (refl, refl), (refl, refl))

pub long : Long
unfolding shown_text
long room bytes h = rw (lt-ltb most_bytes (length bytes) h)
