-- What is said, computed.
use mathlib.Core.Path.{refl}
use Rattle.text.specs.Hex.{digit, spaced}
use Rattle.election.proofs.Opened.{listings}
use Rattle.words.specs.Doings.{setting_up, linking, doing}
use Rattle.words.specs.Reasons.{reason, refused}
use Rattle.tryout.specs.Rows.{Accepted, Refused, Fresh, TurnedDown}
use Rattle.tryout.specs.Told.{table, before, after, heading, would, answered, command_line, told, because, turned_down, said}

pub rows : Accepted × Refused × Fresh × TurnedDown
unfolding listings digit spaced setting_up linking doing reason refused table before after heading would answered command_line told because turned_down said
rows = (refl, refl, refl, refl)
