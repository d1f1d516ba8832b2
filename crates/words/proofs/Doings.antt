-- The words of a command that is taken are those of the definitions' command.
use mathlib.Core.Path.{◌≡◌, ap}
use Rattle.election.specs.Commands.{Command}
use Rattle.decision.specs.Decided.{Taken, command_of}
use Rattle.decision.specs.declared.Command as declared
use Rattle.words.specs.Doings.{doing, doing_of}

pub worded : (d : declared.Command) (c : Command) → Taken (command_of d) ≡ Taken c → doing_of d ≡ doing c
worded d c e = let s : command_of d ≡ c = cc in ap doing s
