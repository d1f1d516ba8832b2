-- What an accepted command does, in words.
use Rattle.std.specs.Prelude.{List, [], ◌++◌, Bool, cond, ℕ, eqb, Result, Ok, Err}
use Rattle.text.specs.Numbers.{named, pair}
use Rattle.text.specs.Quoted.{text}
use Rattle.election.specs.Commands.{Command, SetUp, Start, Crash, Link, Run, Lose, Report, Rank}
use Rattle.election.specs.declared.Refusal.{Refusal}
use Rattle.decision.specs.Decided.{command_of}
use Rattle.decision.specs.declared.Command as declared

-- set up of either kind of head
unfoldable pub setting_up : Bool → ℕ → ℕ → List ℕ
setting_up clock n period =
    pair (cond clock (text "set up heads with a running clock, stations ") (text "set up heads with flash, stations ")) n (text ", period ") period

-- delay 0 is a cut link
unfoldable pub linking : ℕ → ℕ → ℕ → List ℕ
linking p q d =
    cond (eqb d 0) (pair (text "cut the link from ") p (text " to ") q)
    (pair (text "set the link from ") p (text " to ") q ++ named (text ", delay ") d)

unfoldable pub doing : Command → List ℕ
doing (SetUp clock n period) = setting_up clock n period
doing (Start p) = named (text "start station ") p
doing (Crash p) = named (text "crash station ") p
doing (Link p q d) = linking p q d
doing (Run t) = named (text "run, ticks ") t
doing (Lose p q) = pair (text "lose what is under way from ") p (text " to ") q
doing Report = text "report, which changes nothing"
doing (Rank p r) = pair (text "give station ") p (text " the rank ") r

-- the same of a command of the code's
abbrev pub doing_of : declared.Command → List ℕ
doing_of c = doing (command_of c)

-- and of a command that was decided on; one that is turned down does nothing
abbrev pub decided_doing : Result declared.Command Refusal → List ℕ
decided_doing (Ok c) = doing_of c
decided_doing (Err why) = []
