-- Try-outs computed: around the length of the listing after a command, refused, where nothing is set up, and unsound.
use Rattle.std.specs.Prelude.{◌≡◌, List, [], ◌∷◌, ◌++◌, ℕ, length, replicate}
use Rattle.text.specs.Quoted.{text}
use Rattle.election.specs.Rows.{set_up, start, crash, report}
use Rattle.election.specs.Schedule.{schedule}
use Rattle.election.specs.System.{fresh, at_tick}
use Rattle.election.specs.declared.System.{System}
use Rattle.dryrun.specs.DryRun.{Tried, tried}

-- a system, the command's bytes, a buffer of `room` dots; the refusal that must be answered, what is shown, and how many dots are left
pub record Row : Type 0 where
  pub system : System
  pub bytes : List ℕ
  pub room : ℕ
  pub refusal : ℕ
  pub shown : List ℕ
  pub left : ℕ

abbrev dots : ℕ → List ℕ
dots n = replicate n 46

abbrev pub answer : Row → Tried
answer r = record { refusal = r.refusal; written = length r.shown; buffer = r.shown ++ dots r.left; system = r.system }

abbrev pub Hold : List Row → Type 0
Hold [] = Unit {0}
Hold (r ∷ rows) = (tried r.system r.bytes (dots r.room) ≡ answer r) × Hold rows

-- two heads, the first of them started
abbrev one : System
one = (schedule (set_up 2 16 ++ start 1)).system

abbrev one_listed : List ℕ
one_listed =
    text "tick 0\n"
    ++ text "1 up leader 1 inc 1 rec 1,0 sent 0 kept 1\n"
    ++ text "2 down leader - inc 0 rec - sent 0 kept 2\n"
    ++ text "agreed 1\n"

abbrev crash_listed : List ℕ
crash_listed =
    text "tick 0\n"
    ++ text "1 down leader - inc 1 rec - sent 0 kept 1\n"
    ++ text "2 down leader - inc 0 rec - sent 0 kept 2\n"
    ++ text "dark\n"

abbrev fresh_listed : List ℕ
fresh_listed =
    text "tick 0\n"
    ++ text "1 down leader - inc 0 rec - sent 0 kept 1\n"
    ++ text "2 down leader - inc 0 rec - sent 0 kept 2\n"
    ++ text "dark\n"

abbrev pub rows : List Row
rows =
    record { system = one; bytes = crash 1; room = 100; refusal = 0; shown = crash_listed; left = 4 }
    ∷ record { system = one; bytes = crash 1; room = 96; refusal = 0; shown = crash_listed; left = 0 }
    ∷ record { system = one; bytes = crash 1; room = 95; refusal = 16; shown = []; left = 95 }
    -- refused, the listing as it was
    ∷ record { system = one; bytes = crash 2; room = 101; refusal = 9; shown = one_listed; left = 1 }
    ∷ record { system = one; bytes = crash 2; room = 99; refusal = 9; shown = []; left = 99 }
    -- nothing is set up, before the command or after it
    ∷ record { system = fresh; bytes = set_up 2 16; room = 97; refusal = 0; shown = fresh_listed; left = 1 }
    ∷ record { system = fresh; bytes = report; room = 97; refusal = 3; shown = []; left = 97 }
    ∷ record { system = fresh; bytes = []; room = 97; refusal = 2; shown = []; left = 97 }
    -- unsound: the tick is past the last one
    ∷ record { system = at_tick 1000001 one; bytes = crash 1; room = 100; refusal = 15; shown = []; left = 100 }
    ∷ []

abbrev pub TriedOut : Type 0
TriedOut = Hold rows
