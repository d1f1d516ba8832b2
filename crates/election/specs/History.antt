-- The accepted commands of a schedule: the system that they reach, a head's starts, whether it is up, and its rank.
use Rattle.std.specs.Prelude.{List, [], ◌∷◌, Bool, true, false, cond, ℕ, zero, suc, ◌+◌, length, drop, eqb}
use Rattle.election.specs.Commands.{Command, SetUp, Start, Crash, Link, Run, Lose, Report, Rank, decode, operands, ruling, perform}
use Rattle.election.specs.System.{fresh}
use Rattle.election.specs.declared.System.{System}

-- whether the rules accept the first command of the bytes, and the system that they give
abbrev pub accepted : System → List ℕ → Bool
accepted s bytes = eqb (ruling s bytes) 0

unfoldable pub after : System → List ℕ → System
after s bytes = cond (accepted s bytes) (perform (decode bytes) s) s

-- the accepted commands of a schedule, in order
unfoldable pub history : ℕ → System → List ℕ → List Command
history zero s bytes = []
history (suc fuel) s [] = []
history (suc fuel) s (b ∷ bytes) =
    let c : Command = decode (b ∷ bytes) in
    elim (accepted s (b ∷ bytes)) [
      | true ↦ c ∷ history fuel (perform c s) (drop (1 + operands c) (b ∷ bytes))
      | false ↦ []
    ]

abbrev pub commands : List ℕ → List Command
commands bytes = history (length bytes) fresh bytes

-- a head's starts are its accepted starts so far
unfoldable pub starts : ℕ → List Command → ℕ
starts p [] = 0
starts p (SetUp clock n period ∷ cs) = starts p cs
starts p (Start q ∷ cs) = cond (eqb q p) (suc (starts p cs)) (starts p cs)
starts p (Crash q ∷ cs) = starts p cs
starts p (Link a b d ∷ cs) = starts p cs
starts p (Run t ∷ cs) = starts p cs
starts p (Lose a b ∷ cs) = starts p cs
starts p (Report ∷ cs) = starts p cs
starts p (Rank q r ∷ cs) = starts p cs

-- it is up if the latest accepted of its starts and crashes is a start; u is whether it was up before
unfoldable pub is_up_after : Bool → ℕ → List Command → Bool
is_up_after u p [] = u
is_up_after u p (SetUp clock n period ∷ cs) = is_up_after u p cs
is_up_after u p (Start q ∷ cs) = is_up_after (cond (eqb q p) true u) p cs
is_up_after u p (Crash q ∷ cs) = is_up_after (cond (eqb q p) false u) p cs
is_up_after u p (Link a b d ∷ cs) = is_up_after u p cs
is_up_after u p (Run t ∷ cs) = is_up_after u p cs
is_up_after u p (Lose a b ∷ cs) = is_up_after u p cs
is_up_after u p (Report ∷ cs) = is_up_after u p cs
is_up_after u p (Rank q r ∷ cs) = is_up_after u p cs

-- its rank is 0 from set up on, then the latest accepted one; r is the rank that it had before
unfoldable pub rank_of : ℕ → ℕ → List Command → ℕ
rank_of r p [] = r
rank_of r p (SetUp clock n period ∷ cs) = rank_of 0 p cs
rank_of r p (Start q ∷ cs) = rank_of r p cs
rank_of r p (Crash q ∷ cs) = rank_of r p cs
rank_of r p (Link a b d ∷ cs) = rank_of r p cs
rank_of r p (Run t ∷ cs) = rank_of r p cs
rank_of r p (Lose a b ∷ cs) = rank_of r p cs
rank_of r p (Report ∷ cs) = rank_of r p cs
rank_of r p (Rank q x ∷ cs) = rank_of (cond (eqb q p) x r) p cs

-- the system that the rules give for a list of accepted commands
unfoldable pub reached : List Command → System → System
reached [] s = s
reached (c ∷ cs) s = reached cs (perform c s)
