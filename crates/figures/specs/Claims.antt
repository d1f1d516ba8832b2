-- What is claimed of figures, and of the leader of a system that a schedule reaches; the theorems are in proofs/.
use Rattle.std.specs.Prelude.{◌≡◌, ◌↔◌, ◌≢◌, false, List, ℕ}
use Rattle.election.specs.History.{commands}
use Rattle.election.specs.Schedule.{schedule}
use Rattle.election.specs.declared.System.{System}
use Rattle.settling.specs.Settling.{First, Quiet, bound, Settles}
use Rattle.figures.specs.Figures.{FirstUp, Figured}
use Rattle.figures.specs.Pieces.{bound_of}
use Rattle.figures.specs.declared.Figures.{Figures}

-- the bound from the figures of a system is its bound
abbrev pub BoundFromFigures : Type 0
BoundFromFigures = (d : ℕ) (s : System) (f : Figures) → Figured s f → bound_of d f ≡ bound d s

-- after an accepted schedule of flash heads the first of the up heads is the leader of demand 3
abbrev pub LeaderOfSchedule : Type 0
LeaderOfSchedule =
    (bytes : List ℕ) (L : ℕ) → (schedule bytes).refusal ≡ 0 → (schedule bytes).system.clock ≡ false
    → FirstUp (schedule bytes).system L ↔ First (schedule bytes).system.n (commands bytes) L

-- and demand 3 holds of it
abbrev pub Promised : Type 0
Promised =
    (bytes : List ℕ) (stretch : List (List ℕ)) (d L : ℕ) → (schedule bytes).refusal ≡ 0 → (schedule bytes).system.clock ≡ false
    → FirstUp (schedule bytes).system L → Quiet d stretch (schedule bytes).system → Settles d L stretch (schedule bytes).system

-- so of the figures of a system with a head up: no more ticks than its bound end divided from their leader, and in all others no head but it sends
abbrev pub FiguresHold : Type 0
FiguresHold =
    (bytes : List ℕ) (stretch : List (List ℕ)) (d : ℕ) (f : Figures) → (schedule bytes).refusal ≡ 0 → (schedule bytes).system.clock ≡ false
    → Figured (schedule bytes).system f → f.heads ≢ 0 → Quiet d stretch (schedule bytes).system → Settles d f.leader stretch (schedule bytes).system
