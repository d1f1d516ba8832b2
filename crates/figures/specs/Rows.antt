-- Figures and bounds computed: two heads up after a crash, a leader by its rank, and no head up.
use Rattle.std.specs.Prelude.{◌≡◌, List, ◌++◌, ℕ}
use Rattle.election.specs.Rows.{set_up, start, crash, link, run, rank}
use Rattle.election.specs.Schedule.{schedule}
use Rattle.settling.specs.Settling.{bound}
use Rattle.figures.specs.Figures.{Figured}
use Rattle.figures.specs.declared.Figures.{Figures}

-- a schedule is accepted, and of the system that it reaches these are the figures, and this is the bound for d
pub record Row (bytes : List ℕ) (f : Figures) (d limit : ℕ) : Type 0 where
  pub accepted : (schedule bytes).refusal ≡ 0
  pub figured : Figured (schedule bytes).system f
  pub bounded : bound d (schedule bytes).system ≡ limit

-- station 3 starts last and waits, and station 1 crashes: 2 is the first of 2 and 3
abbrev pub after_crash : List ℕ
after_crash = set_up 3 16 ++ link 2 1 64 ++ start 1 ++ start 2 ++ run 20 ++ start 3 ++ link 1 2 3 ++ link 1 3 3 ++ run 13 ++ crash 1

abbrev pub AfterCrash : Type 0
AfterCrash = Row after_crash (record { wait = 4; timeout = 17; period = 16; heads = 2; leader = 2 }) 3 47

-- two stations that start at once, 1 with rank 1: 2 is the first
abbrev pub ByRank : Type 0
ByRank = Row (set_up 2 16 ++ rank 1 1 ++ start 1 ++ start 2) (record { wait = 17; timeout = 17; period = 16; heads = 2; leader = 2 }) 1 53

-- no station is up: 3 d and the period are left
abbrev pub NoneUp : Type 0
NoneUp = Row (set_up 2 16) (record { wait = 0; timeout = 0; period = 16; heads = 0; leader = 0 }) 3 25
