-- The figure to quote: the numbers of demand 3 after a schedule, and what they promise.
use Rattle.std.specs.Prelude.{List, ◌++◌, Bool, cond, not, ℕ, eqb}
use Rattle.text.specs.Numbers.{named, pair}
use Rattle.text.specs.Quoted.{text}
use Rattle.election.specs.declared.System.{System}
use Rattle.settling.specs.Settling.{bound}
use Rattle.figures.specs.declared.Figures.{Figures}

-- W, M and B, each with what it is; what B is stands before k, and what L is before the bound
unfoldable pub waits : Figures → List ℕ
waits f = pair (text "W ") f.wait (text ", the longest start-up wait left\nM ") f.timeout ++ named (text ", the longest timeout\nB ") f.period

unfoldable pub heads : Figures → List ℕ
heads f = pair (text ", the period\nk ") f.heads (text ", the heads that are up\nL ") f.leader

unfoldable pub bound_line : ℕ → List ℕ
bound_line most = named (text ", the first of them by starts, rank and number\nbound ") most ++ text " ticks\n"

-- all of them, a line for each
unfoldable pub numbers : Figures → ℕ → List ℕ
numbers f most = waits f ++ heads f ++ bound_line most

-- under which conditions
unfoldable pub conditions : ℕ → ℕ → List ℕ
conditions d most =
    pair (text "As long as no head starts or crashes, no message between heads that are up is lost or cut, and each message to one of them, under way or sent later, takes at most ") d
    (text " ticks more, at most ") most

-- what is promised
unfoldable pub promise : ℕ → List ℕ
promise leader = pair (text " ticks from here on end with a head that is up not trusting station ") leader (text ", and in all others no head but station ") leader ++ text " sends.\n"

unfoldable pub quoted : ℕ → Figures → ℕ → List ℕ
quoted d f most = numbers f most ++ conditions d most ++ promise f.leader

-- where there is none
unfoldable pub no_table : List ℕ
no_table = text "nothing is set up\n"

unfoldable pub clock_table : List ℕ
clock_table = text "the heads have a running clock, and the bound is for heads with flash\n"

unfoldable pub none_up : List ℕ
none_up = text "no head is up\n"

-- the figure of a system, from its figures and its bound
unfoldable pub figure_of : ℕ → Bool → Bool → Figures → ℕ → List ℕ
figure_of d ready clock f most = cond (not ready) no_table (cond clock clock_table (cond (eqb f.heads 0) none_up (quoted d f most)))

abbrev pub figure : ℕ → System → Figures → List ℕ
figure d s f = figure_of d s.ready s.clock f (bound d s)
