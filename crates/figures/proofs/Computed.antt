-- The rows of specs/Rows.antt, computed.
use mathlib.Core.Path.{◌≡◌, refl, ap, subst, ◌∙◌}
use mathlib.Core.List.{List, [], ◌∷◌}
use mathlib.Core.Bool.{false}
use Prim.Native.Nat.{ℕ, zero, suc, ◌+◌, ◌≤◌}
use native.Mathlib.Numerals.{add-one}
use native.Mathlib.Omega.{arith}
use lib.Dec.{ltb}
use lib.ListN.{length}
use Rattle.lists.specs.Fold.{each}
use Rattle.lists.specs.Largest.{max_to}
use Rattle.station.specs.declared.Station.{Station}
use Rattle.election.specs.Schedule.{End, most_bytes, schedule}
use Rattle.election.specs.System.{station_of}
use Rattle.election.specs.declared.System.{System}
use Rattle.election.proofs.Opened.{rules}
use Rattle.election.proofs.Ruled.{ruled, by_rules}
use Rattle.election.proofs.Tables.{schedule-ruled}
use Rattle.settling.specs.Settling.{longest_wait, longest_timeout, up_heads, bound}
use Rattle.figures.specs.Pieces.{up_over, counts_of, first_of}
use Rattle.figures.specs.Rows.{Row, AfterCrash, ByRank, NoneUp}
use Rattle.figures.specs.declared.Figures.{Figures}
use Rattle.figures.proofs.Leading.{Led, led-none, led-turn, led-all}

-- the first of the up ones of n stations, as the code finds it
unfoldable leader_of : ℕ → List Station → List ℕ → ℕ
leader_of n stations ranks = each n (λ k l. first_of ranks (counts_of stations) (station_of stations (k + 1)).up (k + 1) l) 0

led-by : (n : ℕ) (stations : List Station) (ranks : List ℕ) → length stations ≤ 8 → Led stations ranks n (leader_of n stations ranks)
unfolding leader_of each
led-by zero stations ranks eight = led-none stations ranks
led-by (suc n) stations ranks eight =
    subst (λ k. Led stations ranks k (leader_of (suc n) stations ranks)) (add-one n) (led-turn stations ranks n eight (leader_of n stations ranks) (led-by n stations ranks eight))

-- what is seen of the end of a schedule
abbrev seen : ℕ → End → List ℕ
seen d e =
    let s : System = e.system in
    e.refusal ∷ longest_wait s ∷ longest_timeout s ∷ s.period ∷ up_heads s ∷ leader_of s.n s.stations s.ranks ∷ length s.stations ∷ bound d s ∷ []

abbrev shown : Figures → ℕ → List ℕ
shown f limit = 0 ∷ f.wait ∷ f.timeout ∷ f.period ∷ f.heads ∷ f.leader ∷ 8 ∷ limit ∷ []

row : (bytes : List ℕ) (f : Figures) (d limit : ℕ) → ltb most_bytes (length bytes) ≡ false → seen d (by_rules bytes).end ≡ shown f limit → Row bytes f d limit
unfolding up_heads up_over
row bytes f d limit fits e =
    let s : System = (schedule bytes).system in
    let h : seen d (schedule bytes) ≡ shown f limit = ap (seen d) (schedule-ruled bytes fits) ∙ e in
    let eight : length s.stations ≡ 8 = cc in
    let first : leader_of s.n s.stations s.ranks ≡ f.leader = cc in
    record {
      accepted = cc;
      figured = record { wait = cc; timeout = cc; period = cc; heads = cc; leads = rw first at (led-all s.stations s.ranks s.n _ (led-by s.n s.stations s.ranks (omega arith))) };
      bounded = cc;
    }

-- every definition that is computed with
computing : Unit {0}
unfolding rules ruled max_to longest_wait longest_timeout up_heads counts_of leader_of
computing = tt

pub after-crash : AfterCrash
unfolding computing
after-crash = row _ _ 3 47 refl refl

pub by_rank : ByRank
unfolding computing
by_rank = row _ _ 1 53 refl refl

pub none-up : NoneUp
unfolding computing
none-up = row _ _ 3 25 refl refl
