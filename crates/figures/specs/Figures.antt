-- The figures of a system: the numbers of demand 3 (crates/settling/specs/Settling.antt), and its leader.
use Rattle.std.specs.Prelude.{◌≡◌, ◌⊎◌, ◌≢◌, Bool, true, List, ℕ, ◌≤◌}
use Rattle.station.specs.Order.{entry, before}
use Rattle.station.specs.declared.Station.{Station}
use Rattle.election.specs.System.{station_of}
use Rattle.election.specs.declared.System.{System}
use Rattle.settling.specs.Settling.{longest_wait, longest_timeout, up_heads}
use Rattle.figures.specs.Pieces.{up_over}
use Rattle.figures.specs.declared.Figures.{Figures}

-- station L is before station p by starts, rank and number
abbrev pub ahead_of : List Station → List ℕ → ℕ → ℕ → Bool
ahead_of stations ranks L p =
    before (station_of stations L).incarnation (entry ranks L) L (station_of stations p).incarnation (entry ranks p) p

-- L is the first of the up ones of n stations
pub record FirstOf (n : ℕ) (stations : List Station) (ranks : List ℕ) (L : ℕ) : Type 0 where
  pub low : 1 ≤ L
  pub high : L ≤ n
  pub is_up : (station_of stations L).up ≡ true
  pub least : (p : ℕ) → 1 ≤ p → p ≤ n → (station_of stations p).up ≡ true → p ≢ L → ahead_of stations ranks L p ≡ true

-- L is the first of the up heads of a system
abbrev pub FirstUp : System → ℕ → Type 0
FirstUp s L = FirstOf s.n s.stations s.ranks L

-- L is the first of the up ones, or 0 if none is up: of n stations, and of a system
abbrev pub LeadsOf : ℕ → List Station → List ℕ → ℕ → Type 0
LeadsOf n stations ranks L = ((up_over n stations ≡ 0) × (L ≡ 0)) ⊎ FirstOf n stations ranks L

abbrev pub Leads : System → ℕ → Type 0
Leads s L = ((up_heads s ≡ 0) × (L ≡ 0)) ⊎ FirstUp s L

pub record Figured (s : System) (r : Figures) : Type 0 where
  pub wait : r.wait ≡ longest_wait s
  pub timeout : r.timeout ≡ longest_timeout s
  pub period : r.period ≡ s.period
  pub heads : r.heads ≡ up_heads s
  pub leads : Leads s r.leader
