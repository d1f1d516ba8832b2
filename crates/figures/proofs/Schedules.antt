-- The figures of a system that a schedule reaches: its leader is that of demand 3, which holds of it.
use mathlib.Core.Path.{◌≡◌, sym, ◌∙◌}
use mathlib.Core.Logic.◌⊎◌.{inl, inr}
use mathlib.Core.Bool.{false}
use mathlib.Core.List.{List}
use Prim.Native.Nat.{ℕ, ◌≤◌}
use Rattle.election.specs.History.{commands, is_up_after}
use Rattle.election.specs.Schedule.{schedule}
use Rattle.election.specs.System.{station}
use Rattle.election.proofs.Counts.{counts-starts, up-is_latest}
use Rattle.election.proofs.Ranks.{rank-is_latest}
use Rattle.settling.specs.Settling.{ahead, Settles}
use Rattle.settling.proofs.IDemand.{settling}
use Rattle.figures.specs.Claims.{LeaderOfSchedule, Promised, FiguresHold}
use Rattle.figures.specs.Figures.{ahead_of, Leads}

-- the counts and ranks of the system are those of the accepted commands, so the order is the same
module _ (bytes : List ℕ) (ok : (schedule bytes).refusal ≡ 0) where
  same_up : (p : ℕ) → 1 ≤ p → p ≤ (schedule bytes).system.n → (station (schedule bytes).system p).up ≡ is_up_after false p (commands bytes)
  same_up p low high = up-is_latest bytes ok p low high

  module _ (flash : (schedule bytes).system.clock ≡ false) where
    same-order : (p q : ℕ) → 1 ≤ p → p ≤ (schedule bytes).system.n → 1 ≤ q → q ≤ (schedule bytes).system.n → ahead_of (schedule bytes).system.stations (schedule bytes).system.ranks p q ≡ ahead (commands bytes) p q
    same-order p q lp hp lq hq =
        cc (counts-starts bytes ok flash p lp hp, counts-starts bytes ok flash q lq hq, rank-is_latest bytes ok p lp hp, rank-is_latest bytes ok q lq hq)

pub leader_of-schedule : LeaderOfSchedule
leader_of-schedule bytes L ok flash = (
  λ f.
      record {
        low = f.low;
        high = f.high;
        is_up = sym (same_up bytes ok L f.low f.high) ∙ f.is_up;
        least = λ p low high u ne. sym (same-order bytes ok flash L p f.low f.high low high) ∙ f.least p low high (same_up bytes ok p low high ∙ u) ne;
      },
  λ f.
      record {
        low = f.low;
        high = f.high;
        is_up = same_up bytes ok L f.low f.high ∙ f.is_up;
        least = λ p low high u ne. same-order bytes ok flash L p f.low f.high low high ∙ f.least p low high (sym (same_up bytes ok p low high) ∙ u) ne;
      },
)

pub promised : Promised
promised bytes stretch d L ok flash first quiet = (settling bytes stretch d L ok flash ((leader_of-schedule bytes L ok flash).0 first) quiet).0

pub figures-hold : FiguresHold
figures-hold bytes stretch d f ok flash figured some quiet = by figured.leads
  where
    by : Leads (schedule bytes).system f.leader → Settles d f.leader stretch (schedule bytes).system
    by (inl (none, z)) = absurd (some (figured.heads ∙ none))
    by (inr first) = promised bytes stretch d f.leader ok flash first quiet
