-- Where a station came from in a tick, for both kinds of head: a message that came, and the station before it or before its timer's end.
use mathlib.Core.Path.{◌≡◌}
use mathlib.Core.Logic.{◌⊎◌, ◌≢◌}
use mathlib.Core.List.{List}
use mathlib.Core.Bool.{Bool, true}
use Prim.Native.Nat.{ℕ, ◌-◌, ◌≤◌}
use Rattle.station.specs.declared.Station.{Station}
use Rattle.election.specs.Heads.{hearing_of, expiring_of, fits, content_in}
use Rattle.handing.proofs.Carries.{due_now}

-- a message of q to station me that may be due now, whenever it was sent
pub record Coming (clock : Bool) (me n period now q : ℕ) (v : List ℕ) (z : ℕ) : Type 0 where
  pub low : 1 ≤ q
  pub high : q ≤ n
  pub other : q ≢ me
  pub content : (sent : ℕ) → content_in clock n period (now - 1) (due_now now sent v z) ≡ true

-- an up station that fits the end of the tick before
pub record Prior (clock : Bool) (me n period now : ℕ) (x : Station) : Type 0 where
  pub fit : fits clock me n period (now - 1) x ≡ true
  pub up : x.up ≡ true

-- hearing its leader made the station what it is
pub record FromHearing (clock : Bool) (ranks : List ℕ) (me n period now : ℕ) (x : Station) : Type 0 where
  pub station : Station
  pub before : Prior clock me n period now station
  pub counts : List ℕ
  pub stamp : ℕ
  pub coming : Coming clock me n period now x.leader counts stamp
  pub heard : (sent : ℕ) → hearing_of clock ranks me x.leader (due_now now sent counts stamp) now station ≡ x

-- its timer does not end in the tick
abbrev pub Ran : (clock : Bool) (ranks : List ℕ) (me n period now : ℕ) (x : Station) → Type 0
Ran clock ranks me n period now x = (Prior clock me n period now x ⊎ FromHearing clock ranks me n period now x) × (x.timer ≢ now)

-- the end of its timer made the station what it is
pub record FromTimer (clock : Bool) (me n period now : ℕ) (x : Station) : Type 0 where
  pub station : Station
  pub before : Prior clock me n period now station
  pub due : station.timer ≡ now
  pub ended : expiring_of clock me station ≡ x
