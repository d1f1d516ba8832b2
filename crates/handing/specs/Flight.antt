-- The flight limit of fit_hear, tied to the links: how far apart two messages of one link can be sent that are due in one tick.
use Rattle.std.specs.Prelude.{◌≡◌, ◌≢◌, List, ◌∷◌, ◌++◌, Bool, true, ℕ, ◌+◌, ◌≤◌}
use Rattle.fit.specs.Fit.{flight}
use Rattle.handing.specs.Handed.{Full}
use Rattle.election.specs.Sound.{sound}
use Rattle.election.specs.System.{underway}
use Rattle.election.specs.declared.Message.{Message}
use Rattle.election.specs.declared.System.{System}

-- two messages of station p under way to q in a sound system, due in the same tick
pub record Together : Type 0 where
  pub system : System
  pub is-sound : sound system ≡ true
  pub is-ready : system.ready ≡ true
  pub p : ℕ
  pub q : ℕ
  pub p-low : 1 ≤ p
  pub p-high : p ≤ system.n
  pub q-low : 1 ≤ q
  pub q-high : q ≤ system.n
  pub other : p ≢ q
  pub first : List Message
  pub older : Message
  pub between : List Message
  pub younger : Message
  pub last : List Message
  pub is-mail : underway system p q ≡ first ++ (older ∷ (between ++ (younger ∷ last)))
  pub is-due : older.due ≡ younger.due

-- they were sent at least a period apart and at most the flight limit; and whatever the kind of head, and the period up to it, some system of
-- full tables reaches it
abbrev pub FlightExact : Type 0
FlightExact =
    ((t : Together) → (t.older.sent + t.system.period ≤ t.younger.sent) × (t.younger.sent ≤ t.older.sent + flight))
    × ((clock : Bool) (period : ℕ) → 16 ≤ period → period ≤ flight
    → (t : Together) × Full t.system × (t.system.clock ≡ clock) × (t.system.period ≡ period) × (t.younger.sent ≡ t.older.sent + flight))
