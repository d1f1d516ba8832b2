-- The function schedule meets its contract.
use mathlib.Core.Path.{◌≡◌, refl}
use mathlib.Core.List.{[]}
use native.Mathlib.Omega.{arith}
use Rattle.election.specs.declared.Refusal.{Refusal}
use Rattle.election.proofs.InitialSound.{fresh-sound}
use Rattle.simulator.specs.Gone.{refusal_of}
use Rattle.simulator.specs.declared.rules.Stop.{Stop}
use Rattle.simulator.specs.declared.rules.Stop.TheVariants.{Full, End, Refused}
use Rattle.simulator.proofs.Operations.{gone-through}
use Rattle.simulator.proofs.schedule.Goals as goal
use Rattle.simulator.proofs.schedule.Goals.{in-Refused, in_default}

pub go_on-gone-requires : goal.go_on-gone-requires
go_on-gone-requires c = rw c.fresh-layout.ensures fresh-sound

-- an end that is no refusal has no number
no_number : (stop : Stop) → ((why : Refusal) → stop ≡ Refused why → ⊥) → refusal_of stop ≡ 0
no_number Full h = refl
no_number End h = refl
no_number (Refused why) h = absurd (h why refl)

pub returns : goal.returns
returns c =
    let r = c.go_on-gone.result in
    let through = gone-through c.args.bytes.now [] c.go_on-gone.new.buffer c.fresh-layout.result c.go_on-gone.new.s r (omega arith) c.fresh-layout.ensures c.go_on-gone.ensures in
    elim c.match-gone.branch [
      | in-Refused w ↦ rw (w.ended-is, c.system_of-2.ensures) (rw w.in-Refused.is at through)
      | in_default w ↦ rw (w.ended-is, c.system_of-2.ensures) (rw (no_number r.stop w.in_default.not-Refused) at through)
    ]
