-- What the rules of a kind give is what the heads of a system of that kind do.
use mathlib.Core.Path.{◌≡◌, sym, ap, ◌∙◌}
use mathlib.Core.Bool.{true, false}
use Prim.Native.Nat.{ℕ}
use Rattle.station.specs.Rules.{heard, slotted}
use Rattle.station.specs.declared.Station.{Station}
use Rattle.clock.specs.Rules.{heard as clockHeard, slotted as clockSlotted}
use Rattle.election.specs.Heads.{hearing_of, slotting_of, hearing}
use Rattle.election.specs.declared.Message.{Message}
use Rattle.layout.specs.Layout.{system_of}
use Rattle.layout.specs.declared.Layout.{Layout}

module _ (s : Layout) (me q : ℕ) (m : Message) (now : ℕ) (x v : Station) where
  pub heard-clock : s.clock ≡ true → v ≡ clockHeard me q m.stamp now x → v ≡ hearing (system_of s) me q m now x
  heard-clock k e = e ∙ ap (λ b. hearing_of b s.ranks me q m now x) (sym k)

  pub heard-flash : s.clock ≡ false → v ≡ heard s.ranks me q m.counts now x → v ≡ hearing (system_of s) me q m now x
  heard-flash k e = e ∙ ap (λ b. hearing_of b s.ranks me q m now x) (sym k)

module _ (s : Layout) (me now : ℕ) (x v : Station) where
  pub slotted-clock : s.clock ≡ true → v ≡ clockSlotted me s.period now x → v ≡ slotting_of s.clock me s.period now x
  slotted-clock k e = e ∙ ap (λ b. slotting_of b me s.period now x) (sym k)

  pub slotted-flash : s.clock ≡ false → v ≡ slotted s.period now x → v ≡ slotting_of s.clock me s.period now x
  slotted-flash k e = e ∙ ap (λ b. slotting_of b me s.period now x) (sym k)
