-- What is claimed of the rules of a head with a running clock; the theorem is in proofs/Sending.antt.
use Rattle.std.specs.Prelude.{◌≡◌, ℕ, eqb}
use Rattle.station.specs.declared.Station.{Station}
use Rattle.clock.specs.Rules.{slotted, sends}

-- LEADER is sent at a send chance exactly by who trusts itself after it, so at the end of the wait too
abbrev pub SendsSelf : Type 0
SendsSelf = (me period tick : ℕ) (s : Station) → sends me s ≡ eqb (slotted me period tick s).leader me
