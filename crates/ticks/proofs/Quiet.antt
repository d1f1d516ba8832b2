-- What is due no sooner than a tick: nothing before it.
use mathlib.Core.Path.{◌≡◌}
use mathlib.Core.Bool.{true, false, not, and-false}
use Prim.Native.Nat.{ℕ, ◌<◌, ◌≤◌}
use native.Mathlib.Omega.{arith}
use lib.Dec.{eqb}
use borrow.Author.Tests.{ne_eqb}
use Rattle.lists.proofs.Test.{all_of}
use Rattle.station.specs.declared.Station.{Station}
use Rattle.election.specs.Idle.{quiet_station, quiet_link}
use Rattle.election.specs.Sound.{message_at}
use Rattle.election.specs.declared.Link.{Link}
use Rattle.ticks.specs.Delivering.{Before}

not_due : (now due r t : ℕ) → Before now due r → now < t → t ≤ r → eqb due t ≡ false
not_due now due r t f a b = ne_eqb due t (λ e. omega (arith, f (omega arith)))

pub station-quiet : (now a r : ℕ) (x : Station) → Before now x.timer a → Before now x.slot r → r ≤ a → (t : ℕ) → now < t → t ≤ r → quiet_station t x ≡ true
unfolding quiet_station
station-quiet now a r x timer slot le t h i = rw (not_due now x.timer a t timer h (omega arith), not_due now x.slot r t slot h i, and-false)

pub link-quiet : (now r : ℕ) (l : Link) → ((k : ℕ) → k < l.used → Before now (message_at l k).due r) → (t : ℕ) → now < t → t ≤ r → quiet_link t l ≡ true
unfolding quiet_link
link-quiet now r l f t h i = all_of l.used (λ k. not (eqb (message_at l k).due t)) (λ k m. rw (not_due now (message_at l k).due r t (f k m) h i))
