-- What a station hears in the tick, where one sender at most has something for it; and whether its timer ends.
use mathlib.Core.Path.{◌≡◌, refl, ap, ◌∙◌}
use mathlib.Core.Logic.{◌≢◌}
use mathlib.Core.List.{List, [], ◌∷◌}
use mathlib.Core.Bool.{Bool, cond}
use Prim.Native.Nat.{ℕ, ◌+◌, ◌-◌, ◌<◌, ◌≤◌}
use native.Mathlib.Omega.{arith}
use borrow.Author.Tests.{eq-eqb}
use Rattle.lists.specs.Fold.{each}
use Rattle.lists.proofs.Fold.{each-idle, each-once}
use Rattle.station.specs.declared.Station.{Station}
use Rattle.election.specs.Heads.{Hearing, hearing_of}
use Rattle.election.specs.System.{underway}
use Rattle.election.specs.Tick.{heard_link, heard_all, expired_now}
use Rattle.election.specs.declared.Message.{Message}
use Rattle.election.proofs.Places.{In, seat_in}
use Rattle.election.proofs.Steps.{expired_now-elim, heard-none}
use Rattle.handing.proofs.Witness.{around, around_underway}

-- one link, with one message on it that is due
pub hears-one : (hear : Hearing) (me q now : ℕ) (x : Station) (m : Message) → m.due ≡ now → heard_link hear me q now (m ∷ []) x ≡ hear me q m now x
unfolding heard_link
hears-one hear me q now x m e = ap (λ b. cond b (hear me q m now x) x) (eq-eqb m.due now e)

-- the first j senders, in a system made around station me
module _ (clock : Bool) (ranks : List ℕ) (me n period tick now : ℕ) (x : Station) (mail : ℕ → List Message) (hm : In 8 me) (j : ℕ) (hj : j ≤ 8) (y : Station) where
  abbrev hear : Hearing
  hear = hearing_of clock ranks

  abbrev pub hear_from : ℕ → Station → Station
  hear_from k r = heard_link (hearing_of clock ranks) me (k + 1) now (underway (around clock ranks me n period tick x mail) (k + 1) me) r

  step_mail : (k : ℕ) → k < j → (r : Station) → hear_from k r ≡ heard_link hear me (k + 1) now (mail (k + 1)) r
  step_mail k h r = ap (λ ms. heard_link hear me (k + 1) now ms r) (around_underway clock ranks me n period tick x mail (k + 1) (seat_in 8 k (omega arith)) hm)

  step_idle : (k : ℕ) → k < j → (r : Station) → mail (k + 1) ≡ [] → hear_from k r ≡ r
  step_idle k h r e = step_mail k h r ∙ heard-none hear me (k + 1) now (mail (k + 1)) r e

  -- none of them has a message
  pub hears-nobody : ((p : ℕ) → p ≤ j → mail p ≡ []) → each j hear_from y ≡ y
  hears-nobody none = each-idle j hear_from y (λ k r h. step_idle k h r (none (k + 1) (omega arith)))

  -- sender q alone has
  pub hears-only : (q : ℕ) → 1 ≤ q → q ≤ j → ((p : ℕ) → p ≤ j → p ≢ q → mail p ≡ []) → each j hear_from y ≡ heard_link (hearing_of clock ranks) me q now (mail q) y
  hears-only q low high none =
      let e : q - 1 + 1 ≡ q = omega arith in
      each-once j (q - 1) hear_from y (omega arith) (λ k r h ne. step_idle k h r (none (k + 1) (omega arith) (λ i. ne (omega arith))))
      ∙ step_mail (q - 1) (omega arith) y
      ∙ ap (λ p. heard_link hear me p now (mail p) y) e

-- (a) is those steps
pub heard_all-each : (hear : Hearing) (n me now : ℕ) (inbox : ℕ → List Message) (x : Station) → heard_all hear n me now inbox x ≡ each n (λ k. heard_link hear me (k + 1) now (inbox (k + 1))) x
unfolding heard_all
heard_all-each hear n me now inbox x = refl

-- (b) a timer that is due ends, and another does not
module _ (expire : Station → Station) (now : ℕ) (x : Station) where
  pub timer_ends : x.timer ≡ now → expired_now expire now x ≡ expire x
  timer_ends e = expired_now-elim (λ y. y ≡ expire x) expire now x (λ i. refl) (λ ne. absurd (ne e))

  pub timer_runs : x.timer ≢ now → expired_now expire now x ≡ x
  timer_runs ne = expired_now-elim (λ y. y ≡ x) expire now x (λ e. absurd (ne e)) (λ i. refl)
