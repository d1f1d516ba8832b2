-- (a) of a tick: every message that is due can be heard when its turn comes.
use mathlib.Core.Path.{◌≡◌, refl, ap, subst, ◌∙◌}
use mathlib.Core.Logic.{◌≢◌}
use mathlib.Core.Logic.◌⊎◌.{inl, inr}
use mathlib.Core.List.{List, []}
use mathlib.Core.Bool.{Bool, true, false, cond}
use Prim.Native.Nat.{ℕ, zero, suc, ◌+◌, ◌-◌, ◌<◌, ◌≤◌, min}
use native.Mathlib.Decide.{ℕ_discrete}
use native.Mathlib.Omega.{arith}
use lib.Dec.{eqb}
use borrow.Author.Tests.{eqb-true}
use Rattle.lists.specs.Fold.{each}
use Rattle.fit.specs.Fit.{ranks_in, flight, longest_delay}
use Rattle.station.specs.declared.Station.{Station}
use Rattle.fit.proofs.Keeps.{Next}
use Rattle.election.specs.Heads.{hearing_of, fits, ranked_of}
use Rattle.election.specs.Tick.{heard_link}
use Rattle.election.specs.declared.Message.{Message}
use Rattle.election.proofs.Heads.{fits_message, fits_hear, During, fits-during, fits-hears, heard-during, hear_keeps, content_fits}
use Rattle.election.proofs.Links.{Posted}
use Rattle.election.proofs.Places.{In, seat_in}
use Rattle.election.proofs.Spaced.{Spaced, none, more}
use Rattle.election.proofs.Steps.{heard-none}

-- station me in the tick now, when the messages of q and of all below are done: every sender above can be heard
pub record Ready (clock : Bool) (ranks : List ℕ) (me n period now q : ℕ) (x : Station) : Type 0 where
  pub during : During clock ranks me n period now x
  pub above : (q' : ℕ) (m : Message) → q < q' → fits_message clock me n period now q' m ≡ true → fits_hear clock ranks me n period now q' m x ≡ true

-- and when a message of q is done, but perhaps not the last: q can be heard again, where two of its messages can be due in one tick
pub record Again (clock : Bool) (ranks : List ℕ) (me n period now q : ℕ) (x : Station) : Type 0 where
  pub during : During clock ranks me n period now x
  pub next : (q' : ℕ) (m : Message) → Next period now q q' → fits_message clock me n period now q' m ≡ true → fits_hear clock ranks me n period now q' m x ≡ true

module _ (clock : Bool) (ranks : List ℕ) (me n period now q : ℕ) where
  pub heard-again : (m : Message) (x : Station) → fits_hear clock ranks me n period now q m x ≡ true → Again clock ranks me n period now q (hearing_of clock ranks me q m now x)
  heard-again m x e =
      record {
        during = heard-during ranks me n period now q m x clock e;
        next = λ q' m' after f. hear_keeps ranks me n period now q m x clock q' m' e after f;
      }

  pub again_ready : (x : Station) → Again clock ranks me n period now q x → Ready clock ranks me n period now q x
  again_ready x a = record { during = a.during; above = λ q' m h f. a.next q' m (inl h) f }

-- senders that are done stay done
pub ready_rises : (clock : Bool) (ranks : List ℕ) (me n period now k q : ℕ) (x : Station) → k ≤ q → Ready clock ranks me n period now k x → Ready clock ranks me n period now q x
ready_rises clock ranks me n period now k q x h a = record { during = a.during; above = λ q' m l f. a.above q' m (omega arith) f }

-- a message of one sender
module _ (clock : Bool) (me n period tick q : ℕ) (sender : Station) (hq : In n q) (other : q ≢ me) where
  pub posted_fits : (m : Message) → Posted clock n period tick sender m → fits_message clock me n period (tick + 1) q m ≡ true
  posted_fits m p = content_fits clock me n period tick q m hq.low hq.high other p.content

-- the messages of one sender
module _ (clock : Bool) (ranks : List ℕ) (me n period tick q : ℕ) (sender : Station) (hq : In n q) (other : q ≢ me) where
  can_come : (m : Message) → Posted clock n period tick sender m → fits_message clock me n period (tick + 1) q m ≡ true
  can_come = posted_fits clock me n period tick q sender hq other

  -- the messages after one that was heard
  pub goes_on : (low : ℕ) (ms : List Message) (x : Station)
      → tick + 1 + period ≤ low + longest_delay → period ≤ low
      → Spaced (Posted clock n period tick sender) period low ms
      → Again clock ranks me n period (tick + 1) q x
      → Again clock ranks me n period (tick + 1) q (heard_link (hearing_of clock ranks) me q (tick + 1) ms x)
  unfolding heard_link
  goes_on low ms x h g none a = a
  goes_on low ms x h g (more {m = m} {ms = rest} l p r) a =
      at (eqb m.due (tick + 1)) (λ y b. goes_on (m.sent + period) rest y (omega arith) (omega arith) r b)
    where
      gap : period ≤ min (tick + 1 - 1) flight
      gap = omega (arith, p.sent-by)

      at : (b : Bool)
          → ((y : Station) → Again clock ranks me n period (tick + 1) q y → Again clock ranks me n period (tick + 1) q (heard_link (hearing_of clock ranks) me q (tick + 1) rest y))
          → Again clock ranks me n period (tick + 1) q (heard_link (hearing_of clock ranks) me q (tick + 1) rest (cond b (hearing_of clock ranks me q m (tick + 1) x) x))
      at true go = go _ (heard-again clock ranks me n period (tick + 1) q m x (a.next q m (inr (refl, gap)) (can_come m p)))
      at false go = go x a

  -- all its messages, where nothing of its was heard yet
  pub hears-link : (k low : ℕ) (ms : List Message) (x : Station) → k < q
      → Spaced (Posted clock n period tick sender) period low ms
      → Ready clock ranks me n period (tick + 1) k x
      → Ready clock ranks me n period (tick + 1) q (heard_link (hearing_of clock ranks) me q (tick + 1) ms x)
  unfolding heard_link
  hears-link k low ms x h none a = ready_rises clock ranks me n period (tick + 1) k q x (omega arith) a
  hears-link k low ms x h (more {m = m} {ms = rest} l p r) a =
      at (eqb m.due (tick + 1)) refl (λ y b. hears-link k (m.sent + period) rest y h r b)
    where
      at : (b : Bool) → eqb m.due (tick + 1) ≡ b
          → ((y : Station) → Ready clock ranks me n period (tick + 1) k y → Ready clock ranks me n period (tick + 1) q (heard_link (hearing_of clock ranks) me q (tick + 1) rest y))
          → Ready clock ranks me n period (tick + 1) q (heard_link (hearing_of clock ranks) me q (tick + 1) rest (cond b (hearing_of clock ranks me q m (tick + 1) x) x))
      at true e go =
          let due : m.due ≡ tick + 1 = eqb-true m.due (tick + 1) e in
          again_ready clock ranks me n period (tick + 1) q _
          (goes_on (m.sent + period) rest _ (omega (arith, p.due_by)) (omega arith) r
          (heard-again clock ranks me n period (tick + 1) q m x (a.above q m h (can_come m p))))
      at false e go = go x a

-- all senders, ascending
module _ (clock : Bool) (ranks : List ℕ) (me n period tick : ℕ) (sender : ℕ → Station) (inbox : ℕ → List Message)
    (mail : (q : ℕ) → In n q → q ≢ me → Spaced (Posted clock n period tick (sender q)) period 0 (inbox q))
    (none-own : inbox me ≡ []) where
  pub hears-below : (j : ℕ) (x : Station) → j ≤ n → Ready clock ranks me n period (tick + 1) 0 x
      → Ready clock ranks me n period (tick + 1) j (each j (λ k. heard_link (hearing_of clock ranks) me (k + 1) (tick + 1) (inbox (k + 1))) x)
  unfolding each
  hears-below zero x h a = a
  hears-below (suc j) x h a = at (ℕ_discrete (j + 1) me) (hears-below j x (omega arith) a)
    where
      y : Station
      y = each j (λ k. heard_link (hearing_of clock ranks) me (k + 1) (tick + 1) (inbox (k + 1))) x

      at : Dec (j + 1 ≡ me) → Ready clock ranks me n period (tick + 1) j y → Ready clock ranks me n period (tick + 1) (suc j) (heard_link (hearing_of clock ranks) me (j + 1) (tick + 1) (inbox (j + 1)) y)
      at (yes e) r =
          rw (heard-none (hearing_of clock ranks) me (j + 1) (tick + 1) (inbox (j + 1)) y (ap inbox e ∙ none-own)) (ready_rises clock ranks me n period (tick + 1) j (suc j) y (omega arith) r)
      at (no e) r =
          let i : In n (j + 1) = seat_in n j (omega arith) in
          ready_rises clock ranks me n period (tick + 1) (j + 1) (suc j) _ (omega arith)
          (hears-link clock ranks me n period tick (j + 1) (sender (j + 1)) i e j 0 (inbox (j + 1)) y (omega arith) (mail (j + 1) i e) r)

-- a station at the end of the tick before
pub fit-ready : (clock : Bool) (ranks : List ℕ) (me n period tick : ℕ) (x : Station) → tick < 1000000 → ranks_in (ranked_of clock n) ranks ≡ true → fits clock me n period tick x ≡ true → x.up ≡ true → Ready clock ranks me n period (tick + 1) 0 x
fit-ready clock ranks me n period tick x h i e u =
    let f : fits clock me n period (tick + 1 - 1) x ≡ true = subst (λ t. fits clock me n period t x ≡ true) (omega arith) e in
    record {
      during = fits-during ranks me n period (tick + 1) x (omega arith) (omega arith) clock i f u;
      above = λ q m l g. fits-hears ranks me n period (tick + 1) x (omega arith) (omega arith) clock q m i f u g;
    }
