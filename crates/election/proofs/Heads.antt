-- The laws of a kind of head: all that the laws of a tick and of the commands rest on, for both kinds. What stands above goes by these, and knows
-- no kind.
use mathlib.Core.Path.{◌≡◌, refl}
use mathlib.Core.Logic.{◌≢◌}
use mathlib.Core.Logic.◌⊎◌.{inl, inr}
use mathlib.Core.List.{List}
use mathlib.Core.Bool.{Bool, true, false, cond}
use Prim.Native.Nat.{ℕ, ◌+◌, ◌-◌, ◌<◌, ◌≤◌}
use native.Mathlib.Omega.{arith}
use lib.Dec.{eqb}
use borrow.Author.Tests.{eq-eqb, ne_eqb}
use Rattle.lists.proofs.Bools.{both}
use Rattle.station.specs.Rules.{crashed, down_with}
use Rattle.station.specs.declared.Station.{Station}
use Rattle.station.proofs.Elimination.{slotted-elim}
use Rattle.station.proofs.Fields.{started-count, started-up, started-slot}
use Rattle.station.proofs.Unchanged.{Unchanged, heard-unchanged, heard-timeouts, heard-timeout, expired-unchanged}
use Rattle.fit.specs.Fit.{within, counts_in, timeouts_in, vectorless, ranks_in, fit_message, fit_hear, fit_expire, fit_slot}
use Rattle.fit.proofs.Between.{of_start, of_crash}
use Rattle.fit.proofs.Down.{down-slot as flash-down-slot, down-keeps as flash-down-keeps, down_fits as flash-down-fits}
use Rattle.fit.proofs.Handed.{hearing-of, of_message, slotting-of}
use Rattle.fit.proofs.Keeps as flash
use Rattle.fit.proofs.Tests.{Ranges, flash-fields, counts_of, of_counts, within_of, of_within, fit-ranges as flash-fit-ranges, fit_of as flash-fit-of}
use Rattle.clock.specs.Fit.{fit_message as clockFitMessage, fit_hear as clockFitHear, fit_expire as clockFitExpire, fit_slot as clockFitSlot}
use Rattle.clock.proofs.Between.{of_start as clock-of-start, of_crash as clock-of-crash}
use Rattle.clock.proofs.Down.{down-slot as clock-down-slot, down-keeps as clock-down-keeps, down_fits as clock-down-fits}
use Rattle.clock.proofs.Keeps as clocked
use Rattle.clock.proofs.Tests.{Trusts, fit-ranges as clock-fit-ranges, fit_of as clock-fit-of}
use Rattle.clock.proofs.Unchanged as unmoved
use Rattle.election.specs.Heads.{hearing_of, expiring_of, slotting_of, starting_of, fits, content_in, ranked_of, hearing, expiring, slotting}
use Rattle.election.specs.Tick.{announced}
use Rattle.election.specs.declared.Message.{Message}
use Rattle.election.specs.declared.System.{System}

-- heads of one kind that know the same ranks hear the same
pub hearing-same : (s r : System) → s.clock ≡ r.clock → s.ranks ≡ r.ranks → hearing s ≡ hearing r
hearing-same s r k e = rw (k, e)

-- what fits in a tick, by the kind: a message, hearing it, the end of a timer, a send chance
abbrev pub fits_message : Bool → ℕ → ℕ → ℕ → ℕ → ℕ → Message → Bool
fits_message clock me n period now q m = cond clock (clockFitMessage me n period now q m.stamp) (fit_message me n q m.counts)

abbrev pub fits_hear : Bool → List ℕ → ℕ → ℕ → ℕ → ℕ → ℕ → Message → Station → Bool
fits_hear clock ranks me n period now q m x = cond clock (clockFitHear me n period now q m.stamp x) (fit_hear ranks me n period now q m.counts x)

abbrev pub fits_expire : Bool → ℕ → ℕ → ℕ → ℕ → Station → Bool
fits_expire clock me n period now x = cond clock (clockFitExpire me n period now x) (fit_expire me n period now x)

abbrev pub fits_slot : Bool → List ℕ → ℕ → ℕ → ℕ → ℕ → Station → Bool
fits_slot clock ranks me n period now x = cond clock (clockFitSlot me n period now x) (fit_slot ranks me n period now x)

-- a station in a tick, between two messages
abbrev pub During : Bool → List ℕ → ℕ → ℕ → ℕ → ℕ → Station → Type 0
During true ranks me n period now x = clocked.During me n period now x
During false ranks me n period now x = flash.During ranks me n period now x

-- it begins with a station that fits the end of the tick before, which can hear a first message
module _ (ranks : List ℕ) (me n period now : ℕ) (x : Station) (low : 1 ≤ now) (high : now ≤ 1000000) where
  pub fits-during : (clock : Bool) → ranks_in (ranked_of clock n) ranks ≡ true → fits clock me n period (now - 1) x ≡ true → x.up ≡ true → During clock ranks me n period now x
  fits-during true i e u = clocked.fit-during me n period now x low high e u
  fits-during false i e u = flash.fit-during ranks me n period now x low high i e u

  pub fits-hears : (clock : Bool) (q : ℕ) (m : Message) → ranks_in (ranked_of clock n) ranks ≡ true → fits clock me n period (now - 1) x ≡ true → x.up ≡ true
      → fits_message clock me n period now q m ≡ true → fits_hear clock ranks me n period now q m x ≡ true
  fits-hears true q m i e u f = clocked.fit-hears me n period now x q m.stamp low high e u f
  fits-hears false q m i e u f = flash.fit-hears ranks me n period now x q m.counts low high i e u f

-- (a) goes on from what hearing leaves, and the next message can be heard
module _ (ranks : List ℕ) (me n period now q : ℕ) (m : Message) (x : Station) where
  pub heard-during : (clock : Bool) → fits_hear clock ranks me n period now q m x ≡ true → During clock ranks me n period now (hearing_of clock ranks me q m now x)
  heard-during true e = clocked.heard-during me n period now q m.stamp x e
  heard-during false e = flash.heard-during ranks me n period now q m.counts x (hearing-of ranks me n period now q m.counts x e)

  pub hear_keeps : (clock : Bool) (q' : ℕ) (m' : Message) → fits_hear clock ranks me n period now q m x ≡ true → flash.Next period now q q'
      → fits_message clock me n period now q' m' ≡ true → fits_hear clock ranks me n period now q' m' (hearing_of clock ranks me q m now x) ≡ true
  hear_keeps true q' m' e next f = clocked.hear_keeps me n period now q q' m.stamp m'.stamp x e next f
  hear_keeps false q' m' e next f = flash.hear_keeps ranks me n period now q q' m.counts m'.counts x e next f

module _ (ranks : List ℕ) (me n period now : ℕ) (x : Station) where
  -- (b) a timer that is due can end; the station then fits the end of the tick, or its send chance
  pub during_expires : (clock : Bool) → During clock ranks me n period now x → x.timer ≡ now → fits_expire clock me n period now x ≡ true
  during_expires true d e = clocked.during_expires me n period now x d e
  during_expires false d e = flash.during_expires ranks me n period now x d e

  pub expired-fits : (clock : Bool) → During clock ranks me n period now x → x.timer ≡ now → x.slot ≢ now → fits clock me n period now (expiring_of clock me x) ≡ true
  expired-fits true d e ne = clocked.expire_fits me n period now x (during_expires true d e) ne
  expired-fits false d e ne = flash.expire_fits me n period now x (during_expires false d e) ne

  pub expired-slots : (clock : Bool) → During clock ranks me n period now x → x.timer ≡ now → x.slot ≡ now → fits_slot clock ranks me n period now (expiring_of clock me x) ≡ true
  expired-slots true d e s = clocked.expire_slots me n period now x (during_expires true d e) s
  expired-slots false d e s = flash.expire_slots ranks me n period now x d.ranked (during_expires false d e) s

  -- where none is due, likewise
  pub during_fits : (clock : Bool) → During clock ranks me n period now x → x.timer ≢ now → x.slot ≢ now → fits clock me n period now x ≡ true
  during_fits true d ne ns = clocked.during_fits me n period now x d ne ns
  during_fits false d ne ns = flash.during_fits ranks me n period now x d ne ns

  pub during_slots : (clock : Bool) → During clock ranks me n period now x → x.timer ≢ now → x.slot ≡ now → fits_slot clock ranks me n period now x ≡ true
  during_slots true d ne s = clocked.during_slots me n period now x d ne s
  during_slots false d ne s = flash.during_slots ranks me n period now x d ne s

  -- (c) a send chance leaves a station that fits the end of the tick
  pub slot_keeps : (clock : Bool) → fits_slot clock ranks me n period now x ≡ true → fits clock me n period now (slotting_of clock me period now x) ≡ true
  slot_keeps true e = clocked.slot_keeps me n period now x e
  slot_keeps false e = flash.slot_keeps ranks me n period now x e

  -- and what is sent at it is in range
  pub slot_content : (clock : Bool) (sent due : ℕ) → fits_slot clock ranks me n period now x ≡ true
      → content_in clock n period now (announced sent due x) ≡ true
  unfolding vectorless
  slot_content true sent due e =
      let (v, z) = clocked.slot_carries me n period now x e in
      rw ((both (counts_in 0 x.recovered) (timeouts_in 0 0 0 0 x.timeouts) v).0, z)
  slot_content false sent due e =
      let l = (slotting-of ranks me n period now x e).living in
      rw (of_counts n x.recovered l.counts, eq-eqb x.stamp 0 (flash-fields x l.flash).0)

-- a station that is down has no send chance, and fits every tick
module _ (me n period tick : ℕ) (x : Station) where
  pub down-slot : (clock : Bool) → fits clock me n period tick x ≡ true → x.up ≡ false → x.slot ≡ 0
  down-slot true e d = clock-down-slot me n period tick x e d
  down-slot false e d = flash-down-slot me n period tick x e d

  pub down-keeps : (clock : Bool) (later : ℕ) → fits clock me n period tick x ≡ true → x.up ≡ false → fits clock me n period later x ≡ true
  down-keeps true later e d = clock-down-keeps me n period tick x later e d
  down-keeps false later e d = flash-down-keeps me n period tick x later e d

  -- what fits is a station of the system that keeps a leader
  pub fits-ranges : (clock : Bool) → fits clock me n period tick x ≡ true → Ranges me n period × (1 ≤ x.stable)
  fits-ranges true e = let (r, k) = clock-fit-ranges me n period tick x e in (r, omega (arith, k.own, r.me_low))
  fits-ranges false e = let (r, k) = flash-fit-ranges me n period tick x e in (r, k.low)

  -- a start and a crash leave a station that fits
  pub start-keeps : (clock : Bool) → tick ≤ 1000000 → fits clock me n period tick x ≡ true → x.incarnation < 4095 → fits clock me n period tick (starting_of clock me n period tick x) ≡ true
  start-keeps true h e few = clocked.start-keeps me n period tick x (clock-of-start me n period tick x h e)
  start-keeps false h e few = flash.start-keeps me n period tick x (of_start me n period tick x h e) few

  pub crash-keeps : (clock : Bool) → tick ≤ 1000000 → fits clock me n period tick x ≡ true → x.up ≡ true → fits clock me n period tick (crashed x) ≡ true
  crash-keeps true h e u = clocked.crash-keeps me n period tick x (clock-of-crash me n period tick x (clock-of-start me n period tick x h e) u)
  crash-keeps false h e u = flash.crash-keeps me n period tick x (of_crash me n period tick x (of_start me n period tick x h e) u)

  -- a start sets a send chance a period away or later, and does not lower the count
  pub starting-up : (clock : Bool) → (starting_of clock me n period tick x).up ≡ true
  starting-up true = unmoved.started-up period tick x
  starting-up false = started-up me n period tick x

  pub starting-slot : (clock : Bool) → tick + period ≤ (starting_of clock me n period tick x).slot
  starting-slot true = omega (arith, unmoved.started-slot period tick x)
  starting-slot false = omega (arith, started-slot me n period tick x)

  pub starting-count : (clock : Bool) → (starting_of clock me n period tick x).incarnation ≡ cond clock x.incarnation (x.incarnation + 1)
  starting-count true = unmoved.started-count period tick x
  starting-count false = started-count me n period tick x

-- a station that was never started fits
pub unstarted-fits : (clock : Bool) (me n period tick : ℕ) → Ranges me n period → fits clock me n period tick (down_with 0 me) ≡ true
unstarted-fits true me n period tick r = clock-down-fits me n period tick r
unstarted-fits false me n period tick r = flash-down-fits me n period tick (down_with 0 me) r (record { few = omega arith; low = r.me_low; high = r.me_high })

-- what is in range stays so
pub content_later : (clock : Bool) (n period tick later : ℕ) (m : Message) → tick ≤ later → content_in clock n period tick m ≡ true → content_in clock n period later m ≡ true
content_later true n period tick later m h e =
    let (v, z) = both (counts_in 0 m.counts) (within period m.stamp (period + tick)) e in
    let (low, high) = within_of period m.stamp (period + tick) z in
    rw (v, of_within period m.stamp (period + later) low (omega arith))
content_later false n period tick later m h e = e

-- and can be heard in the next tick
pub content_fits : (clock : Bool) (me n period tick q : ℕ) (m : Message) → 1 ≤ q → q ≤ n → q ≢ me → content_in clock n period tick m ≡ true → fits_message clock me n period (tick + 1) q m ≡ true
unfolding clockFitMessage
content_fits true me n period tick q m low high ne e =
    let t : tick + 1 - 1 ≡ tick = omega arith in
    rw (of_within 1 q n low high, ne_eqb q me ne, t) (both (counts_in 0 m.counts) (within period m.stamp (period + tick)) e).1
content_fits false me n period tick q m low high ne e =
    of_message me n q m.counts (record { low = low; high = high; other = ne; counts = counts_of n m.counts (both (counts_in n m.counts) (eqb m.stamp 0) e).0 })

-- what the rules leave alone
pub expiring_of-unchanged : (clock : Bool) (me : ℕ) (x : Station) → Unchanged x (expiring_of clock me x)
expiring_of-unchanged true me x = unmoved.expired-unchanged me x
expiring_of-unchanged false me x = expired-unchanged me x

module _ (s : System) where
  pub hearing-unchanged : (me q : ℕ) (m : Message) (now : ℕ) (x : Station) → Unchanged x (hearing s me q m now x)
  hearing-unchanged me q m now x = go s.clock
    where
      go : (clock : Bool) → Unchanged x (hearing_of clock s.ranks me q m now x)
      go true = unmoved.heard-unchanged me q m.stamp now x
      go false = heard-unchanged s.ranks me q m.counts now x

  pub hearing-timeouts : (me q : ℕ) (m : Message) (now : ℕ) (x : Station) → ((hearing s me q m now x).timeouts ≡ x.timeouts) × ((hearing s me q m now x).timeout ≡ x.timeout)
  hearing-timeouts me q m now x = go s.clock
    where
      go : (clock : Bool) → ((hearing_of clock s.ranks me q m now x).timeouts ≡ x.timeouts) × ((hearing_of clock s.ranks me q m now x).timeout ≡ x.timeout)
      go true = (unmoved.heard-timeouts me q m.stamp now x, unmoved.heard-timeout me q m.stamp now x)
      go false = (heard-timeouts s.ranks me q m.counts now x, heard-timeout s.ranks me q m.counts now x)

  pub expiring-unchanged : (me : ℕ) (x : Station) → Unchanged x (expiring s me x)
  expiring-unchanged me x = expiring_of-unchanged s.clock me x

  -- a send chance
  module _ (me now : ℕ) (x : Station) where
    pub slotting-up : (slotting s me now x).up ≡ x.up
    slotting-up = go s.clock
      where
        go : (clock : Bool) → (slotting_of clock me s.period now x).up ≡ x.up
        go true = unmoved.slotted-up me s.period now x
        go false = slotted-elim (λ (y : Station). y.up ≡ x.up) s.period now x refl

    pub slotting-count : (slotting s me now x).incarnation ≡ x.incarnation
    slotting-count = go s.clock
      where
        go : (clock : Bool) → (slotting_of clock me s.period now x).incarnation ≡ x.incarnation
        go true = unmoved.slotted-count me s.period now x
        go false = slotted-elim (λ (y : Station). y.incarnation ≡ x.incarnation) s.period now x refl

    pub slotting-slot : (slotting s me now x).slot ≡ now + s.period
    slotting-slot = go s.clock
      where
        go : (clock : Bool) → (slotting_of clock me s.period now x).slot ≡ now + s.period
        go true = unmoved.slotted-slot me s.period now x
        go false = slotted-elim (λ (y : Station). y.slot ≡ now + s.period) s.period now x refl

-- an up station trusts no number past the last station's
pub fits-leader : (me n period tick : ℕ) (x : Station) (clock : Bool) → fits clock me n period tick x ≡ true → x.up ≡ true → x.leader ≤ n
fits-leader me n period tick x true e u = go (clock-fit-of me n period tick x e u).0.living.leader
  where
    go : Trusts n x → x.leader ≤ n
    go (inl h) = h.1
    go (inr h) = omega (arith, h.0)
fits-leader me n period tick x false e u = (flash-fit-of me n period tick x e u).0.living.leader_high
