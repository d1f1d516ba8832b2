-- What an operation of a head with a running clock is handed, as facts in arithmetic, both ways.
use mathlib.Core.Path.{◌≡◌}
use mathlib.Core.Logic.{◌⊎◌, ◌≢◌}
use mathlib.Core.Logic.◌⊎◌.{inl, inr}
use mathlib.Core.Bool.{true, not, ◌&&◌, ◌||◌}
use Prim.Native.Nat.{ℕ, ◌+◌, ◌-◌, ◌≤◌}
use lib.Dec.{eqb}
use borrow.Author.Tests.{eqb-true, eqb-false, eq-eqb, ne_eqb, not-true}
use Rattle.lists.proofs.Bools.{both, three, four, six, either, or_right}
use Rattle.station.specs.Limits.{last_tick}
use Rattle.station.specs.declared.Station.{Station}
use Rattle.fit.specs.Fit.{within, ranges, heard_before}
use Rattle.fit.proofs.Handed.{InTick, Before, before_of, of_before}
use Rattle.fit.proofs.Tests.{within_of, of_within, ranges-of, of_ranges}
use Rattle.clock.specs.Fit.{kept_in, alive, timeout_in, follows, timer_in, standing, fit, just_set, fit_expire, fit_message, fit_hear, unended, ended, fit_slot}
use Rattle.clock.proofs.Tests.{Kept, Alive, Timer, Standing, kept_of, of_kept, alive-of, of_alive, follows_of, of_follows, timer_of, of_timer, standing-of, of_standing, fit-ranges, fit_of, of_fit}

-- the timer was set in this tick, for another station
pub record JustSet (me tick : ℕ) (s : Station) : Type 0 where
  pub some : s.leader ≢ 0
  pub other : s.leader ≢ me
  pub ends : s.timer ≡ tick + s.timeout

module _ (me tick : ℕ) (s : Station) where
  pub just_set-of : just_set me tick s ≡ true → JustSet me tick s
  unfolding just_set
  just_set-of e =
      let (f, a) = both (follows me s) (eqb s.timer (tick + s.timeout)) e in
      let (some, other) = follows_of me s f in
      record { some = some; other = other; ends = eqb-true s.timer (tick + s.timeout) a }

  pub of_just_set : JustSet me tick s → just_set me tick s ≡ true
  unfolding just_set
  of_just_set j = rw (of_follows me s j.some j.other, eq-eqb s.timer (tick + s.timeout) j.ends)

-- a message from another station, with a stamp of a tick before
pub record Message (me n period tick q z : ℕ) : Type 0 where
  pub low : 1 ≤ q
  pub high : q ≤ n
  pub other : q ≢ me
  pub stamp-low : period ≤ z
  pub stamp-high : z ≤ period + (tick - 1)

module _ (me n period tick q z : ℕ) where
  pub message-of : fit_message me n period tick q z ≡ true → Message me n period tick q z
  unfolding fit_message
  message-of e =
      let (a, b, c) = three (within 1 q n) (not (eqb q me)) (within period z (period + (tick - 1))) e in
      let (low, high) = within_of 1 q n a in
      let (stamp-low, stamp-high) = within_of period z (period + (tick - 1)) c in
      record { low = low; high = high; other = eqb-false q me (not-true (eqb q me) b); stamp-low = stamp-low; stamp-high = stamp-high }

  pub of_message : Message me n period tick q z → fit_message me n period tick q z ≡ true
  unfolding fit_message
  of_message m =
      rw (of_within 1 q n m.low m.high, ne_eqb q me m.other, of_within period z (period + (tick - 1)) m.stamp-low m.stamp-high)

-- what hearing LEADER is handed
pub record Hearing (me n period tick q z : ℕ) (s : Station) : Type 0 where
  pub values : InTick me n period tick
  pub kept : Kept me s
  pub message : Message me n period tick q z
  pub stands : Standing n period (tick - 1) s
  pub timer : Timer me (tick - 1) s ⊎ (JustSet me tick s × Before period tick q s)

module _ (me n period tick q z : ℕ) (s : Station) where
  pub hearing-of : fit_hear me n period tick q z s ≡ true → Hearing me n period tick q z s
  unfolding fit_hear
  hearing-of e =
      let (a, b, c, d, f, g) = six (within 1 tick last_tick) (ranges me n period) (kept_in me s) (fit_message me n period tick q z) (standing n period (tick - 1) s) (timer_in me (tick - 1) s || (just_set me tick s && heard_before period tick q s)) e in
      let (low, high) = within_of 1 tick last_tick a in
      record {
        values = record { tick-low = low; tick-high = high; given = ranges-of me n period b };
        kept = kept_of me s c;
        message = message-of me n period tick q z d;
        stands = standing-of n period (tick - 1) s f;
        timer = go (either (timer_in me (tick - 1) s) (just_set me tick s && heard_before period tick q s) g);
      }
    where
      go : (timer_in me (tick - 1) s ≡ true) ⊎ ((just_set me tick s && heard_before period tick q s) ≡ true) → Timer me (tick - 1) s ⊎ (JustSet me tick s × Before period tick q s)
      go (inl t) = inl (timer_of me (tick - 1) s t)
      go (inr t) =
          let (j, b) = both (just_set me tick s) (heard_before period tick q s) t in
          inr (just_set-of me tick s j, before_of period tick q s b)

  pub of_hearing : Hearing me n period tick q z s → fit_hear me n period tick q z s ≡ true
  unfolding fit_hear
  of_hearing h =
      rw (of_within 1 tick last_tick h.values.tick-low h.values.tick-high, of_ranges me n period h.values.given, of_kept me s h.kept, of_message me n period tick q z h.message, of_standing n period (tick - 1) s h.stands)
      (go h.timer)
    where
      go : Timer me (tick - 1) s ⊎ (JustSet me tick s × Before period tick q s) → (timer_in me (tick - 1) s || (just_set me tick s && heard_before period tick q s)) ≡ true
      go (inl t) = rw (of_timer me (tick - 1) s t)
      go (inr t) =
          or_right (timer_in me (tick - 1) s) (just_set me tick s && heard_before period tick q s)
          (rw (of_just_set me tick s t.0, of_before period tick q s t.1))

-- what the end of a timer is handed
pub record Expiring (me n period tick : ℕ) (s : Station) : Type 0 where
  pub values : InTick me n period tick
  pub kept : Kept me s
  pub stands : Standing n period (tick - 1) s
  pub timer : Timer me (tick - 1) s
  pub now : s.timer ≡ tick

module _ (me n period tick : ℕ) (s : Station) where
  pub expiring-of : fit_expire me n period tick s ≡ true → Expiring me n period tick s
  unfolding fit_expire
  expiring-of e =
      let (a, b, c, d) = four (within 1 tick last_tick) (fit me n period (tick - 1) s) s.up (eqb s.timer tick) e in
      let (low, high) = within_of 1 tick last_tick a in
      let (r, k) = fit-ranges me n period (tick - 1) s b in
      let (st, t) = fit_of me n period (tick - 1) s b c in
      record {
        values = record { tick-low = low; tick-high = high; given = r };
        kept = k;
        stands = st;
        timer = t;
        now = eqb-true s.timer tick d;
      }

  pub of_expiring : Expiring me n period tick s → fit_expire me n period tick s ≡ true
  unfolding fit_expire
  of_expiring x =
      rw (of_within 1 tick last_tick x.values.tick-low x.values.tick-high, of_fit me n period (tick - 1) s x.values.given x.kept x.stands x.timer, x.stands.living.up, eq-eqb s.timer tick x.now)

-- the timer did not end in this tick, or it did and raised the timeout to the highest
pub record Unended (me period tick : ℕ) (s : Station) : Type 0 where
  pub timeout-low : period ≤ s.timeout
  pub timeout-high : s.timeout ≤ period + (tick - 1)
  pub timer : (Timer me (tick - 1) s × (s.timer ≢ tick)) ⊎ JustSet me tick s

pub record Ended (me period tick : ℕ) (s : Station) : Type 0 where
  pub self : s.leader ≡ me
  pub stopped : s.timer ≡ 0
  pub lowest : s.lowest ≡ s.stamp
  pub timeout : s.timeout ≡ period + tick

-- what a send chance is handed
pub record Slotting (me n period tick : ℕ) (s : Station) : Type 0 where
  pub values : InTick me n period tick
  pub kept : Kept me s
  pub living : Alive n period (tick - 1) s
  pub now : s.slot ≡ tick
  pub timer : Unended me period tick s ⊎ Ended me period tick s

module _ (me n period tick : ℕ) (s : Station) where
  unended-of : unended me period tick s ≡ true → Unended me period tick s
  unfolding unended
  unended-of e =
      let (a, b) = both (timeout_in period (tick - 1) s) ((timer_in me (tick - 1) s && not (eqb s.timer tick)) || just_set me tick s) e in
      let (low, high) = within_of period s.timeout (period + (tick - 1)) a in
      record { timeout-low = low; timeout-high = high; timer = go (either (timer_in me (tick - 1) s && not (eqb s.timer tick)) (just_set me tick s) b) }
    where
      go : ((timer_in me (tick - 1) s && not (eqb s.timer tick)) ≡ true) ⊎ (just_set me tick s ≡ true) → (Timer me (tick - 1) s × (s.timer ≢ tick)) ⊎ JustSet me tick s
      go (inl x) =
          let (t, u) = both (timer_in me (tick - 1) s) (not (eqb s.timer tick)) x in
          inl (timer_of me (tick - 1) s t, eqb-false s.timer tick (not-true (eqb s.timer tick) u))
      go (inr x) = inr (just_set-of me tick s x)

  of_unended : Unended me period tick s → unended me period tick s ≡ true
  unfolding unended
  of_unended u = rw (of_within period s.timeout (period + (tick - 1)) u.timeout-low u.timeout-high) (go u.timer)
    where
      go : (Timer me (tick - 1) s × (s.timer ≢ tick)) ⊎ JustSet me tick s → ((timer_in me (tick - 1) s && not (eqb s.timer tick)) || just_set me tick s) ≡ true
      go (inl x) = rw (of_timer me (tick - 1) s x.0, ne_eqb s.timer tick x.1)
      go (inr x) = or_right (timer_in me (tick - 1) s && not (eqb s.timer tick)) (just_set me tick s) (of_just_set me tick s x)

  ended_of : ended me period tick s ≡ true → Ended me period tick s
  unfolding ended
  ended_of e =
      let (a, b, c, d) = four (eqb s.leader me) (eqb s.timer 0) (eqb s.lowest s.stamp) (eqb s.timeout (period + tick)) e in
      record {
        self = eqb-true s.leader me a;
        stopped = eqb-true s.timer 0 b;
        lowest = eqb-true s.lowest s.stamp c;
        timeout = eqb-true s.timeout (period + tick) d;
      }

  of_ended : Ended me period tick s → ended me period tick s ≡ true
  unfolding ended
  of_ended x =
      rw (eq-eqb s.leader me x.self, eq-eqb s.timer 0 x.stopped, eq-eqb s.lowest s.stamp x.lowest, eq-eqb s.timeout (period + tick) x.timeout)

  pub slotting-of : fit_slot me n period tick s ≡ true → Slotting me n period tick s
  unfolding fit_slot
  slotting-of e =
      let (a, b, c, d, f, g) = six (within 1 tick last_tick) (ranges me n period) (kept_in me s) (alive n period (tick - 1) s) (eqb s.slot tick) (unended me period tick s || ended me period tick s) e in
      let (low, high) = within_of 1 tick last_tick a in
      record {
        values = record { tick-low = low; tick-high = high; given = ranges-of me n period b };
        kept = kept_of me s c;
        living = alive-of n period (tick - 1) s d;
        now = eqb-true s.slot tick f;
        timer = go (either (unended me period tick s) (ended me period tick s) g);
      }
    where
      go : (unended me period tick s ≡ true) ⊎ (ended me period tick s ≡ true) → Unended me period tick s ⊎ Ended me period tick s
      go (inl x) = inl (unended-of x)
      go (inr x) = inr (ended_of x)

  pub of_slotting : Slotting me n period tick s → fit_slot me n period tick s ≡ true
  unfolding fit_slot
  of_slotting x =
      rw (of_within 1 tick last_tick x.values.tick-low x.values.tick-high, of_ranges me n period x.values.given, of_kept me s x.kept, of_alive n period (tick - 1) s x.living, eq-eqb s.slot tick x.now)
      (go x.timer)
    where
      go : Unended me period tick s ⊎ Ended me period tick s → (unended me period tick s || ended me period tick s) ≡ true
      go (inl u) = rw (of_unended u)
      go (inr u) = or_right (unended me period tick s) (ended me period tick s) (of_ended u)
