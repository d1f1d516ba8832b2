-- Each rule of a head with a running clock keeps what fits: from the end of one tick, through hearing, the timer's end and the send chance,
-- to the end of the next.
use mathlib.Core.Path.{◌≡◌, refl, sym, ◌∙◌}
use mathlib.Core.Logic.{◌⊎◌, ◌≢◌}
use mathlib.Core.Logic.◌⊎◌.{inl, inr}
use mathlib.Core.Bool.{true, false, false≢true}
use Prim.Native.Nat.{ℕ, ◌+◌, ◌-◌, ◌≤◌}
use native.Mathlib.Decide.{dec_le}
use native.Mathlib.Omega.{arith}
use Rattle.station.specs.Limits.{last_tick, longest}
use Rattle.station.specs.Rules.{trusting, pacing, crashed}
use Rattle.station.specs.declared.Station.{Station}
use Rattle.station.proofs.Elimination.{crashed-elim}
use Rattle.fit.specs.Fit.{within, vectorless}
use Rattle.fit.proofs.Handed.{InTick, Before}
use Rattle.fit.proofs.Keeps.{Next, before-next}
use Rattle.fit.proofs.Tests.{of_within}
use Rattle.clock.specs.Fit.{fit, fit_start, fit_crash, fit_expire, fit_message, fit_hear, fit_slot}
use Rattle.clock.specs.Rules.{bounding, started, heard, expired, slotted, carried}
use Rattle.clock.proofs.Between.{start_of, crash-of}
use Rattle.clock.proofs.Down.{down_fits}
use Rattle.clock.proofs.Elimination.{heard-elim, slotted-elim}
use Rattle.clock.proofs.Handed.{JustSet, Hearing, Expiring, Unended, Ended, Slotting, message-of, hearing-of, of_hearing, expiring-of, of_expiring, slotting-of, of_slotting}
use Rattle.clock.proofs.Tests.{Kept, Trusts, Alive, Timer, Standing, kept_same, zeros-empty, fit-ranges, fit_of, of_fit}

-- stamps that are low enough stay so
later : (n period tick tick' : ℕ) (s : Station) → tick ≤ tick' → Alive n period tick s → Alive n period tick' s
later n period tick tick' s h l =
    record {
      up = l.up;
      leader = l.leader;
      stamp-low = l.stamp-low;
      stamp-high = omega (arith, l.stamp-high);
      lowest_low = l.lowest_low;
      lowest_high = l.lowest_high;
    }

-- a station in a tick, between two messages: its timer is that of the tick before, or was set in this tick
pub record During (me n period tick : ℕ) (s : Station) : Type 0 where
  pub values : InTick me n period tick
  pub kept : Kept me s
  pub stands : Standing n period (tick - 1) s
  pub timer : Timer me (tick - 1) s ⊎ JustSet me tick s

module _ (me n period tick : ℕ) (s : Station) where
  -- it begins with a station that fits the end of the tick before
  pub fit-during : 1 ≤ tick → tick ≤ 1000000 → fit me n period (tick - 1) s ≡ true → s.up ≡ true → During me n period tick s
  fit-during low high e u =
      let (r, k) = fit-ranges me n period (tick - 1) s e in
      let (st, t) = fit_of me n period (tick - 1) s e u in
      record { values = record { tick-low = low; tick-high = high; given = r }; kept = k; stands = st; timer = inl t }

  -- so a first message can be heard
  pub fit-hears : (q z : ℕ) → 1 ≤ tick → tick ≤ 1000000 → fit me n period (tick - 1) s ≡ true → s.up ≡ true → fit_message me n period tick q z ≡ true → fit_hear me n period tick q z s ≡ true
  fit-hears q z low high e u m =
      let (r, k) = fit-ranges me n period (tick - 1) s e in
      let (st, t) = fit_of me n period (tick - 1) s e u in
      of_hearing me n period tick q z s
      (record { values = record { tick-low = low; tick-high = high; given = r }; kept = k; message = message-of me n period tick q z m; stands = st; timer = inl t })

module _ (me n period tick q z : ℕ) (s : Station) (h : Hearing me n period tick q z s) where
  -- hearing leaves a station that stands, whose timer is the old one or was set in this tick by q or before it
  abbrev After : Station → Type 0
  After x = Kept me x × Standing n period (tick - 1) x × (Timer me (tick - 1) x ⊎ (JustSet me tick x × ((x.leader ≡ q) ⊎ Before period tick q x)))

  heard-after : After (heard me q z tick s)
  heard-after = heard-elim After me q z tick s (λ low. (kept_same me s _ refl refl refl refl h.kept, stands low, inr (set, inl refl))) (h.kept, h.stands, stays h.timer)
    where
      stands : z ≤ s.lowest → Standing n period (tick - 1) (bounding z s.timeout (trusting q (tick + s.timeout) s))
      stands low =
          let l : Alive n period (tick - 1) s = h.stands.living in
          record {
            living = record {
              up = l.up;
              leader = inl (h.message.low, h.message.high);
              stamp-low = l.stamp-low;
              stamp-high = l.stamp-high;
              lowest_low = h.message.stamp-low;
              lowest_high = omega (arith, l.lowest_high);
            };
            timeout-low = h.stands.timeout-low;
            timeout-high = h.stands.timeout-high;
            slot_low = h.stands.slot_low;
            slot_high = h.stands.slot_high;
          }

      set : JustSet me tick (bounding z s.timeout (trusting q (tick + s.timeout) s))
      set = record { some = λ e. omega (arith, h.message.low); other = h.message.other; ends = refl }

      stays : Timer me (tick - 1) s ⊎ (JustSet me tick s × Before period tick q s) → Timer me (tick - 1) s ⊎ (JustSet me tick s × ((s.leader ≡ q) ⊎ Before period tick q s))
      stays (inl t) = inl t
      stays (inr t) = inr (t.0, inr t.1)

-- so the tick goes on from there
pub heard-during : (me n period tick q z : ℕ) (s : Station) → fit_hear me n period tick q z s ≡ true → During me n period tick (heard me q z tick s)
heard-during me n period tick q z s e =
    let h : Hearing me n period tick q z s = hearing-of me n period tick q z s e in
    let (k, st, t) = heard-after me n period tick q z s h in
    record { values = h.values; kept = k; stands = st; timer = ran (heard me q z tick s) t }
  where
    ran : (x : Station) → Timer me (tick - 1) x ⊎ (JustSet me tick x × ((x.leader ≡ q) ⊎ Before period tick q x)) → Timer me (tick - 1) x ⊎ JustSet me tick x
    ran x (inl t) = inl t
    ran x (inr t) = inr t.0

-- and the next message can be heard
pub hear_keeps : (me n period tick q q' z z' : ℕ) (s : Station) → fit_hear me n period tick q z s ≡ true → Next period tick q q' → fit_message me n period tick q' z' ≡ true → fit_hear me n period tick q' z' (heard me q z tick s) ≡ true
hear_keeps me n period tick q q' z z' s e nx m =
    let h : Hearing me n period tick q z s = hearing-of me n period tick q z s e in
    let (k, st, t) = heard-after me n period tick q z s h in
    of_hearing me n period tick q' z' (heard me q z tick s) (record { values = h.values; kept = k; message = message-of me n period tick q' z' m; stands = st; timer = ran (heard me q z tick s) t })
  where
    ran : (x : Station) → Timer me (tick - 1) x ⊎ (JustSet me tick x × ((x.leader ≡ q) ⊎ Before period tick q x)) → Timer me (tick - 1) x ⊎ (JustSet me tick x × Before period tick q' x)
    ran x (inl t) = inl t
    ran x (inr t) = inr (t.0, before-next period tick q q' x t.1 nx)

module _ (me n period tick : ℕ) (s : Station) where
  -- a timer that has not ended runs on
  runs : InTick me n period tick → period ≤ s.timeout → (Timer me (tick - 1) s × (s.timer ≢ tick)) ⊎ JustSet me tick s → Timer me tick s
  runs v low (inl x) =
      record {
        none = x.0.none;
        self = x.0.self;
        on = λ a b. (let (y, w) = x.0.on a b in let z : s.timer ≢ tick = x.1 in (omega arith, omega arith));
      }
  runs v low (inr j) =
      record {
        none = λ e. absurd (j.some e);
        self = λ e. absurd (j.other e);
        on = λ a b. (omega (arith, j.ends, v.given.period-low), omega (arith, j.ends));
      }

  -- a timer that is not due now has not ended
  unended : During me n period tick s → s.timer ≢ tick → (Timer me (tick - 1) s × (s.timer ≢ tick)) ⊎ JustSet me tick s
  unended d ne = go d.timer
    where
      go : Timer me (tick - 1) s ⊎ JustSet me tick s → (Timer me (tick - 1) s × (s.timer ≢ tick)) ⊎ JustSet me tick s
      go (inl t) = inl (t, ne)
      go (inr t) = inr t

  -- a timer that is due can end: it was not set in this tick
  pub during_expires : During me n period tick s → s.timer ≡ tick → fit_expire me n period tick s ≡ true
  during_expires d e = of_expiring me n period tick s (record { values = d.values; kept = d.kept; stands = d.stands; timer = go d.timer; now = e })
    where
      go : Timer me (tick - 1) s ⊎ JustSet me tick s → Timer me (tick - 1) s
      go (inl t) = t
      go (inr j) = absurd (omega (arith, j.ends, d.stands.timeout-low, d.values.given.period-low))

  -- a send chance that is due can come
  pub during_slots : During me n period tick s → s.timer ≢ tick → s.slot ≡ tick → fit_slot me n period tick s ≡ true
  during_slots d ne e =
      of_slotting me n period tick s
      (record {
        values = d.values;
        kept = d.kept;
        living = d.stands.living;
        now = e;
        timer = inl (record { timeout-low = d.stands.timeout-low; timeout-high = d.stands.timeout-high; timer = unended d ne });
      })

  -- and where nothing is due the station fits the end of the tick
  pub during_fits : During me n period tick s → s.timer ≢ tick → s.slot ≢ tick → fit me n period tick s ≡ true
  during_fits d ne ns =
      of_fit me n period tick s d.values.given d.kept
      (record {
        living = later n period (tick - 1) tick s (omega arith) d.stands.living;
        timeout-low = d.stands.timeout-low;
        timeout-high = omega (arith, d.stands.timeout-high);
        slot_low = omega (arith, d.stands.slot_low);
        slot_high = omega (arith, d.stands.slot_high);
      })
      (runs d.values d.stands.timeout-low (unended d ne))

  -- in a tick a timeout leaves room for a sum, and a timer that is due runs for a station
  pub during_timeout : During me n period tick s → s.timeout ≤ longest last_tick
  during_timeout d = omega (arith, d.stands.timeout-high, d.values.tick-high, d.values.given.period-high)

  pub during_leader : During me n period tick s → s.timer ≡ tick → (1 ≤ s.leader) × (s.leader ≤ 8)
  during_leader d e =
      let x : Expiring me n period tick s = expiring-of me n period tick s (during_expires d e) in
      go x x.stands.living.leader
    where
      go : Expiring me n period tick s → Trusts n s → (1 ≤ s.leader) × (s.leader ≤ 8)
      go x (inl l) = (l.0, omega (arith, l.1, d.values.given.n-high))
      go x (inr l) = let z : s.timer ≡ 0 = x.timer.none l.0 in absurd (omega (arith, d.values.tick-low))

  -- the end of a timer leaves a station that fits what comes next in the tick
  expired-living : Expiring me n period tick s → (now : ℕ) → tick - 1 ≤ now → Alive n period now (expired me s)
  unfolding expired
  expired-living x now h =
      let l : Alive n period (tick - 1) s = x.stands.living in
      record {
        up = l.up;
        leader = inl (x.values.given.me_low, x.values.given.me_high);
        stamp-low = l.stamp-low;
        stamp-high = omega (arith, l.stamp-high);
        lowest_low = l.stamp-low;
        lowest_high = omega arith;
      }

  expired-timer : (now : ℕ) → Timer me now (expired me s)
  unfolding expired
  expired-timer now = record { none = λ e. refl; self = λ e. refl; on = λ a b. absurd (b refl) }

  expired-kept : Expiring me n period tick s → Kept me (expired me s)
  unfolding expired
  expired-kept x = kept_same me s (expired me s) refl refl refl refl x.kept

  pub expire_fits : fit_expire me n period tick s ≡ true → s.slot ≢ tick → fit me n period tick (expired me s) ≡ true
  unfolding expired
  expire_fits e ns =
      let x : Expiring me n period tick s = expiring-of me n period tick s e in
      of_fit me n period tick (expired me s) x.values.given (expired-kept x)
      (record {
        living = expired-living x tick (omega arith);
        timeout-low = omega (arith, x.stands.timeout-low);
        timeout-high = omega (arith, x.stands.timeout-high, x.values.tick-low);
        slot_low = omega (arith, x.stands.slot_low);
        slot_high = omega (arith, x.stands.slot_high);
      })
      (expired-timer tick)

  pub expire_slots : fit_expire me n period tick s ≡ true → s.slot ≡ tick → fit_slot me n period tick (expired me s) ≡ true
  unfolding expired
  expire_slots e es =
      let x : Expiring me n period tick s = expiring-of me n period tick s e in
      of_slotting me n period tick (expired me s)
      (record { values = x.values; kept = expired-kept x; living = expired-living x (tick - 1) (omega arith); now = es; timer = either_way x (dec_le (s.timeout + 1) (period + (tick - 1))) })
    where
      either_way : Expiring me n period tick s → Dec (s.timeout + 1 ≤ period + (tick - 1)) → Unended me period tick (expired me s) ⊎ Ended me period tick (expired me s)
      either_way x (yes room) =
          inl (record { timeout-low = omega (arith, x.stands.timeout-low); timeout-high = room; timer = inl (expired-timer (tick - 1), (λ z. omega (arith, x.values.tick-low))) })
      either_way x (no full) =
          inr (record { self = refl; stopped = refl; lowest = refl; timeout = omega (arith, x.stands.timeout-high, x.values.tick-low) })

  -- a send chance leaves a station that fits the end of the tick
  pub slot_keeps : fit_slot me n period tick s ≡ true → fit me n period tick (slotted me period tick s) ≡ true
  slot_keeps e =
      slotted-elim (λ y. fit me n period tick y ≡ true) me period tick s
      (λ r l. with me 0 (x.values.given.me_low, x.values.given.me_high) (record { none = λ i. refl; self = λ i. refl; on = λ a b. absurd (b refl) }))
      (λ r some other. with s.leader (tick + s.timeout) (someone some x.living.leader) (record { none = λ i. absurd (some i); self = λ i. absurd (other i); on = λ a b. (omega (arith, timeout-is.0, x.values.given.period-low), omega arith) }))
      (λ stays. let t : Timer me tick s = ran x.timer in with s.leader s.timer (led stays x.living.leader) (record { none = t.none; self = t.self; on = t.on }))
    where
      x : Slotting me n period tick s
      x = slotting-of me n period tick s e

      timeout-is : (period ≤ s.timeout) × (s.timeout ≤ period + tick)
      timeout-is = go x.timer
        where
          go : Unended me period tick s ⊎ Ended me period tick s → (period ≤ s.timeout) × (s.timeout ≤ period + tick)
          go (inl u) = (u.timeout-low, omega (arith, u.timeout-high))
          go (inr u) = (omega (arith, u.timeout), omega (arith, u.timeout))

      ran : Unended me period tick s ⊎ Ended me period tick s → Timer me tick s
      ran (inl u) = runs x.values u.timeout-low u.timer
      ran (inr u) = record { none = λ i. u.stopped; self = λ i. u.stopped; on = λ a b. absurd (b u.self) }

      someone : s.leader ≢ 0 → Trusts n s → (1 ≤ s.leader) × (s.leader ≤ n)
      someone some (inl l) = l
      someone some (inr l) = absurd (some l.0)

      led : (s.leader ≡ me) ⊎ (s.recovering ≡ false) → Trusts n s → (1 ≤ s.leader) × (s.leader ≤ n)
      led i (inl l) = l
      led (inl i) (inr l) = let z : s.leader ≡ 0 = l.0 in absurd (omega (arith, x.values.given.me_low))
      led (inr i) (inr l) = absurd (false≢true (sym i ∙ l.1))

      with : (leader timer : ℕ) → (1 ≤ leader) × (leader ≤ n) → Timer me tick (pacing s.stable (tick + period) (trusting leader timer s)) → fit me n period tick (pacing s.stable (tick + period) (trusting leader timer s)) ≡ true
      with leader timer l t =
          of_fit me n period tick (pacing s.stable (tick + period) (trusting leader timer s)) x.values.given (kept_same me s _ refl refl refl refl x.kept)
          (record {
            living = record {
              up = x.living.up;
              leader = inl l;
              stamp-low = x.living.stamp-low;
              stamp-high = omega (arith, x.living.stamp-high);
              lowest_low = x.living.lowest_low;
              lowest_high = x.living.lowest_high;
            };
            timeout-low = timeout-is.0;
            timeout-high = timeout-is.1;
            slot_low = omega (arith, x.values.given.period-low);
            slot_high = omega arith;
          })
          t

  -- and what it sends is a stamp of a tick before
  pub slot_carries : fit_slot me n period tick s ≡ true → (vectorless s ≡ true) × (within period (carried s) (period + tick) ≡ true)
  slot_carries e =
      let x : Slotting me n period tick s = slotting-of me n period tick s e in
      (x.kept.empty, of_within period s.stamp (period + tick) x.living.stamp-low (omega (arith, x.living.stamp-high)))

  -- a start leaves a station that fits
  pub start-keeps : fit_start me n period tick s ≡ true → fit me n period tick (started period tick s) ≡ true
  unfolding started
  start-keeps e =
      let (r, k) = fit-ranges me n period tick s (start_of me n period tick s e).1 in
      of_fit me n period tick (started period tick s) r (record { none = k.none; own = k.own; empty = zeros-empty (started period tick s) refl refl })
      (record {
        living = record { up = refl; leader = inr (refl, refl); stamp-low = omega arith; stamp-high = omega arith; lowest_low = omega arith; lowest_high = omega arith };
        timeout-low = omega arith;
        timeout-high = omega arith;
        slot_low = omega (arith, r.period-low);
        slot_high = omega arith;
      })
      (record { none = λ i. refl; self = λ i. refl; on = λ a b. absurd (a refl) })

  -- and so does a crash
  pub crash-keeps : fit_crash me n period tick s ≡ true → fit me n period tick (crashed s) ≡ true
  crash-keeps e =
      let (r, k) = fit-ranges me n period tick s (start_of me n period tick s (crash-of me n period tick s e).0).1 in
      crashed-elim (λ y. fit me n period tick y ≡ true) s (rw (k.none, k.own) (down_fits me n period tick r))
