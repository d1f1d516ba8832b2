-- What an operation is handed, as facts in arithmetic, both ways.
use mathlib.Core.Path.{◌≡◌}
use mathlib.Core.Logic.{◌⊎◌, ◌≢◌}
use mathlib.Core.Logic.◌⊎◌.{inl, inr}
use mathlib.Core.List.{List}
use mathlib.Core.Bool.{true, not, ◌&&◌, ◌||◌}
use Prim.Native.Nat.{ℕ, ◌+◌, ◌-◌, ◌<◌, ◌≤◌, min}
use native.Mathlib.Omega.{arith}
use lib.Dec.{leb, ltb, eqb}
use borrow.Author.Tests.{ltb-true, leb-true, eqb-true, eqb-false, lt-ltb, le-leb, eq-eqb, ne_eqb, not-true}
use Rattle.lists.proofs.Bools.{both, three, four, five, either, or_right}
use Rattle.station.specs.Order.{entry, precedes}
use Rattle.fit.specs.Fit.{flight, within, ranges, kept_in, counts_in, ranks_in, timeouts_in, alive, timer_in, standing, fit, just_set, timeouts_at, fit_expire, in_tick, fit_message, heard_before, fit_hear, unended, ended, fit_slot}
use Rattle.station.specs.Limits.{last_tick, longest}
use Rattle.station.specs.declared.Station.{Station}
use Rattle.station.proofs.Candidates.{Ranked, key_of, precedes-less, less_precedes}
use Rattle.fit.proofs.Tests.{Ranges, Kept, Counts, Timeouts, Alive, Timer, Standing, within_of, of_within, ranges-of, of_ranges, kept_of, of_kept, counts_of, of_counts, ranked_of, timeouts-of, of_timeouts, alive-of, of_alive, timer_of, of_timer, standing-of, of_standing, fit-ranges, fit_of, of_fit}

-- the timer was set in this tick
pub record JustSet (ranks : List ℕ) (me tick : ℕ) (s : Station) : Type 0 where
  pub ends : s.timer ≡ tick + entry s.timeouts s.leader
  pub first : key_of ranks s.recovered s.leader < key_of ranks s.recovered me

module _ (ranks : List ℕ) (me tick : ℕ) (s : Station) (ranked : Ranked ranks) (hm : me ≤ 8) (hl : s.leader ≤ 8) where
  pub just_set-of : just_set ranks me tick s ≡ true → JustSet ranks me tick s
  unfolding just_set
  just_set-of e =
      let (a, b) = both (eqb s.timer (tick + entry s.timeouts s.leader)) (precedes ranks s.recovered s.leader me) e in
      record { ends = eqb-true s.timer (tick + entry s.timeouts s.leader) a; first = precedes-less ranks s.recovered s.leader me ranked hl hm b }

  pub of_just_set : JustSet ranks me tick s → just_set ranks me tick s ≡ true
  unfolding just_set
  of_just_set j =
      rw (eq-eqb s.timer (tick + entry s.timeouts s.leader) j.ends, less_precedes ranks s.recovered s.leader me ranked hl hm j.first)

-- the values that a tick gives
pub record InTick (me n period tick : ℕ) : Type 0 where
  pub tick-low : 1 ≤ tick
  pub tick-high : tick ≤ 1000000
  pub given : Ranges me n period

module _ (ranks : List ℕ) (me n period tick : ℕ) where
  in_tick-of : in_tick ranks me n period tick ≡ true → InTick me n period tick × (ranks_in n ranks ≡ true)
  unfolding in_tick
  in_tick-of e =
      let (a, b, c) = three (within 1 tick last_tick) (ranges me n period) (ranks_in n ranks) e in
      let (low, high) = within_of 1 tick last_tick a in
      (record { tick-low = low; tick-high = high; given = ranges-of me n period b }, c)

  of_in_tick : InTick me n period tick → ranks_in n ranks ≡ true → in_tick ranks me n period tick ≡ true
  unfolding in_tick
  of_in_tick w e = rw (of_within 1 tick last_tick w.tick-low w.tick-high, of_ranges me n period w.given, e)

-- a message from another station
pub record Message (me n q : ℕ) (v : List ℕ) : Type 0 where
  pub low : 1 ≤ q
  pub high : q ≤ n
  pub other : q ≢ me
  pub counts : Counts n v

module _ (me n q : ℕ) (v : List ℕ) where
  pub message-of : fit_message me n q v ≡ true → Message me n q v
  unfolding fit_message
  message-of e =
      let (a, b, c) = three (within 1 q n) (not (eqb q me)) (counts_in n v) e in
      let (low, high) = within_of 1 q n a in
      record { low = low; high = high; other = eqb-false q me (not-true (eqb q me) b); counts = counts_of n v c }

  pub of_message : Message me n q v → fit_message me n q v ≡ true
  unfolding fit_message
  of_message m = rw (of_within 1 q n m.low m.high, ne_eqb q me m.other, of_counts n v m.counts)

-- the leader was heard in this tick before a message from q
abbrev pub Before : ℕ → ℕ → ℕ → Station → Type 0
Before period tick q s = (s.leader < q) ⊎ ((s.leader ≡ q) × (period ≤ min (tick - 1) flight))

module _ (period tick q : ℕ) (s : Station) where
  pub before_of : heard_before period tick q s ≡ true → Before period tick q s
  unfolding heard_before
  before_of e = go (either (ltb s.leader q) (eqb s.leader q && leb period (min (tick - 1) flight)) e)
    where
      go : (ltb s.leader q ≡ true) ⊎ ((eqb s.leader q && leb period (min (tick - 1) flight)) ≡ true) → Before period tick q s
      go (inl a) = inl (ltb-true s.leader q a)
      go (inr a) =
          let (b, c) = both (eqb s.leader q) (leb period (min (tick - 1) flight)) a in
          inr (eqb-true s.leader q b, leb-true period (min (tick - 1) flight) c)

  pub of_before : Before period tick q s → heard_before period tick q s ≡ true
  unfolding heard_before
  of_before (inl a) = rw (lt-ltb s.leader q a)
  of_before (inr a) = or_right (ltb s.leader q) (eqb s.leader q && leb period (min (tick - 1) flight)) (rw (eq-eqb s.leader q a.0, le-leb period (min (tick - 1) flight) a.1))

-- what hearing LEADER is handed
pub record Hearing (ranks : List ℕ) (me n period tick q : ℕ) (v : List ℕ) (s : Station) : Type 0 where
  pub values : InTick me n period tick
  pub ranked : ranks_in n ranks ≡ true
  pub kept : Kept n s.incarnation s.stable
  pub message : Message me n q v
  pub stands : Standing me n period (tick - 1) s
  pub timer : Timer me (tick - 1) s ⊎ (JustSet ranks me tick s × Before period tick q s)

module _ (ranks : List ℕ) (me n period tick q : ℕ) (v : List ℕ) (s : Station) where
  pub hearing-of : fit_hear ranks me n period tick q v s ≡ true → Hearing ranks me n period tick q v s
  unfolding fit_hear
  hearing-of e =
      let (a, c, d, f, g) = five (in_tick ranks me n period tick) (kept_in n s) (fit_message me n q v) (standing me n period (tick - 1) s) (timer_in me (tick - 1) s || (just_set ranks me tick s && heard_before period tick q s)) e in
      let (w, i) = in_tick-of ranks me n period tick a in
      let r : Ranges me n period = w.given in
      let st : Standing me n period (tick - 1) s = standing-of me n period (tick - 1) s f in
      record {
        values = w;
        ranked = i;
        kept = kept_of n s c;
        message = message-of me n q v d;
        stands = st;
        timer = go r (ranked_of n ranks i) st (either (timer_in me (tick - 1) s) (just_set ranks me tick s && heard_before period tick q s) g);
      }
    where
      go : Ranges me n period → Ranked ranks → Standing me n period (tick - 1) s → (timer_in me (tick - 1) s ≡ true) ⊎ ((just_set ranks me tick s && heard_before period tick q s) ≡ true) → Timer me (tick - 1) s ⊎ (JustSet ranks me tick s × Before period tick q s)
      go r i st (inl t) = inl (timer_of me (tick - 1) s t)
      go r i st (inr t) =
          let (j, b) = both (just_set ranks me tick s) (heard_before period tick q s) t in
          inr (just_set-of ranks me tick s i (omega (arith, r.me_high, r.n-high)) (omega (arith, st.living.leader_high, r.n-high)) j, before_of period tick q s b)

  pub of_hearing : Hearing ranks me n period tick q v s → fit_hear ranks me n period tick q v s ≡ true
  unfolding fit_hear
  of_hearing h =
      rw (of_in_tick ranks me n period tick h.values h.ranked, of_kept n s h.kept, of_message me n q v h.message, of_standing me n period (tick - 1) s h.stands)
      (go h.timer)
    where
      go : Timer me (tick - 1) s ⊎ (JustSet ranks me tick s × Before period tick q s) → (timer_in me (tick - 1) s || (just_set ranks me tick s && heard_before period tick q s)) ≡ true
      go (inl t) = rw (of_timer me (tick - 1) s t)
      go (inr t) =
          or_right (timer_in me (tick - 1) s) (just_set ranks me tick s && heard_before period tick q s)
          (rw (of_just_set ranks me tick s (ranked_of n ranks h.ranked) (omega (arith, h.values.given.me_high, h.values.given.n-high)) (omega (arith, h.stands.living.leader_high, h.values.given.n-high)) t.0, of_before period tick q s t.1))

-- what the end of a timer is handed
pub record Expiring (me n period tick : ℕ) (s : Station) : Type 0 where
  pub values : InTick me n period tick
  pub kept : Kept n s.incarnation s.stable
  pub stands : Standing me n period (tick - 1) s
  pub timer : Timer me (tick - 1) s
  pub now : s.timer ≡ tick

module _ (me n period tick : ℕ) (s : Station) where
  pub expiring-of : fit_expire me n period tick s ≡ true → Expiring me n period tick s
  unfolding fit_expire
  expiring-of e =
      let (a, b, c, d) = four (within 1 tick last_tick) (fit me n period (tick - 1) s) s.up (eqb s.timer tick) e in
      let (low, high) = within_of 1 tick last_tick a in
      let (r, k) = fit-ranges me n period (tick - 1) s b in
      let (st, t) = fit_of me n period (tick - 1) s b c in
      record {
        values = record { tick-low = low; tick-high = high; given = r };
        kept = k;
        stands = st;
        timer = t;
        now = eqb-true s.timer tick d;
      }

  pub of_expiring : Expiring me n period tick s → fit_expire me n period tick s ≡ true
  unfolding fit_expire
  of_expiring x =
      rw (of_within 1 tick last_tick x.values.tick-low x.values.tick-high, of_fit me n period (tick - 1) s x.values.given x.kept x.stands x.timer, x.stands.living.up, eq-eqb s.timer tick x.now)

-- the timer did not end in this tick, or it did and raised a timeout to the highest
pub record Unended (ranks : List ℕ) (me n period tick : ℕ) (s : Station) : Type 0 where
  pub timeouts : Timeouts me n period (longest (tick - 1)) s.timeouts
  pub timer : (Timer me (tick - 1) s × (s.timer ≢ tick)) ⊎ JustSet ranks me tick s

pub record Ended (me n period tick : ℕ) (s : Station) : Type 0 where
  pub self : s.leader ≡ me
  pub stopped : s.timer ≡ 0
  pub timeouts : Timeouts me n period (longest tick) s.timeouts
  pub one : timeouts_at (longest tick) s.timeouts ≡ 1

-- what a send chance is handed
pub record Slotting (ranks : List ℕ) (me n period tick : ℕ) (s : Station) : Type 0 where
  pub values : InTick me n period tick
  pub ranked : ranks_in n ranks ≡ true
  pub kept : Kept n s.incarnation s.stable
  pub living : Alive me n s
  pub now : s.slot ≡ tick
  pub timer : Unended ranks me n period tick s ⊎ Ended me n period tick s

module _ (ranks : List ℕ) (me n period tick : ℕ) (s : Station) where
  unended-of : Ranked ranks → me ≤ 8 → s.leader ≤ 8 → unended ranks me n period tick s ≡ true → Unended ranks me n period tick s
  unfolding unended
  unended-of i hm hl e =
      let (a, b) = both (timeouts_in me n period (longest (tick - 1)) s.timeouts) ((timer_in me (tick - 1) s && not (eqb s.timer tick)) || just_set ranks me tick s) e in
      record { timeouts = timeouts-of me n period (longest (tick - 1)) s.timeouts a; timer = go (either (timer_in me (tick - 1) s && not (eqb s.timer tick)) (just_set ranks me tick s) b) }
    where
      go : ((timer_in me (tick - 1) s && not (eqb s.timer tick)) ≡ true) ⊎ (just_set ranks me tick s ≡ true) → (Timer me (tick - 1) s × (s.timer ≢ tick)) ⊎ JustSet ranks me tick s
      go (inl x) =
          let (t, u) = both (timer_in me (tick - 1) s) (not (eqb s.timer tick)) x in
          inl (timer_of me (tick - 1) s t, eqb-false s.timer tick (not-true (eqb s.timer tick) u))
      go (inr x) = inr (just_set-of ranks me tick s i hm hl x)

  of_unended : Ranked ranks → me ≤ 8 → s.leader ≤ 8 → Unended ranks me n period tick s → unended ranks me n period tick s ≡ true
  unfolding unended
  of_unended i hm hl u = rw (of_timeouts me n period (longest (tick - 1)) s.timeouts u.timeouts) (go u.timer)
    where
      go : (Timer me (tick - 1) s × (s.timer ≢ tick)) ⊎ JustSet ranks me tick s → ((timer_in me (tick - 1) s && not (eqb s.timer tick)) || just_set ranks me tick s) ≡ true
      go (inl x) = rw (of_timer me (tick - 1) s x.0, ne_eqb s.timer tick x.1)
      go (inr x) = or_right (timer_in me (tick - 1) s && not (eqb s.timer tick)) (just_set ranks me tick s) (of_just_set ranks me tick s i hm hl x)

  ended_of : ended me n period tick s ≡ true → Ended me n period tick s
  unfolding ended
  ended_of e =
      let (a, b, c, d) = four (eqb s.leader me) (eqb s.timer 0) (timeouts_in me n period (longest tick) s.timeouts) (eqb (timeouts_at (longest tick) s.timeouts) 1) e in
      record {
        self = eqb-true s.leader me a;
        stopped = eqb-true s.timer 0 b;
        timeouts = timeouts-of me n period (longest tick) s.timeouts c;
        one = eqb-true (timeouts_at (longest tick) s.timeouts) 1 d;
      }

  of_ended : Ended me n period tick s → ended me n period tick s ≡ true
  unfolding ended
  of_ended x =
      rw (eq-eqb s.leader me x.self, eq-eqb s.timer 0 x.stopped, of_timeouts me n period (longest tick) s.timeouts x.timeouts, eq-eqb (timeouts_at (longest tick) s.timeouts) 1 x.one)

  pub slotting-of : fit_slot ranks me n period tick s ≡ true → Slotting ranks me n period tick s
  unfolding fit_slot
  slotting-of e =
      let (a, c, d, f, g) = five (in_tick ranks me n period tick) (kept_in n s) (alive me n s) (eqb s.slot tick) (unended ranks me n period tick s || ended me n period tick s) e in
      let (w, i) = in_tick-of ranks me n period tick a in
      let r : Ranges me n period = w.given in
      let l : Alive me n s = alive-of me n s d in
      record {
        values = w;
        ranked = i;
        kept = kept_of n s c;
        living = l;
        now = eqb-true s.slot tick f;
        timer = go r (ranked_of n ranks i) l (either (unended ranks me n period tick s) (ended me n period tick s) g);
      }
    where
      go : Ranges me n period → Ranked ranks → Alive me n s → (unended ranks me n period tick s ≡ true) ⊎ (ended me n period tick s ≡ true) → Unended ranks me n period tick s ⊎ Ended me n period tick s
      go r i l (inl x) = inl (unended-of i (omega (arith, r.me_high, r.n-high)) (omega (arith, l.leader_high, r.n-high)) x)
      go r i l (inr x) = inr (ended_of x)

  pub of_slotting : Slotting ranks me n period tick s → fit_slot ranks me n period tick s ≡ true
  unfolding fit_slot
  of_slotting x =
      rw (of_in_tick ranks me n period tick x.values x.ranked, of_kept n s x.kept, of_alive me n s x.living, eq-eqb s.slot tick x.now)
      (go x.timer)
    where
      go : Unended ranks me n period tick s ⊎ Ended me n period tick s → (unended ranks me n period tick s || ended me n period tick s) ≡ true
      go (inl u) = rw (of_unended (ranked_of n ranks x.ranked) (omega (arith, x.values.given.me_high, x.values.given.n-high)) (omega (arith, x.living.leader_high, x.values.given.n-high)) u)
      go (inr u) = or_right (unended ranks me n period tick s) (ended me n period tick s) (of_ended u)
