-- What the tests of a head with a running clock say, as facts in arithmetic, both ways.
use mathlib.Core.Path.{◌≡◌, sym, ap, ◌∙◌}
use mathlib.Core.Logic.{◌⊎◌, ◌≢◌}
use mathlib.Core.Logic.◌⊎◌.{inl, inr}
use mathlib.Core.Bool.{Bool, true, false, cond, not, ◌&&◌, ◌||◌}
use Prim.Native.Nat.{ℕ, ◌+◌, ◌<◌, ◌≤◌}
use native.Mathlib.Decide.{ℕ_discrete}
use lib.ListN.{replicate}
use lib.Dec.{leb, ltb, eqb}
use borrow.Author.Tests.{ltb-true, leb-true, eqb-true, eqb-false, lt-ltb, le-leb, eq-eqb, ne_eqb, not-true}
use Rattle.lists.specs.Test.{all_to}
use Rattle.lists.proofs.Bools.{both, three, four, either, or_right, false_unless}
use Rattle.station.specs.declared.Station.{Station}
use Rattle.fit.specs.Fit.{within, ranges, counts_in, timeouts_in, vectorless, cleared}
use Rattle.fit.proofs.Tests.{Ranges, within_of, of_within, ranges-of, of_ranges}
use Rattle.clock.specs.Fit.{kept_in, alive, timeout_in, slot_in, follows, timer_in, standing, fit}

-- what is kept: no start count, itself as leader, no vectors
pub record Kept (me : ℕ) (s : Station) : Type 0 where
  pub none : s.incarnation ≡ 0
  pub own : s.stable ≡ me
  pub empty : vectorless s ≡ true

module _ (me : ℕ) (s : Station) where
  pub kept_of : kept_in me s ≡ true → Kept me s
  unfolding kept_in
  kept_of e =
      let (a, b, c) = three (eqb s.incarnation 0) (eqb s.stable me) (vectorless s) e in
      record { none = eqb-true s.incarnation 0 a; own = eqb-true s.stable me b; empty = c }

  pub of_kept : Kept me s → kept_in me s ≡ true
  unfolding kept_in
  of_kept k = rw (eq-eqb s.incarnation 0 k.none, eq-eqb s.stable me k.own, k.empty)

-- it is kept where these fields are
pub kept_same : (me : ℕ) (s x : Station) → x.incarnation ≡ s.incarnation → x.stable ≡ s.stable → x.recovered ≡ s.recovered → x.timeouts ≡ s.timeouts → Kept me s → Kept me x
unfolding vectorless
kept_same me s x a b c d k = record { none = a ∙ k.none; own = b ∙ k.own; empty = rw (c, d) k.empty }

-- vectors of zeros are none
pub zeros-empty : (s : Station) → s.recovered ≡ replicate 8 0 → s.timeouts ≡ replicate 8 0 → vectorless s ≡ true
unfolding vectorless counts_in timeouts_in all_to
zeros-empty s a b = rw (a, b)

-- a leader among the stations, or none in the wait
abbrev pub Trusts : ℕ → Station → Type 0
Trusts n s = ((1 ≤ s.leader) × (s.leader ≤ n)) ⊎ ((s.leader ≡ 0) × (s.recovering ≡ true))

pub record Alive (n period tick : ℕ) (s : Station) : Type 0 where
  pub up : s.up ≡ true
  pub leader : Trusts n s
  pub stamp-low : period ≤ s.stamp
  pub stamp-high : s.stamp ≤ period + tick
  pub lowest_low : period ≤ s.lowest
  pub lowest_high : s.lowest ≤ s.stamp

module _ (n period tick : ℕ) (s : Station) where
  pub alive-of : alive n period tick s ≡ true → Alive n period tick s
  unfolding alive
  alive-of e =
      let (u, l, a, b) = four s.up (within 1 s.leader n || (eqb s.leader 0 && s.recovering)) (within period s.stamp (period + tick)) (within period s.lowest s.stamp) e in
      let (stamp-low, stamp-high) = within_of period s.stamp (period + tick) a in
      let (lowest_low, lowest_high) = within_of period s.lowest s.stamp b in
      record {
        up = u;
        leader = trusts (either (within 1 s.leader n) (eqb s.leader 0 && s.recovering) l);
        stamp-low = stamp-low;
        stamp-high = stamp-high;
        lowest_low = lowest_low;
        lowest_high = lowest_high;
      }
    where
      trusts : (within 1 s.leader n ≡ true) ⊎ ((eqb s.leader 0 && s.recovering) ≡ true) → Trusts n s
      trusts (inl a) = inl (within_of 1 s.leader n a)
      trusts (inr a) = let (b, c) = both (eqb s.leader 0) s.recovering a in inr (eqb-true s.leader 0 b, c)

  pub of_alive : Alive n period tick s → alive n period tick s ≡ true
  unfolding alive
  of_alive a =
      rw (a.up, trusts a.leader, of_within period s.stamp (period + tick) a.stamp-low a.stamp-high, of_within period s.lowest s.stamp a.lowest_low a.lowest_high)
    where
      trusts : Trusts n s → (within 1 s.leader n || (eqb s.leader 0 && s.recovering)) ≡ true
      trusts (inl l) = rw (of_within 1 s.leader n l.0 l.1)
      trusts (inr l) = or_right (within 1 s.leader n) (eqb s.leader 0 && s.recovering) (rw (eq-eqb s.leader 0 l.0, l.1))

-- the leader is another station
module _ (me : ℕ) (s : Station) where
  pub follows_of : follows me s ≡ true → (s.leader ≢ 0) × (s.leader ≢ me)
  follows_of e =
      let (a, b) = both (not (eqb s.leader 0)) (not (eqb s.leader me)) e in
      (eqb-false s.leader 0 (not-true (eqb s.leader 0) a), eqb-false s.leader me (not-true (eqb s.leader me) b))

  pub of_follows : s.leader ≢ 0 → s.leader ≢ me → follows me s ≡ true
  of_follows a b = rw (ne_eqb s.leader 0 a, ne_eqb s.leader me b)

  leads-none : s.leader ≡ 0 → follows me s ≡ false
  leads-none e = false_unless (follows me s) (λ f. (follows_of f).0 e)

  leads-itself : s.leader ≡ me → follows me s ≡ false
  leads-itself e = false_unless (follows me s) (λ f. (follows_of f).1 e)

-- a timer is off where the station trusts nobody or itself, and on otherwise
pub record Timer (me tick : ℕ) (s : Station) : Type 0 where
  pub none : s.leader ≡ 0 → s.timer ≡ 0
  pub self : s.leader ≡ me → s.timer ≡ 0
  pub on : s.leader ≢ 0 → s.leader ≢ me → (tick < s.timer) × (s.timer ≤ tick + s.timeout)

module _ (me tick : ℕ) (s : Station) where
  running : Bool
  running = ltb tick s.timer && leb s.timer (tick + s.timeout)

  pub timer_of : timer_in me tick s ≡ true → Timer me tick s
  unfolding timer_in running
  timer_of e =
      record {
        none = λ l. off (leads-none me s l);
        self = λ l. off (leads-itself me s l);
        on = λ a b.
            let (x, y) = both (ltb tick s.timer) (leb s.timer (tick + s.timeout)) (ap (λ b. cond b running (eqb s.timer 0)) (sym (of_follows me s a b)) ∙ e) in
            (ltb-true tick s.timer x, leb-true s.timer (tick + s.timeout) y);
      }
    where
      off : follows me s ≡ false → s.timer ≡ 0
      off f = eqb-true s.timer 0 (ap (λ b. cond b running (eqb s.timer 0)) (sym f) ∙ e)

  pub of_timer : Timer me tick s → timer_in me tick s ≡ true
  unfolding timer_in running
  of_timer t = go (ℕ_discrete s.leader 0) (ℕ_discrete s.leader me)
    where
      off : follows me s ≡ false → s.timer ≡ 0 → cond (follows me s) running (eqb s.timer 0) ≡ true
      off f e = rw (f, eq-eqb s.timer 0 e)

      go : Dec (s.leader ≡ 0) → Dec (s.leader ≡ me) → cond (follows me s) running (eqb s.timer 0) ≡ true
      go (yes l) i = off (leads-none me s l) (t.none l)
      go (no l) (yes i) = off (leads-itself me s i) (t.self i)
      go (no l) (no i) = rw (of_follows me s l i, lt-ltb tick s.timer (t.on l i).0, le-leb s.timer (tick + s.timeout) (t.on l i).1)

-- an up station at the end of a tick, but for its timer
pub record Standing (n period tick : ℕ) (s : Station) : Type 0 where
  pub living : Alive n period tick s
  pub timeout-low : period ≤ s.timeout
  pub timeout-high : s.timeout ≤ period + tick
  pub slot_low : tick < s.slot
  pub slot_high : s.slot ≤ tick + (period + tick)

module _ (n period tick : ℕ) (s : Station) where
  pub standing-of : standing n period tick s ≡ true → Standing n period tick s
  unfolding standing
  standing-of e =
      let (a, t, l) = three (alive n period tick s) (timeout_in period tick s) (slot_in period tick s) e in
      let (timeout-low, timeout-high) = within_of period s.timeout (period + tick) t in
      let (low, high) = both (ltb tick s.slot) (leb s.slot (tick + (period + tick))) l in
      record {
        living = alive-of n period tick s a;
        timeout-low = timeout-low;
        timeout-high = timeout-high;
        slot_low = ltb-true tick s.slot low;
        slot_high = leb-true s.slot (tick + (period + tick)) high;
      }

  pub of_standing : Standing n period tick s → standing n period tick s ≡ true
  unfolding standing
  of_standing f =
      rw (of_alive n period tick s f.living, of_within period s.timeout (period + tick) f.timeout-low f.timeout-high, lt-ltb tick s.slot f.slot_low, le-leb s.slot (tick + (period + tick)) f.slot_high)

module _ (me n period tick : ℕ) (s : Station) where
  pub fit-up : s.up ≡ true → fit me n period tick s ≡ (ranges me n period && kept_in me s && (standing n period tick s && timer_in me tick s))
  unfolding fit
  fit-up e = ap (λ b. ranges me n period && kept_in me s && cond b (standing n period tick s && timer_in me tick s) (cleared s)) e

  pub fit-down : s.up ≡ false → fit me n period tick s ≡ (ranges me n period && kept_in me s && cleared s)
  unfolding fit
  fit-down e = ap (λ b. ranges me n period && kept_in me s && cond b (standing n period tick s && timer_in me tick s) (cleared s)) e

  -- up or down, the numbers given are in range and what is kept is as it should be
  pub fit-ranges : fit me n period tick s ≡ true → Ranges me n period × Kept me s
  unfolding fit
  fit-ranges e =
      let (a, b, c) = three (ranges me n period) (kept_in me s) (cond s.up (standing n period tick s && timer_in me tick s) (cleared s)) e in
      (ranges-of me n period a, kept_of me s b)

  -- what fits and is up
  pub fit_of : fit me n period tick s ≡ true → s.up ≡ true → Standing n period tick s × Timer me tick s
  fit_of e u =
      let (a, b, c) = three (ranges me n period) (kept_in me s) (standing n period tick s && timer_in me tick s) (sym (fit-up u) ∙ e) in
      let (f, t) = both (standing n period tick s) (timer_in me tick s) c in
      (standing-of n period tick s f, timer_of me tick s t)

  pub of_fit : Ranges me n period → Kept me s → Standing n period tick s → Timer me tick s → fit me n period tick s ≡ true
  of_fit r k f t = fit-up f.living.up ∙ rw (of_ranges me n period r, of_kept me s k, of_standing n period tick s f, of_timer me tick s t)
