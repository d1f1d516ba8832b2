-- What the tests of a station say, as facts in arithmetic, both ways.
use mathlib.Core.Path.{◌≡◌, refl, sym, ap, ◌∙◌}
use mathlib.Core.Logic.{◌≢◌}
use mathlib.Core.List.{List}
use mathlib.Core.Bool.{Bool, true, false, cond, ◌&&◌}
use Prim.Native.Nat.{ℕ, ◌+◌, ◌-◌, ◌<◌, ◌≤◌}
use native.Mathlib.Decide.{ℕ_discrete}
use native.Mathlib.Omega.{arith}
use lib.ListN.{get_or}
use lib.Dec.{leb, ltb, eqb}
use borrow.Author.Tests.{ltb-true, leb-true, eqb-true, lt-ltb, le-leb, eq-eqb, ne_eqb}
use Rattle.lists.proofs.Bools.{both, three, six}
use Rattle.lists.proofs.Test.{all_at, all_of}
use Rattle.station.specs.Order.{entry}
use Rattle.station.specs.Rules.{other}
use Rattle.fit.specs.Fit.{within, ranges, kept_in, clockless, cleared, count_in, counts_in, rank_in, ranks_in, timeout_in, timeouts_in, alive, slot_in, timer_in, standing, fit}
use Rattle.station.specs.Limits.{most_starts, most_rank, longest}
use Rattle.station.specs.declared.Station.{Station}
use Rattle.station.proofs.Candidates.{Ranked}

pub record Ranges (me n period : ℕ) : Type 0 where
  pub n-low : 2 ≤ n
  pub n-high : n ≤ 8
  pub period-low : 16 ≤ period
  pub period-high : period ≤ 255
  pub me_low : 1 ≤ me
  pub me_high : me ≤ n

pub within_of : (low x high : ℕ) → within low x high ≡ true → (low ≤ x) × (x ≤ high)
within_of low x high e = let (a, b) = both (leb low x) (leb x high) e in (leb-true low x a, leb-true x high b)

pub of_within : (low x high : ℕ) → low ≤ x → x ≤ high → within low x high ≡ true
of_within low x high a b = rw (le-leb low x a, le-leb x high b)

module _ (me n period : ℕ) where
  pub ranges-of : ranges me n period ≡ true → Ranges me n period
  unfolding ranges
  ranges-of e =
      let (a, b, c) = three (within 2 n 8) (within 16 period 255) (within 1 me n) e in
      let (n-low, n-high) = within_of 2 n 8 a in
      let (p-low, p-high) = within_of 16 period 255 b in
      let (m-low, m-high) = within_of 1 me n c in
      record { n-low = n-low; n-high = n-high; period-low = p-low; period-high = p-high; me_low = m-low; me_high = m-high }

  pub of_ranges : Ranges me n period → ranges me n period ≡ true
  unfolding ranges
  of_ranges r =
      rw (of_within 2 n 8 r.n-low r.n-high, of_within 16 period 255 r.period-low r.period-high, of_within 1 me n r.me_low r.me_high)

pub record Kept (n count stable : ℕ) : Type 0 where
  pub few : count ≤ 4095
  pub low : 1 ≤ stable
  pub high : stable ≤ n

module _ (n : ℕ) (s : Station) where
  pub kept_of : kept_in n s ≡ true → Kept n s.incarnation s.stable
  unfolding kept_in
  kept_of e =
      let (a, b) = both (leb s.incarnation most_starts) (within 1 s.stable n) e in
      let (low, high) = within_of 1 s.stable n b in
      record { few = leb-true s.incarnation most_starts a; low = low; high = high }

  pub of_kept : Kept n s.incarnation s.stable → kept_in n s ≡ true
  unfolding kept_in
  of_kept k = rw (le-leb s.incarnation most_starts k.few, of_within 1 s.stable n k.low k.high)

-- counts: at most 4095, and zero beyond n
abbrev pub Counts : ℕ → List ℕ → Type 0
Counts n v = (k : ℕ) → k < 8 → get_or v k 0 ≤ cond (ltb k n) most_starts 0

module _ (n : ℕ) (v : List ℕ) where
  pub counts_of : counts_in n v ≡ true → Counts n v
  unfolding counts_in
  counts_of e k h = leb-true (get_or v k 0) (cond (ltb k n) most_starts 0) (all_at 8 k (λ k. count_in n k (get_or v k 0)) e h)

  pub of_counts : Counts n v → counts_in n v ≡ true
  unfolding counts_in
  of_counts f = all_of 8 (λ k. count_in n k (get_or v k 0)) (λ k h. le-leb (get_or v k 0) (cond (ltb k n) most_starts 0) (f k h))

-- ranks: at most 7, and zero beyond n
pub ranks-of : (n : ℕ) (ranks : List ℕ) → ranks_in n ranks ≡ true → (k : ℕ) → k < 8 → get_or ranks k 0 ≤ cond (ltb k n) most_rank 0
unfolding ranks_in
ranks-of n ranks e k h = leb-true (get_or ranks k 0) (cond (ltb k n) most_rank 0) (all_at 8 k (λ k. rank_in n k (get_or ranks k 0)) e h)

pub of_ranks : (n : ℕ) (ranks : List ℕ) → ((k : ℕ) → k < 8 → get_or ranks k 0 ≤ cond (ltb k n) most_rank 0) → ranks_in n ranks ≡ true
unfolding ranks_in
of_ranks n ranks f = all_of 8 (λ k. rank_in n k (get_or ranks k 0)) (λ k h. le-leb (get_or ranks k 0) (cond (ltb k n) most_rank 0) (f k h))

pub ranked_of : (n : ℕ) (ranks : List ℕ) → ranks_in n ranks ≡ true → Ranked ranks
ranked_of n ranks e p h = go (ltb (p - 1) n) (ranks-of n ranks e (p - 1) (omega arith))
  where
    go : (b : Bool) → entry ranks p ≤ cond b most_rank 0 → entry ranks p ≤ most_rank
    go true x = x
    go false x = omega arith

-- timeouts: from the period to the highest for the others, zero elsewhere
pub record Timeouts (me n period high : ℕ) (t : List ℕ) : Type 0 where
  pub others : (k : ℕ) → k < 8 → other me n k ≡ true → (period ≤ get_or t k 0) × (get_or t k 0 ≤ high)
  pub rest : (k : ℕ) → k < 8 → other me n k ≡ false → get_or t k 0 ≡ 0

module _ (me n period high : ℕ) (t : List ℕ) where
  pub timeouts-of : timeouts_in me n period high t ≡ true → Timeouts me n period high t
  unfolding timeouts_in
  timeouts-of e =
      record {
        others = λ k h o. within_of period (get_or t k 0) high (ap (λ b. cond b (within period (get_or t k 0) high) (eqb (get_or t k 0) 0)) (sym o) ∙ at k h);
        rest = λ k h o. eqb-true (get_or t k 0) 0 (ap (λ b. cond b (within period (get_or t k 0) high) (eqb (get_or t k 0) 0)) (sym o) ∙ at k h);
      }
    where
      at : (k : ℕ) → k < 8 → timeout_in me n period high k (get_or t k 0) ≡ true
      at k h = all_at 8 k (λ k. timeout_in me n period high k (get_or t k 0)) e h

  pub of_timeouts : Timeouts me n period high t → timeouts_in me n period high t ≡ true
  unfolding timeouts_in
  of_timeouts f = all_of 8 (λ k. timeout_in me n period high k (get_or t k 0)) (λ k h. at k h (other me n k) refl)
    where
      at : (k : ℕ) → k < 8 → (b : Bool) → other me n k ≡ b → cond b (within period (get_or t k 0) high) (eqb (get_or t k 0) 0) ≡ true
      at k h true o = of_within period (get_or t k 0) high (f.others k h o).0 (f.others k h o).1
      at k h false o = eq-eqb (get_or t k 0) 0 (f.rest k h o)

pub record Alive (me n : ℕ) (s : Station) : Type 0 where
  pub up : s.up ≡ true
  pub count : 1 ≤ s.incarnation
  pub leader_low : 1 ≤ s.leader
  pub leader_high : s.leader ≤ n
  pub counts : Counts n s.recovered
  pub own : 1 ≤ entry s.recovered me
  pub flash : clockless s ≡ true

module _ (me n : ℕ) (s : Station) where
  pub alive-of : alive me n s ≡ true → Alive me n s
  unfolding alive
  alive-of e =
      let (u, c, l, v, o, z) = six s.up (leb 1 s.incarnation) (within 1 s.leader n) (counts_in n s.recovered) (leb 1 (entry s.recovered me)) (clockless s) e in
      let (low, high) = within_of 1 s.leader n l in
      record {
        up = u;
        count = leb-true 1 s.incarnation c;
        leader_low = low;
        leader_high = high;
        counts = counts_of n s.recovered v;
        own = leb-true 1 (entry s.recovered me) o;
        flash = z;
      }

  pub of_alive : Alive me n s → alive me n s ≡ true
  unfolding alive
  of_alive a =
      rw (a.up, le-leb 1 s.incarnation a.count, of_within 1 s.leader n a.leader_low a.leader_high, of_counts n s.recovered a.counts, le-leb 1 (entry s.recovered me) a.own, a.flash)

-- a flash head has no stamp, no lowest one and no timeout of a clock head
pub flash-fields : (s : Station) → clockless s ≡ true → (s.stamp ≡ 0) × (s.lowest ≡ 0) × (s.timeout ≡ 0)
flash-fields s e =
    let (a, b, c) = three (eqb s.stamp 0) (eqb s.lowest 0) (eqb s.timeout 0) e in
    (eqb-true s.stamp 0 a, eqb-true s.lowest 0 b, eqb-true s.timeout 0 c)

-- a timer is off where the station trusts itself, and on otherwise
pub record Timer (me tick : ℕ) (s : Station) : Type 0 where
  pub off : s.leader ≡ me → s.timer ≡ 0
  pub on : s.leader ≢ me → (tick < s.timer) × (s.timer ≤ tick + entry s.timeouts s.leader)

module _ (me tick : ℕ) (s : Station) where
  running : Bool
  running = ltb tick s.timer && leb s.timer (tick + entry s.timeouts s.leader)

  pub timer_of : timer_in me tick s ≡ true → Timer me tick s
  unfolding timer_in running
  timer_of e =
      record {
        off = λ l. eqb-true s.timer 0 (ap (λ b. cond b (eqb s.timer 0) running) (sym (eq-eqb s.leader me l)) ∙ e);
        on = λ l.
            let (a, b) = both (ltb tick s.timer) (leb s.timer (tick + entry s.timeouts s.leader)) (ap (λ b. cond b (eqb s.timer 0) running) (sym (ne_eqb s.leader me l)) ∙ e) in
            (ltb-true tick s.timer a, leb-true s.timer (tick + entry s.timeouts s.leader) b);
      }

  pub of_timer : Timer me tick s → timer_in me tick s ≡ true
  unfolding timer_in running
  of_timer t = go (ℕ_discrete s.leader me)
    where
      go : Dec (s.leader ≡ me) → cond (eqb s.leader me) (eqb s.timer 0) running ≡ true
      go (yes l) = rw (eq-eqb s.leader me l, eq-eqb s.timer 0 (t.off l))
      go (no l) = rw (ne_eqb s.leader me l, lt-ltb tick s.timer (t.on l).0, le-leb s.timer (tick + entry s.timeouts s.leader) (t.on l).1)

-- an up station at the end of a tick, but for its timer
pub record Standing (me n period tick : ℕ) (s : Station) : Type 0 where
  pub living : Alive me n s
  pub timeouts : Timeouts me n period (longest tick) s.timeouts
  pub slot_low : tick < s.slot
  pub slot_high : s.slot ≤ tick + (period + 4095)

module _ (me n period tick : ℕ) (s : Station) where
  pub standing-of : standing me n period tick s ≡ true → Standing me n period tick s
  unfolding standing slot_in
  standing-of e =
      let (a, t, l) = three (alive me n s) (timeouts_in me n period (longest tick) s.timeouts) (slot_in period tick s) e in
      let (low, high) = both (ltb tick s.slot) (leb s.slot (tick + (period + most_starts))) l in
      record {
        living = alive-of me n s a;
        timeouts = timeouts-of me n period (longest tick) s.timeouts t;
        slot_low = ltb-true tick s.slot low;
        slot_high = leb-true s.slot (tick + (period + most_starts)) high;
      }

  pub of_standing : Standing me n period tick s → standing me n period tick s ≡ true
  unfolding standing slot_in
  of_standing f =
      rw (of_alive me n s f.living, of_timeouts me n period (longest tick) s.timeouts f.timeouts, lt-ltb tick s.slot f.slot_low, le-leb s.slot (tick + (period + most_starts)) f.slot_high)

  pub fit-up : s.up ≡ true → fit me n period tick s ≡ (ranges me n period && kept_in n s && (standing me n period tick s && timer_in me tick s))
  unfolding fit
  fit-up e = ap (λ b. ranges me n period && kept_in n s && cond b (standing me n period tick s && timer_in me tick s) (cleared s)) e

  pub fit-down : s.up ≡ false → fit me n period tick s ≡ (ranges me n period && kept_in n s && cleared s)
  unfolding fit
  fit-down e = ap (λ b. ranges me n period && kept_in n s && cond b (standing me n period tick s && timer_in me tick s) (cleared s)) e

  -- up or down, the numbers given and what is kept are in range
  pub fit-ranges : fit me n period tick s ≡ true → Ranges me n period × Kept n s.incarnation s.stable
  unfolding fit
  fit-ranges e =
      let (a, b, c) = three (ranges me n period) (kept_in n s) (cond s.up (standing me n period tick s && timer_in me tick s) (cleared s)) e in
      (ranges-of me n period a, kept_of n s b)

  -- what fits and is up
  pub fit_of : fit me n period tick s ≡ true → s.up ≡ true → Standing me n period tick s × Timer me tick s
  fit_of e u =
      let (a, b, c) = three (ranges me n period) (kept_in n s) (standing me n period tick s && timer_in me tick s) (sym (fit-up u) ∙ e) in
      let (f, t) = both (standing me n period tick s) (timer_in me tick s) c in
      (standing-of f, timer_of me tick s t)

  pub of_fit : Ranges me n period → Kept n s.incarnation s.stable → Standing me n period tick s → Timer me tick s → fit me n period tick s ≡ true
  of_fit r k f t = fit-up f.living.up ∙ rw (of_ranges me n period r, of_kept n s k, of_standing f, of_timer me tick s t)
