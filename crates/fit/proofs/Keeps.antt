-- Each rule keeps what fits: from the end of one tick, through hearing, the timer's end and the send chance, to the end of the next.
use mathlib.Core.Path.{◌≡◌, refl, sym, ap, ◌∙◌}
use mathlib.Core.Logic.{◌⊎◌, ◌≢◌}
use mathlib.Core.Logic.◌⊎◌.{inl, inr}
use mathlib.Core.List.{List}
use mathlib.Core.Bool.{Bool, true, false, cond, false≢true}
use Prim.Native.Nat.{ℕ, ◌+◌, ◌-◌, ◌<◌, ◌≤◌, min, max}
use native.Mathlib.Decide.{dec_le, ℕ_discrete}
use native.Mathlib.Omega.{arith}
use lib.Dec.{ltb, eqb}
use lib.ListN.{length, get_or}
use borrow.Author.Tests.{lt-ltb, eq-eqb, ne_eqb}
use Rattle.lists.proofs.Bools.{cond_elim}
use Rattle.lists.proofs.Count.{count-one}
use Rattle.station.specs.Order.{entry}
use Rattle.station.specs.Rules.{waiting, started_with, other, started, crashed, joined, knowing, trusting, heard, expired, slotted}
use Rattle.fit.specs.Fit.{flight, ranks_in, fit, timeouts_at, fit_start, fit_crash, fit_expire, fit_message, fit_hear, fit_slot}
use Rattle.station.specs.Limits.{most_starts, longest}
use Rattle.station.specs.declared.Station.{Station}
use Rattle.fit.proofs.Between.{start_of, crash-of}
use Rattle.station.proofs.Candidates.{Ranked, key_of}
use Rattle.fit.proofs.Down.{down_fits}
use Rattle.station.proofs.Elimination.{started-elim, crashed-elim, heard-elim, expired-elim, slotted-elim}
use Rattle.fit.proofs.Handed.{JustSet, InTick, Before, Hearing, Expiring, Unended, Ended, Slotting, message-of, hearing-of, of_hearing, expiring-of, of_expiring, slotting-of, of_slotting}
use Rattle.fit.proofs.Tests.{Ranges, Kept, Counts, Timeouts, Alive, Timer, Standing, ranked_of, fit-ranges, fit_of, of_fit}
use Rattle.station.proofs.Vectors.{inside, other-of, joined_at}

-- the timeout of a leader that is another station
module _ (me n period high : ℕ) (s : Station) (r : Ranges me n period) (l : Alive me n s) (t : Timeouts me n period high s.timeouts) where
  pub leader_timeout : s.leader ≢ me → (period ≤ entry s.timeouts s.leader) × (entry s.timeouts s.leader ≤ high)
  leader_timeout ne =
      t.others (s.leader - 1) (omega (arith, l.leader_low, l.leader_high, r.n-high)) (other-of me n s.leader l.leader_low l.leader_high ne)

-- timeouts that are high enough stay so
higher : (me n period high high' : ℕ) (t : List ℕ) → high ≤ high' → Timeouts me n period high t → Timeouts me n period high' t
higher me n period high high' t h f =
    record { others = λ k l o. ((f.others k l o).0, (let x : get_or t k 0 ≤ high = (f.others k l o).1 in omega arith)); rest = f.rest }

-- a station in a tick, between two messages: its timer is that of the tick before, or was set in this tick
pub record During (ranks : List ℕ) (me n period tick : ℕ) (s : Station) : Type 0 where
  pub values : InTick me n period tick
  pub ranked : ranks_in n ranks ≡ true
  pub kept : Kept n s.incarnation s.stable
  pub stands : Standing me n period (tick - 1) s
  pub timer : Timer me (tick - 1) s ⊎ JustSet ranks me tick s

module _ (ranks : List ℕ) (me n period tick : ℕ) (s : Station) where
  -- it begins with a station that fits the end of the tick before
  pub fit-during : 1 ≤ tick → tick ≤ 1000000 → ranks_in n ranks ≡ true → fit me n period (tick - 1) s ≡ true → s.up ≡ true → During ranks me n period tick s
  fit-during low high i e u =
      let (r, k) = fit-ranges me n period (tick - 1) s e in
      let (st, t) = fit_of me n period (tick - 1) s e u in
      record { values = record { tick-low = low; tick-high = high; given = r }; ranked = i; kept = k; stands = st; timer = inl t }

  -- so a first message can be heard
  pub fit-hears : (q : ℕ) (v : List ℕ) → 1 ≤ tick → tick ≤ 1000000 → ranks_in n ranks ≡ true → fit me n period (tick - 1) s ≡ true → s.up ≡ true → fit_message me n q v ≡ true → fit_hear ranks me n period tick q v s ≡ true
  fit-hears q v low high i e u m =
      let (r, k) = fit-ranges me n period (tick - 1) s e in
      let (st, t) = fit_of me n period (tick - 1) s e u in
      of_hearing ranks me n period tick q v s
      (record { values = record { tick-low = low; tick-high = high; given = r }; ranked = i; kept = k; message = message-of me n q v m; stands = st; timer = inl t })

-- joined counts are in range, and the own entry does not fall
joined-counts : (n : ℕ) (v w k : List ℕ) → joined v w ≡ k → Counts n v → Counts n w → Counts n k
joined-counts n v w k e f g i h =
    let j : get_or k i 0 ≡ max (get_or v i 0) (get_or w i 0) = ap (λ l. get_or l i 0) (sym e) ∙ joined_at v w i h in
    omega (arith, f i h, g i h)

-- the message after one from q: from a later sender, or a younger one of q's that is due in the same tick
abbrev pub Next : ℕ → ℕ → ℕ → ℕ → Type 0
Next period tick q q' = (q < q') ⊎ ((q ≡ q') × (period ≤ min (tick - 1) flight))

-- a leader heard by q's message or before it was heard before the next
pub before-next : (period tick q q' : ℕ) (x : Station) → (x.leader ≡ q) ⊎ Before period tick q x → Next period tick q q' → Before period tick q' x
before-next period tick q q' x (inl a) (inl b) = inl (omega arith)
before-next period tick q q' x (inl a) (inr b) = inr (a ∙ b.0, b.1)
before-next period tick q q' x (inr (inl a)) (inl b) = inl (omega arith)
before-next period tick q q' x (inr (inl a)) (inr b) = inl (let y : q ≡ q' = b.0 in omega arith)
before-next period tick q q' x (inr (inr a)) (inl b) = inl (let y : x.leader ≡ q = a.0 in omega arith)
before-next period tick q q' x (inr (inr a)) (inr b) = inr (a.0 ∙ b.0, a.1)

-- a timer that was set in this tick runs for another station
pub set_other : (ranks : List ℕ) (me tick : ℕ) (s : Station) → JustSet ranks me tick s → s.leader ≢ me
set_other ranks me tick s j e =
    let x : key_of ranks s.recovered s.leader < key_of ranks s.recovered me = j.first in
    let y : key_of ranks s.recovered s.leader ≡ key_of ranks s.recovered me = ap (λ z. key_of ranks s.recovered z) e in
    omega arith

module _ (ranks : List ℕ) (me n period tick q : ℕ) (v : List ℕ) (s : Station) (h : Hearing ranks me n period tick q v s) where
  abbrev given : Ranges me n period
  given = h.values.given

  ranked : Ranked ranks
  ranked = ranked_of n ranks h.ranked

  -- what hearing changes: counts, leader and timer
  stands_with : (leader timer : ℕ) (k : List ℕ) → joined s.recovered v ≡ k → 1 ≤ leader → leader ≤ n → Standing me n period (tick - 1) (trusting leader timer (knowing k s))
  stands_with leader timer k e low high =
      let l : Alive me n s = h.stands.living in
      let j : entry k me ≡ max (entry s.recovered me) (entry v me) = ap (λ w. entry w me) (sym e) ∙ joined_at s.recovered v (me - 1) (omega (arith, given.me_high, given.n-high)) in
      record {
        living = record {
          up = l.up;
          count = l.count;
          leader_low = low;
          leader_high = high;
          counts = joined-counts n s.recovered v k e l.counts h.message.counts;
          own = omega (arith, l.own);
          flash = l.flash;
        };
        timeouts = h.stands.timeouts;
        slot_low = h.stands.slot_low;
        slot_high = h.stands.slot_high;
      }

  -- hearing leaves a station that stands, whose timer is the old one or was set in this tick by q or before it
  abbrev After : Station → Type 0
  After x = Kept n x.incarnation x.stable × Standing me n period (tick - 1) x × (Timer me (tick - 1) x ⊎ (JustSet ranks me tick x × ((x.leader ≡ q) ⊎ Before period tick q x)))

  heard-after : After (heard ranks me q v tick s)
  heard-after =
      let k : List ℕ = joined s.recovered v in
      heard-elim After ranks me q tick v s k ranked (omega (arith, given.me_high, given.n-high)) (omega (arith, h.message.high, given.n-high)) (omega (arith, h.stands.living.leader_high, given.n-high)) refl
      (λ a b.
      let ne : q ≢ me = h.message.other in
      (h.kept, stands_with q (tick + entry s.timeouts q) k refl h.message.low h.message.high, inr (record { ends = refl; first = omega (arith, given.me_high, given.n-high, h.message.high, ranked q (omega (arith, h.message.high, given.n-high)), ranked me (omega (arith, given.me_high, given.n-high))) }, inl refl)))
      (λ a b. (h.kept, stands_with me 0 k refl given.me_low given.me_high, inl (record { off = λ e. refl; on = λ ne. absurd (ne refl) })))
      (λ a b. (h.kept, stands_with s.leader s.timer k refl h.stands.living.leader_low h.stands.living.leader_high, stays k b h.timer))
    where
      stays : (k : List ℕ) → key_of ranks k s.leader ≤ key_of ranks k me → Timer me (tick - 1) s ⊎ (JustSet ranks me tick s × Before period tick q s) → Timer me (tick - 1) (knowing k s) ⊎ (JustSet ranks me tick (knowing k s) × ((s.leader ≡ q) ⊎ Before period tick q s))
      stays k b (inl t) = inl (record { off = t.off; on = t.on })
      stays k b (inr t) =
          let ne : s.leader ≢ me = set_other ranks me tick s t.0 in
          inr (record { ends = t.0.ends; first = omega (arith, given.me_high, given.n-high, h.stands.living.leader_high, ranked s.leader (omega (arith, h.stands.living.leader_high, given.n-high)), ranked me (omega (arith, given.me_high, given.n-high))) }, inr t.1)

  -- so the tick goes on from there
  pub heard-during : During ranks me n period tick (heard ranks me q v tick s)
  heard-during = let (k, st, t) = heard-after in record { values = h.values; ranked = h.ranked; kept = k; stands = st; timer = ran t }
    where
      ran : Timer me (tick - 1) (heard ranks me q v tick s) ⊎ (JustSet ranks me tick (heard ranks me q v tick s) × (((heard ranks me q v tick s).leader ≡ q) ⊎ Before period tick q (heard ranks me q v tick s))) → Timer me (tick - 1) (heard ranks me q v tick s) ⊎ JustSet ranks me tick (heard ranks me q v tick s)
      ran (inl t) = inl t
      ran (inr t) = inr t.0

-- and the next message can be heard
pub hear_keeps : (ranks : List ℕ) (me n period tick q q' : ℕ) (v v' : List ℕ) (s : Station) → fit_hear ranks me n period tick q v s ≡ true → Next period tick q q' → fit_message me n q' v' ≡ true → fit_hear ranks me n period tick q' v' (heard ranks me q v tick s) ≡ true
hear_keeps ranks me n period tick q q' v v' s e nx m =
    let h : Hearing ranks me n period tick q v s = hearing-of ranks me n period tick q v s e in
    let (k, st, t) = heard-after ranks me n period tick q v s h in
    of_hearing ranks me n period tick q' v' (heard ranks me q v tick s) (record { values = h.values; ranked = h.ranked; kept = k; message = message-of me n q' v' m; stands = st; timer = ran t })
  where
    ran : Timer me (tick - 1) (heard ranks me q v tick s) ⊎ (JustSet ranks me tick (heard ranks me q v tick s) × (((heard ranks me q v tick s).leader ≡ q) ⊎ Before period tick q (heard ranks me q v tick s))) → Timer me (tick - 1) (heard ranks me q v tick s) ⊎ (JustSet ranks me tick (heard ranks me q v tick s) × Before period tick q' (heard ranks me q v tick s))
    ran (inl t) = inl t
    ran (inr t) = inr (t.0, before-next period tick q q' (heard ranks me q v tick s) t.1 nx)

module _ (ranks : List ℕ) (me n period tick : ℕ) (s : Station) where
  -- a timer that has not ended runs on
  runs : Ranges me n period → Alive me n s → (high : ℕ) → Timeouts me n period high s.timeouts → (Timer me (tick - 1) s × (s.timer ≢ tick)) ⊎ JustSet ranks me tick s → Timer me tick s
  runs r l high t (inl x) =
      record {
        off = x.0.off;
        on = λ ne. (let (y, w) = x.0.on ne in let z : s.timer ≢ tick = x.1 in (omega arith, omega arith));
      }
  runs r l high t (inr j) =
      record {
        off = λ e. absurd (set_other ranks me tick s j e);
        on = λ ne. (let x : period ≤ entry s.timeouts s.leader = (leader_timeout me n period high s r l t ne).0 in (omega (arith, j.ends, r.period-low), omega (arith, j.ends)));
      }

  -- a timer that is not due now has not ended
  unended : During ranks me n period tick s → s.timer ≢ tick → (Timer me (tick - 1) s × (s.timer ≢ tick)) ⊎ JustSet ranks me tick s
  unended d ne = go d.timer
    where
      go : Timer me (tick - 1) s ⊎ JustSet ranks me tick s → (Timer me (tick - 1) s × (s.timer ≢ tick)) ⊎ JustSet ranks me tick s
      go (inl t) = inl (t, ne)
      go (inr t) = inr t

  -- a timer that is due can end: it was not set in this tick
  pub during_expires : During ranks me n period tick s → s.timer ≡ tick → fit_expire me n period tick s ≡ true
  during_expires d e = of_expiring me n period tick s (record { values = d.values; kept = d.kept; stands = d.stands; timer = go d.timer; now = e })
    where
      go : Timer me (tick - 1) s ⊎ JustSet ranks me tick s → Timer me (tick - 1) s
      go (inl t) = t
      go (inr j) =
          let ne : s.leader ≢ me = set_other ranks me tick s j in
          let z : period ≤ entry s.timeouts s.leader = (leader_timeout me n period (longest (tick - 1)) s d.values.given d.stands.living d.stands.timeouts ne).0 in
          absurd (omega (arith, j.ends, d.values.given.period-low))

  -- a send chance that is due can come
  pub during_slots : During ranks me n period tick s → s.timer ≢ tick → s.slot ≡ tick → fit_slot ranks me n period tick s ≡ true
  during_slots d ne e =
      of_slotting ranks me n period tick s
      (record { values = d.values; ranked = d.ranked; kept = d.kept; living = d.stands.living; now = e; timer = inl (record { timeouts = d.stands.timeouts; timer = unended d ne }) })

  -- and where nothing is due the station fits the end of the tick
  pub during_fits : During ranks me n period tick s → s.timer ≢ tick → s.slot ≢ tick → fit me n period tick s ≡ true
  during_fits d ne ns =
      of_fit me n period tick s d.values.given d.kept
      (record {
        living = d.stands.living;
        timeouts = higher me n period (longest (tick - 1)) (longest tick) s.timeouts (omega arith) d.stands.timeouts;
        slot_low = omega (arith, d.stands.slot_low);
        slot_high = omega (arith, d.stands.slot_high);
      })
      (runs d.values.given d.stands.living (longest (tick - 1)) d.stands.timeouts (unended d ne))

  -- a send chance leaves a station that fits the end of the tick
  pub slot_keeps : fit_slot ranks me n period tick s ≡ true → fit me n period tick (slotted period tick s) ≡ true
  slot_keeps e =
      let x : Slotting ranks me n period tick s = slotting-of ranks me n period tick s e in
      let r : Ranges me n period = x.values.given in
      let l : Alive me n s = x.living in
      slotted-elim (λ y. fit me n period tick y ≡ true) period tick s
      (of_fit me n period tick _ r
      (record { few = x.kept.few; low = cond_elim (λ y. 1 ≤ y) s.recovering (λ i. l.leader_low) (λ i. x.kept.low); high = cond_elim (λ y. y ≤ n) s.recovering (λ i. l.leader_high) (λ i. x.kept.high) })
      (record {
        living = record { up = l.up; count = l.count; leader_low = l.leader_low; leader_high = l.leader_high; counts = l.counts; own = l.own; flash = l.flash };
        timeouts = highest x.timer;
        slot_low = omega (arith, r.period-low);
        slot_high = omega arith;
      })
      (let t : Timer me tick s = timer r l x.timer in record { off = t.off; on = t.on }))
    where
      highest : Unended ranks me n period tick s ⊎ Ended me n period tick s → Timeouts me n period (longest tick) s.timeouts
      highest (inl u) = higher me n period (longest (tick - 1)) (longest tick) s.timeouts (omega arith) u.timeouts
      highest (inr u) = u.timeouts

      timer : Ranges me n period → Alive me n s → Unended ranks me n period tick s ⊎ Ended me n period tick s → Timer me tick s
      timer r l (inl u) = runs r l (longest (tick - 1)) u.timeouts u.timer
      timer r l (inr u) = record { off = λ i. u.stopped; on = λ ne. absurd (ne u.self) }

-- exactly one timeout is at a value
one_at : (t : List ℕ) (j high : ℕ) → j < 8 → get_or t j 0 ≡ high → ((k : ℕ) → k < 8 → k ≢ j → get_or t k 0 ≡ high → ⊥) → timeouts_at high t ≡ 1
unfolding timeouts_at
one_at t j high l e h = count-one 8 j (λ k. eqb (get_or t k 0) high) l (eq-eqb (get_or t j 0) high e) (λ k i ne. ne_eqb (get_or t k 0) high (h k i ne))

-- the end of a timer leaves a station that fits what comes next in the tick
module _ (me n period tick : ℕ) (s : Station) (x : Expiring me n period tick s) where
  abbrev values : Ranges me n period
  values = x.values.given

  leader_other : s.leader ≢ me
  leader_other e = let z : s.timer ≡ 0 = x.timer.off e in omega (arith, x.now, x.values.tick-low)

  -- the timeout of the leader, as it was
  pub timeout-was : (period ≤ entry s.timeouts s.leader) × (entry s.timeouts s.leader ≤ longest (tick - 1))
  timeout-was = leader_timeout me n period (longest (tick - 1)) s values x.stands.living x.stands.timeouts leader_other

  -- the timeouts afterwards, with a highest that leaves room for the one that rose
  raised : (high : ℕ) (t : List ℕ) → longest (tick - 1) ≤ high → entry s.timeouts s.leader + 1 ≤ high → entry t s.leader ≡ entry s.timeouts s.leader + 1 → ((k : ℕ) → k ≢ s.leader - 1 → get_or t k 0 ≡ get_or s.timeouts k 0) → Timeouts me n period high t
  raised high t h room e same = record { others = λ k l o. at k l o (ℕ_discrete k (s.leader - 1)); rest = λ k l o. same k (λ i. off k l o i) ∙ x.stands.timeouts.rest k l o }
    where
      at : (k : ℕ) → k < 8 → other me n k ≡ true → Dec (k ≡ s.leader - 1) → (period ≤ get_or t k 0) × (get_or t k 0 ≤ high)
      at k l o (yes i) =
          let y : get_or t k 0 ≡ entry s.timeouts s.leader + 1 = ap (λ z. get_or t z 0) i ∙ e in
          (omega (arith, timeout-was.0), omega arith)
      at k l o (no i) =
          let y : get_or t k 0 ≡ get_or s.timeouts k 0 = same k i in
          let (a, b) = x.stands.timeouts.others k l o in
          (omega arith, omega arith)

      off : (k : ℕ) → k < 8 → other me n k ≡ false → k ≡ s.leader - 1 → ⊥
      off k l o i = false≢true (sym o ∙ ap (λ z. other me n z) i ∙ other-of me n s.leader x.stands.living.leader_low x.stands.living.leader_high leader_other)

  living_with : (t : List ℕ) → Alive me n (waiting me 0 t s)
  living_with t =
      let l : Alive me n s = x.stands.living in
      record { up = l.up; count = l.count; leader_low = values.me_low; leader_high = values.me_high; counts = l.counts; own = l.own; flash = l.flash }

  stopped : (t : List ℕ) (now : ℕ) → Timer me now (waiting me 0 t s)
  stopped t now = record { off = λ e. refl; on = λ ne. absurd (ne refl) }

  in_timeouts : s.leader - 1 < length s.timeouts
  in_timeouts = inside s.timeouts (s.leader - 1) (omega (arith, timeout-was.0, values.period-low))

  -- before it rose, no timeout was at the new highest
  below : (k : ℕ) → k < 8 → get_or s.timeouts k 0 ≡ longest tick → ⊥
  below k l e = go (other me n k) refl
    where
      go : (b : Bool) → other me n k ≡ b → ⊥
      go true o = let y : get_or s.timeouts k 0 ≤ longest (tick - 1) = (x.stands.timeouts.others k l o).1 in omega (arith, x.values.tick-low)
      go false o = let y : get_or s.timeouts k 0 ≡ 0 = x.stands.timeouts.rest k l o in omega arith

  pub expired-fits : s.slot ≢ tick → fit me n period tick (expired me s) ≡ true
  expired-fits ns =
      expired-elim (λ y. fit me n period tick y ≡ true) me s in_timeouts
      (λ t size e same.
      of_fit me n period tick (waiting me 0 t s) values x.kept
      (record {
        living = living_with t;
        timeouts = raised (longest tick) t (omega arith) (omega (arith, timeout-was.1, x.values.tick-low)) e same;
        slot_low = omega (arith, x.stands.slot_low);
        slot_high = omega (arith, x.stands.slot_high);
      })
      (stopped t tick))

  pub expired-slots : (ranks : List ℕ) → ranks_in n ranks ≡ true → s.slot ≡ tick → fit_slot ranks me n period tick (expired me s) ≡ true
  expired-slots ranks i es =
      expired-elim (λ y. fit_slot ranks me n period tick y ≡ true) me s in_timeouts
      (λ t size e same.
      of_slotting ranks me n period tick (waiting me 0 t s)
      (record { values = x.values; ranked = i; kept = x.kept; living = living_with t; now = es; timer = either_way t e same (dec_le (entry s.timeouts s.leader + 1) (longest (tick - 1))) }))
    where
      either_way : (t : List ℕ) → entry t s.leader ≡ entry s.timeouts s.leader + 1 → ((k : ℕ) → k ≢ s.leader - 1 → get_or t k 0 ≡ get_or s.timeouts k 0) → Dec (entry s.timeouts s.leader + 1 ≤ longest (tick - 1)) → Unended ranks me n period tick (waiting me 0 t s) ⊎ Ended me n period tick (waiting me 0 t s)
      either_way t e same (yes room) =
          inl (record { timeouts = raised (longest (tick - 1)) t (omega arith) room e same; timer = inl (stopped t (tick - 1), (λ z. omega (arith, x.values.tick-low))) })
      either_way t e same (no full) =
          let (low, high) = timeout-was in
          let top : entry t s.leader ≡ longest tick = omega (arith, x.values.tick-low) in
          inr
          (record {
            self = refl;
            stopped = refl;
            timeouts = raised (longest tick) t (omega arith) (omega (arith, x.values.tick-low)) e same;
            one = one_at t (s.leader - 1) (longest tick) (omega (arith, x.stands.living.leader_low, x.stands.living.leader_high, values.n-high)) top (λ k l ne z. below k l (sym (same k ne) ∙ z));
          })

-- the end of a timer, from what it is handed
pub expire_fits : (me n period tick : ℕ) (s : Station) → fit_expire me n period tick s ≡ true → s.slot ≢ tick → fit me n period tick (expired me s) ≡ true
expire_fits me n period tick s e ns = expired-fits me n period tick s (expiring-of me n period tick s e) ns

pub expire_slots : (ranks : List ℕ) (me n period tick : ℕ) (s : Station) → ranks_in n ranks ≡ true → fit_expire me n period tick s ≡ true → s.slot ≡ tick → fit_slot ranks me n period tick (expired me s) ≡ true
expire_slots ranks me n period tick s i e es = expired-slots me n period tick s (expiring-of me n period tick s e) ranks i es

module _ (me n period tick : ℕ) (s : Station) where
  -- a start leaves a station that fits
  pub start-keeps : fit_start me n period tick s ≡ true → s.incarnation < 4095 → fit me n period tick (started me n period tick s) ≡ true
  start-keeps e few =
      let (r, k) = fit-ranges me n period tick s (start_of me n period tick s e).1 in
      started-elim (λ y. fit me n period tick y ≡ true) me n period tick s r.me_low (omega (arith, r.me_high, r.n-high))
      (λ v t sv st own zero times.
      let waits : (i : ℕ) → i < 8 → other me n i ≡ true → get_or t i 0 ≡ period + (s.incarnation + 1) = λ i l o. times i l ∙ ap (λ z. cond z (period + (s.incarnation + 1)) 0) o in
      of_fit me n period tick (started_with me period tick v t s) r
      (record { few = omega arith; low = k.low; high = k.high })
      (record {
        living = record { up = refl; count = omega arith; leader_low = k.low; leader_high = k.high; counts = counts r v own zero; own = omega arith; flash = refl };
        timeouts = record { others = λ i l o. (omega (arith, waits i l o), omega (arith, waits i l o, r.period-high)); rest = λ i l o. times i l ∙ ap (λ z. cond z (period + (s.incarnation + 1)) 0) o };
        slot_low = omega (arith, r.period-low);
        slot_high = omega arith;
      })
      (record {
        off = λ i. ap (λ z. cond z 0 (tick + entry t s.stable)) (eq-eqb s.stable me i);
        on = λ ne.
            let on : cond (eqb s.stable me) 0 (tick + entry t s.stable) ≡ tick + entry t s.stable = ap (λ z. cond z 0 (tick + entry t s.stable)) (ne_eqb s.stable me ne) in
            let w : entry t s.stable ≡ period + (s.incarnation + 1) = waits (s.stable - 1) (omega (arith, k.low, k.high, r.n-high)) (other-of me n s.stable k.low k.high ne) in
            (omega arith, omega arith);
      }))
    where
      counts : Ranges me n period → (v : List ℕ) → entry v me ≡ s.incarnation + 1 → ((i : ℕ) → i ≢ me - 1 → get_or v i 0 ≡ 0) → Counts n v
      counts r v own zero i l = go (ℕ_discrete i (me - 1))
        where
          go : Dec (i ≡ me - 1) → get_or v i 0 ≤ cond (ltb i n) most_starts 0
          go (yes j) =
              let y : get_or v i 0 ≡ s.incarnation + 1 = ap (λ z. get_or v z 0) j ∙ own in
              rw (lt-ltb i n (omega (arith, r.me_low, r.me_high))) (omega arith)
          go (no j) = let y : get_or v i 0 ≡ 0 = zero i j in omega arith

  -- and so does a crash
  pub crash-keeps : fit_crash me n period tick s ≡ true → fit me n period tick (crashed s) ≡ true
  crash-keeps e =
      let (r, k) = fit-ranges me n period tick s (start_of me n period tick s (crash-of me n period tick s e).0).1 in
      crashed-elim (λ y. fit me n period tick y ≡ true) s (down_fits me n period tick s r k)
