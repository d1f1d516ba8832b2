-- Where a flash head came from in a tick: before it heard its leader, and before its timer ended.
use mathlib.Core.Path.{◌≡◌, refl, sym, ap, ◌∙◌}
use mathlib.Core.Logic.{◌≢◌}
use mathlib.Core.List.{List}
use mathlib.Core.Bool.{Bool, true, false, not, false≢true}
use Prim.Native.Nat.{ℕ, ◌+◌, ◌-◌, ◌<◌, ◌≤◌}
use native.Mathlib.Decide.{ℕ_discrete}
use native.Mathlib.Omega.{arith}
use lib.ListN.{length, get_or, set, replicate, length-set}
use lib.Seq.{ext_get_or, get_or-set_same, get_or-set_other}
use lib.Dec.{ltb, eqb}
use borrow.Author.Tests.{ltb-true, eqb-true, eqb-false, not-true}
use Rattle.lists.proofs.Bools.{both}
use Rattle.lists.proofs.Count.{Once, one-counted}
use Rattle.station.specs.Order.{entry}
use Rattle.station.specs.Rules.{waiting, other, joined, trusting, heard, expired}
use Rattle.fit.specs.Fit.{ranks_in, fit, timeouts_at}
use Rattle.station.specs.Limits.{longest}
use Rattle.station.specs.declared.Station.{Station}
use Rattle.station.proofs.Elimination.{heard-elim, expired-elim}
use Rattle.fit.proofs.Handed.{JustSet, InTick, Ended}
use Rattle.fit.proofs.Keeps.{set_other}
use Rattle.fit.proofs.Tests.{Ranges, Kept, Timeouts, Alive, Standing, ranked_of, of_fit}
use Rattle.station.proofs.Vectors.{joined_at, length-joined, zeros-at}
use Rattle.election.proofs.Links.{zeros-in}
use Rattle.handing.proofs.Carries.{due_now, counts-content}
use Rattle.handing.proofs.Origins.{FromHearing, FromTimer}

-- counts joined with zeros are the counts
joined-zeros : (v : List ℕ) → length v ≡ 8 → joined v (replicate 8 0) ≡ v
joined-zeros v e =
    ext_get_or 0 (joined v (replicate 8 0)) v (length-joined v (replicate 8 0) ∙ sym e)
    (λ i h. let z : ◌≡◌ {A = ℕ} (get_or (replicate 8 0) i 0) 0 = zeros-at i in joined_at v (replicate 8 0) i (omega (arith, length-joined v (replicate 8 0))) ∙ omega arith)

-- the timer was set in this tick: before, the station trusted itself, and hearing the leader made it what it is
module _ (ranks : List ℕ) (me n period now : ℕ) (x : Station) (r : Ranges me n period) (ranked : ranks_in n ranks ≡ true) (st : Standing me n period (now - 1) x) where
  itself_fits : Kept n x.incarnation x.stable → fit me n period (now - 1) (trusting me 0 x) ≡ true
  itself_fits k =
      let l : Alive me n x = st.living in
      of_fit me n period (now - 1) (trusting me 0 x) r k
      (record {
        living = record { up = l.up; count = l.count; leader_low = r.me_low; leader_high = r.me_high; counts = l.counts; own = l.own; flash = l.flash };
        timeouts = st.timeouts;
        slot_low = st.slot_low;
        slot_high = st.slot_high;
      })
      (record { off = λ e. refl; on = λ ne. absurd (ne refl) })

  leader_heard : JustSet ranks me now x → length x.recovered ≡ 8 → heard ranks me x.leader (replicate 8 0) now (trusting me 0 x) ≡ x
  leader_heard j e =
      heard-elim (λ y. y ≡ x) ranks me x.leader now (replicate 8 0) (trusting me 0 x) x.recovered (ranked_of n ranks ranked) (omega (arith, r.me_high, r.n-high)) (omega (arith, st.living.leader_high, r.n-high)) (omega (arith, r.me_high, r.n-high)) (joined-zeros x.recovered e)
      (λ a b. ap (λ t. trusting x.leader t x) (sym j.ends))
      (λ a b. absurd (omega arith))
      (λ a b. absurd (omega (arith, j.first)))

  pub from-hearing : Kept n x.incarnation x.stable → JustSet ranks me now x → length x.recovered ≡ 8 → FromHearing false ranks me n period now x
  from-hearing k j e =
      record {
        station = trusting me 0 x;
        before = record { fit = itself_fits k; up = st.living.up };
        counts = replicate 8 0;
        stamp = 0;
        coming = record {
          low = st.living.leader_low;
          high = st.living.leader_high;
          other = set_other ranks me now x j;
          content = λ sent. counts-content n period (now - 1) (due_now now sent (replicate 8 0) 0) (zeros-in n) refl;
        };
        heard = λ sent. leader_heard j e;
      }

-- one timeout alone is at the highest
timeouts-once : (high : ℕ) (t : List ℕ) → timeouts_at high t ≡ 1 → Once 8 (λ k. eqb (get_or t k 0) high)
unfolding timeouts_at
timeouts-once high t e = one-counted 8 (λ k. eqb (get_or t k 0) high) e

-- the station that trusted the station at place j, whose timer is due now and whose timeout is t
abbrev unexpired : ℕ → ℕ → ℕ → Station → Station
unexpired j t now x = waiting (j + 1) now (set x.timeouts j t) x

-- the timer ended in this tick: before, the station trusted the one whose timeout is now at the highest
module _ (me n period now : ℕ) (x : Station) (v : InTick me n period now) (l : Alive me n x) (due : x.slot ≡ now) (u : Ended me n period now x) (size : length x.timeouts ≡ 8) where
  once : Once 8 (λ k. eqb (get_or x.timeouts k 0) (longest now))
  once = timeouts-once (longest now) x.timeouts u.one

  -- its place
  risen : ℕ
  risen = once.place

  risen_below : risen < 8
  unfolding risen
  risen_below = once.below

  risen_highest : get_or x.timeouts risen 0 ≡ longest now
  unfolding risen
  risen_highest = eqb-true (get_or x.timeouts risen 0) (longest now) once.there

  others-lower : (k : ℕ) → k < 8 → k ≢ risen → get_or x.timeouts k 0 ≢ longest now
  unfolding risen
  others-lower k h ne = eqb-false (get_or x.timeouts k 0) (longest now) (once.elsewhere k h ne)

  -- it is another station
  risen_other : other me n risen ≡ true
  risen_other = go (other me n risen) refl
    where
      go : (b : Bool) → other me n risen ≡ b → other me n risen ≡ true
      go true e = e
      go false e = absurd (let z : get_or x.timeouts risen 0 ≡ 0 = u.timeouts.rest risen risen_below e in omega (arith, risen_highest))

  risen_station : (risen < n) × (risen + 1 ≢ me)
  risen_station =
      let (a, b) = both (ltb risen n) (not (eqb (risen + 1) me)) risen_other in
      (ltb-true risen n a, eqb-false (risen + 1) me (not-true (eqb (risen + 1) me) b))

  abbrev earlier : Station
  earlier = unexpired risen (longest (now - 1)) now x

  timeout-risen : get_or earlier.timeouts risen 0 ≡ longest (now - 1)
  timeout-risen = get_or-set_same x.timeouts risen (longest (now - 1)) 0 (omega (arith, risen_below))

  timeout-others : (k : ℕ) → k ≢ risen → get_or earlier.timeouts k 0 ≡ get_or x.timeouts k 0
  timeout-others k ne = get_or-set_other x.timeouts risen k (longest (now - 1)) 0 ne

  earlier_timeouts : Timeouts me n period (longest (now - 1)) earlier.timeouts
  earlier_timeouts = record { others = λ k h o. at k h o (ℕ_discrete k risen); rest = λ k h o. rest k h o (ℕ_discrete k risen) }
    where
      at : (k : ℕ) → k < 8 → other me n k ≡ true → Dec (k ≡ risen) → (period ≤ get_or earlier.timeouts k 0) × (get_or earlier.timeouts k 0 ≤ longest (now - 1))
      at k h o (yes e) =
          let z : get_or earlier.timeouts k 0 ≡ longest (now - 1) = ap (λ i. get_or earlier.timeouts i 0) e ∙ timeout-risen in
          (omega (arith, v.given.period-high), omega arith)
      at k h o (no e) =
          let z : get_or earlier.timeouts k 0 ≡ get_or x.timeouts k 0 = timeout-others k e in
          let (a, b) = u.timeouts.others k h o in
          let c : get_or x.timeouts k 0 ≢ longest now = others-lower k h e in
          (omega arith, omega (arith, v.tick-low))

      rest : (k : ℕ) → k < 8 → other me n k ≡ false → Dec (k ≡ risen) → get_or earlier.timeouts k 0 ≡ 0
      rest k h o (yes e) = absurd (false≢true (sym o ∙ ap (other me n) e ∙ risen_other))
      rest k h o (no e) = timeout-others k e ∙ u.timeouts.rest k h o

  unexpired_fits : Kept n x.incarnation x.stable → fit me n period (now - 1) earlier ≡ true
  unexpired_fits k =
      let (below, apart) = risen_station in
      let i : risen + 1 - 1 ≡ risen = omega arith in
      let z : entry earlier.timeouts (risen + 1) ≡ longest (now - 1) = ap (λ i. get_or earlier.timeouts i 0) i ∙ timeout-risen in
      of_fit me n period (now - 1) earlier v.given k
      (record {
        living = record { up = l.up; count = l.count; leader_low = omega arith; leader_high = omega arith; counts = l.counts; own = l.own; flash = l.flash };
        timeouts = earlier_timeouts;
        slot_low = omega (arith, v.tick-low);
        slot_high = omega (arith, v.tick-low);
      })
      (record { off = λ e. absurd (apart e); on = λ ne. (omega (arith, v.tick-low), omega (arith, v.tick-low)) })

  length-earlier : length earlier.timeouts ≡ 8
  length-earlier = simp length-set size

  -- the timeouts once that one has risen
  restored : (t : List ℕ) → length t ≡ length earlier.timeouts → entry t (risen + 1) ≡ entry earlier.timeouts (risen + 1) + 1 → ((k : ℕ) → k ≢ risen + 1 - 1 → get_or t k 0 ≡ get_or earlier.timeouts k 0) → t ≡ x.timeouts
  restored t s e same = ext_get_or 0 t x.timeouts (s ∙ length-earlier ∙ sym size) (λ i h. at i (ℕ_discrete i risen))
    where
      at : (i : ℕ) → Dec (i ≡ risen) → get_or t i 0 ≡ get_or x.timeouts i 0
      at i (yes f) =
          let g : risen + 1 - 1 ≡ risen = omega arith in
          let a : get_or t i 0 ≡ entry t (risen + 1) = ap (λ z. get_or t z 0) (f ∙ sym g) in
          let b : entry earlier.timeouts (risen + 1) ≡ longest (now - 1) = ap (λ z. get_or earlier.timeouts z 0) g ∙ timeout-risen in
          let c : get_or x.timeouts i 0 ≡ longest now = ap (λ z. get_or x.timeouts z 0) f ∙ risen_highest in
          omega (arith, v.tick-low)
      at i (no f) = same i (λ g. f (omega arith)) ∙ timeout-others i f

  -- and the end of its timer made it what it is
  leader_expired : expired me earlier ≡ x
  leader_expired =
      expired-elim (λ y. y ≡ x) me earlier (omega (arith, risen_below, length-earlier))
      (λ t s e same.
      let w : t ≡ x.timeouts = restored t s e same in
      λ i. waiting (sym u.self i) (sym u.stopped i) (w i) x)

  pub from-timer : Kept n x.incarnation x.stable → FromTimer false me n period now x
  from-timer k = record { station = earlier; before = record { fit = unexpired_fits k; up = l.up }; due = refl; ended = leader_expired }
