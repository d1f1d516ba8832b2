-- Where a clock head came from in a tick: before it heard its leader, and before its timer ended.
use mathlib.Core.Path.{◌≡◌, refl, sym, ap, ◌∙◌}
use mathlib.Core.Logic.{◌≢◌}
use mathlib.Core.Logic.◌⊎◌.{inl, inr}
use mathlib.Core.List.{List}
use mathlib.Core.Bool.{true}
use Prim.Native.Nat.{ℕ, ◌+◌, ◌-◌, ◌≤◌}
use native.Mathlib.Decide.{ℕ_discrete}
use native.Mathlib.Omega.{arith}
use lib.ListN.{replicate}
use Rattle.station.specs.Rules.{trusting}
use Rattle.station.specs.declared.Station.{Station}
use Rattle.fit.proofs.Handed.{InTick}
use Rattle.clock.specs.Fit.{fit}
use Rattle.clock.specs.Rules.{bounding, heard, expired}
use Rattle.clock.proofs.Elimination.{leader_again, expired-elim}
use Rattle.clock.proofs.Handed.{JustSet, Ended}
use Rattle.clock.proofs.Tests.{Kept, Trusts, Alive, Standing, kept_same, of_fit}
use Rattle.handing.proofs.Carries.{due_now, stamp-content}
use Rattle.handing.proofs.Origins.{FromHearing, FromTimer}

-- the timer was set in this tick: before, it was due now, and a message of the leader with the lowest stamp reset it
module _ (ranks : List ℕ) (me n period now : ℕ) (x : Station) (v : InTick me n period now) (k : Kept me x) (st : Standing n period (now - 1) x) (j : JustSet me now x) where
  abbrev unset : Station
  unset = trusting x.leader now x

  unset_fits : fit me n period (now - 1) unset ≡ true
  unset_fits =
      let l : Alive n period (now - 1) x = st.living in
      of_fit me n period (now - 1) unset v.given (kept_same me x unset refl refl refl refl k)
      (record {
        living = record {
          up = l.up;
          leader = l.leader;
          stamp-low = l.stamp-low;
          stamp-high = l.stamp-high;
          lowest_low = l.lowest_low;
          lowest_high = l.lowest_high;
        };
        timeout-low = st.timeout-low;
        timeout-high = st.timeout-high;
        slot_low = st.slot_low;
        slot_high = st.slot_high;
      })
      (record {
        none = λ e. absurd (j.some e);
        self = λ e. absurd (j.other e);
        on = λ a b. (omega (arith, v.tick-low), omega (arith, st.timeout-low, v.given.period-low));
      })

  leader_heard : heard me x.leader x.lowest now unset ≡ x
  leader_heard = leader_again me now unset j.some ∙ ap (λ t. trusting x.leader t x) (sym j.ends)

  someone : Trusts n x → (1 ≤ x.leader) × (x.leader ≤ n)
  someone (inl l) = l
  someone (inr l) = absurd (j.some l.0)

  pub from-hearing : FromHearing true ranks me n period now x
  from-hearing =
      let (low, high) = someone st.living.leader in
      record {
        station = unset;
        before = record { fit = unset_fits; up = st.living.up };
        counts = replicate 8 0;
        stamp = x.lowest;
        coming = record {
          low = low;
          high = high;
          other = j.other;
          content = λ sent. stamp-content n period (now - 1) (due_now now sent (replicate 8 0) x.lowest) refl st.living.lowest_low (omega (arith, st.living.lowest_high, st.living.stamp-high));
        };
        heard = λ sent. leader_heard;
      }

-- a station besides me
another : (me n : ℕ) → 2 ≤ n → (p : ℕ) × (1 ≤ p) × (p ≤ n) × (p ≢ me)
another me n h = go (ℕ_discrete me 1)
  where
    go : Dec (me ≡ 1) → (p : ℕ) × (1 ≤ p) × (p ≤ n) × (p ≢ me)
    go (yes e) = (2, omega arith, h, λ i. omega arith)
    go (no ne) = (1, omega arith, omega arith, λ i. ne (sym i))

-- the timer ended in this tick: before, it was due now, the station trusted another one, and its timeout was the highest of the tick before
module _ (me n period now : ℕ) (x : Station) (v : InTick me n period now) (k : Kept me x) (l : Alive n period (now - 1) x) (due : x.slot ≡ now) (u : Ended me period now x) where
  abbrev unexpired : ℕ → Station
  unexpired p = bounding x.stamp (period + (now - 1)) (trusting p now x)

  unexpired_fits : (p : ℕ) → 1 ≤ p → p ≤ n → p ≢ me → fit me n period (now - 1) (unexpired p) ≡ true
  unexpired_fits p low high other =
      of_fit me n period (now - 1) (unexpired p) v.given (kept_same me x (unexpired p) refl refl refl refl k)
      (record {
        living = record {
          up = l.up;
          leader = inl (low, high);
          stamp-low = l.stamp-low;
          stamp-high = l.stamp-high;
          lowest_low = l.stamp-low;
          lowest_high = omega arith;
        };
        timeout-low = omega arith;
        timeout-high = omega arith;
        slot_low = omega (arith, v.tick-low);
        slot_high = omega (arith, v.given.period-low);
      })
      (record {
        none = λ e. absurd (omega arith);
        self = λ e. absurd (other e);
        on = λ a b. (omega (arith, v.tick-low), omega (arith, v.given.period-low));
      })

  leader_expired : (p : ℕ) → expired me (unexpired p) ≡ x
  leader_expired p =
      let w : period + (now - 1) + 1 ≡ x.timeout = omega (arith, u.timeout, v.tick-low) in
      expired-elim (λ y. y ≡ x) me (unexpired p) (λ i. bounding (sym u.lowest i) (w i) (trusting (sym u.self i) (sym u.stopped i) x))

  pub from-timer : FromTimer true me n period now x
  from-timer =
      let (p, low, high, other) = another me n v.given.n-low in
      record { station = unexpired p; before = record { fit = unexpired_fits p low high other; up = l.up }; due = refl; ended = leader_expired p }
