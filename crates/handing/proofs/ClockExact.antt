-- Each operation of a clock head takes exactly what some sound system hands to it.
use mathlib.Core.Path.{◌≡◌, refl, subst}
use mathlib.Core.Logic.{◌⊎◌, ◌≢◌}
use mathlib.Core.Logic.◌⊎◌.{inl, inr}
use mathlib.Core.Bool.{true}
use Prim.Native.Nat.{ℕ, ◌-◌}
use native.Mathlib.Omega.{arith}
use Rattle.station.specs.declared.Station.{Station}
use Rattle.fit.proofs.Handed.{InTick, Before}
use Rattle.clock.specs.Fit.{fit_hear}
use Rattle.clock.proofs.Between.{start_of, of_start, crash-of, of_crash}
use Rattle.clock.proofs.Handed.{JustSet, Hearing, hearing-of, Expiring, expiring-of, Unended, Ended, Slotting, slotting-of}
use Rattle.clock.proofs.Tests.{Kept, Timer, Standing, of_fit}
use Rattle.handing.specs.ClockHanded.{zeros, ClockStartExact, ClockCrashExact, ClockHearExact, ClockExpireExact, ClockSlotExact}
use Rattle.handing.proofs.Carries.{due_now, stamp-content}
use Rattle.handing.proofs.ClockEarlier.{from-hearing, from-timer}
use Rattle.handing.proofs.Fitting.{found-fits, heard-fits, expired-fits, slotted-fits}
use Rattle.handing.proofs.Handing.{Given, hears-handed, expires_handed, slots_handed}
use Rattle.handing.proofs.Origins.{Prior, FromHearing, Ran, FromTimer}
use Rattle.handing.proofs.Witness.{no_ranks_lem, eight_ranks, around_finds}

pub clock_start_exact : ClockStartExact
clock_start_exact me n period tick x = (
  λ e. (let (h, f) = start_of me n period tick x e in around_finds true me n period tick x h f),
  λ f. (let (h, e) = found-fits true me n period tick x f in of_start me n period tick x h e),
)

pub clock_crash_exact : ClockCrashExact
clock_crash_exact me n period tick x = (
  λ e. (let (f, u) = crash-of me n period tick x e in let (h, full) = (clock_start_exact me n period tick x).0 f in ((h, u), full)),
  λ f. of_crash me n period tick x ((clock_start_exact me n period tick x).1 f.0) f.1,
)

-- the values of a tick, and no ranks
given : (me n period now : ℕ) → InTick me n period now → Given true zeros me n period now
given me n period now v = record { values = v; ranked = no_ranks_lem 0; eight = eight_ranks }

-- a station that stood so at the end of the tick before
prior : (me n period now : ℕ) (x : Station) → InTick me n period now → Kept me x → Standing n period (now - 1) x → Timer me (now - 1) x → Prior true me n period now x
prior me n period now x v k st t = record { fit = of_fit me n period (now - 1) x v.given k st t; up = st.living.up }

pub clock_expire_exact : ClockExpireExact
clock_expire_exact me n period now x = (
  λ e. (let d : Expiring me n period now x = expiring-of me n period now x e in
      expires_handed true zeros me n period now (given me n period now d.values) x (prior me n period now x d.values d.kept d.stands d.timer) d.now),
  expired-fits true me n period now x,
)

pub clock_hear_exact : ClockHearExact
clock_hear_exact me n period now q z x = (
  λ e. (let h : Hearing me n period now q z x = hearing-of me n period now q z x e in
      hears-handed true zeros me n period now (given me n period now h.values) q zeros z
      (record { low = h.message.low; high = h.message.high; other = h.message.other; content = λ sent. stamp-content n period (now - 1) (due_now now sent zeros z) refl h.message.stamp-low h.message.stamp-high })
      x (came h h.timer)),
  λ h. subst (λ w. fit_hear me n period now q w x ≡ true) h.is-stamp (heard-fits true me n period now zeros q zeros z x h),
)
  where
    came : Hearing me n period now q z x → Timer me (now - 1) x ⊎ (JustSet me now x × Before period now q x) → Prior true me n period now x ⊎ (FromHearing true zeros me n period now x × Before period now q x)
    came h (inl t) = inl (prior me n period now x h.values h.kept h.stands t)
    came h (inr (j, b)) = inr (from-hearing zeros me n period now x h.values h.kept h.stands j, b)

module _ (me n period now : ℕ) (x : Station) (d : Slotting me n period now x) where
  stands : Unended me period now x → Standing n period (now - 1) x
  stands u =
      record {
        living = d.living;
        timeout-low = u.timeout-low;
        timeout-high = u.timeout-high;
        slot_low = omega (arith, d.now, d.values.tick-low);
        slot_high = omega (arith, d.now, d.values.given.period-low);
      }

  -- a timer that was set in this tick ends later
  ran : Unended me period now x → (Timer me (now - 1) x × (x.timer ≢ now)) ⊎ JustSet me now x → Ran true zeros me n period now x
  ran u (inl (t, ne)) = (inl (prior me n period now x d.values d.kept (stands u) t), ne)
  ran u (inr j) = (inr (from-hearing zeros me n period now x d.values d.kept (stands u) j), λ e. omega (arith, j.ends, u.timeout-low, d.values.given.period-low))

  came : Unended me period now x ⊎ Ended me period now x → Ran true zeros me n period now x ⊎ FromTimer true me n period now x
  came (inl u) = inl (ran u u.timer)
  came (inr u) = inr (from-timer me n period now x d.values d.kept d.living d.now u)

pub clock_slot_exact : ClockSlotExact
clock_slot_exact me n period now x = (
  λ e. (let d : Slotting me n period now x = slotting-of me n period now x e in
      slots_handed true zeros me n period now (given me n period now d.values) x d.now (came me n period now x d d.timer)),
  slotted-fits true me n period now zeros x,
)
