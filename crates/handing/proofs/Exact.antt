-- Each operation of a flash head takes exactly what some sound system hands to it.
use mathlib.Core.Path.{◌≡◌, refl, subst}
use mathlib.Core.Logic.{◌⊎◌, ◌≢◌}
use mathlib.Core.Logic.◌⊎◌.{inl, inr}
use mathlib.Core.List.{List}
use mathlib.Core.Bool.{true, false}
use Prim.Native.Nat.{ℕ, ◌-◌}
use native.Mathlib.Omega.{arith}
use Rattle.fit.specs.Fit.{fit_hear}
use Rattle.station.specs.Limits.{longest}
use Rattle.station.specs.declared.Station.{Station}
use Rattle.fit.proofs.Between.{start_of, of_start, crash-of, of_crash}
use Rattle.fit.proofs.Handed.{JustSet, InTick, Before, Hearing, hearing-of, Expiring, expiring-of, Unended, Ended, Slotting, slotting-of}
use Rattle.fit.proofs.Keeps.{leader_timeout, set_other}
use Rattle.fit.proofs.Tests.{Kept, Timer, Standing, of_fit}
use Rattle.handing.specs.Handed.{Eight, StartExact, CrashExact, HearExact, ExpireExact, SlotExact}
use Rattle.handing.proofs.Carries.{due_now, counts-content}
use Rattle.handing.proofs.Earlier.{from-hearing, from-timer}
use Rattle.handing.proofs.Fitting.{found-fits, heard-fits, expired-fits, slotted-fits}
use Rattle.handing.proofs.Handing.{hears-handed, expires_handed, slots_handed}
use Rattle.handing.proofs.Origins.{Prior, FromHearing, Ran, FromTimer}
use Rattle.handing.proofs.Witness.{no_ranks, no_ranks_lem, eight_ranks, around_finds}

pub start-exact : StartExact
start-exact me n period tick x = (
  λ e. (let (h, f) = start_of me n period tick x e in around_finds false me n period tick x h f),
  λ f. (let (h, e) = found-fits false me n period tick x f in of_start me n period tick x h e),
)

pub crash-exact : CrashExact
crash-exact me n period tick x = (
  λ e. (let (f, u) = crash-of me n period tick x e in let (h, full) = (start-exact me n period tick x).0 f in ((h, u), full)),
  λ f. of_crash me n period tick x ((start-exact me n period tick x).1 f.0) f.1,
)

-- a station that stood so at the end of the tick before
prior : (me n period now : ℕ) (x : Station) → InTick me n period now → Kept n x.incarnation x.stable → Standing me n period (now - 1) x → Timer me (now - 1) x → Prior false me n period now x
prior me n period now x v k st t = record { fit = of_fit me n period (now - 1) x v.given k st t; up = st.living.up }

pub expire_exact : ExpireExact
expire_exact me n period now x = (
  λ e. (let d : Expiring me n period now x = expiring-of me n period now x e in
      expires_handed false no_ranks me n period now (record { values = d.values; ranked = no_ranks_lem n; eight = eight_ranks }) x (prior me n period now x d.values d.kept d.stands d.timer) d.now),
  expired-fits false me n period now x,
)

pub hear_exact : HearExact
hear_exact ranks me n period now q v x eight l = (
  λ e. (let h : Hearing ranks me n period now q v x = hearing-of ranks me n period now q v x e in
      hears-handed false ranks me n period now (record { values = h.values; ranked = h.ranked; eight = eight }) q v 0
      (record { low = h.message.low; high = h.message.high; other = h.message.other; content = λ sent. counts-content n period (now - 1) (due_now now sent v 0) h.message.counts refl })
      x (came h h.timer)),
  λ h. subst (λ w. fit_hear ranks me n period now q w x ≡ true) h.is-counts (heard-fits false me n period now ranks q v 0 x h),
)
  where
    came : Hearing ranks me n period now q v x → Timer me (now - 1) x ⊎ (JustSet ranks me now x × Before period now q x) → Prior false me n period now x ⊎ (FromHearing false ranks me n period now x × Before period now q x)
    came h (inl t) = inl (prior me n period now x h.values h.kept h.stands t)
    came h (inr (j, b)) = inr (from-hearing ranks me n period now x h.values.given h.ranked h.stands h.kept j l.counts, b)

module _ (ranks : List ℕ) (me n period now : ℕ) (x : Station) (l : Eight x) (d : Slotting ranks me n period now x) where
  stands : Unended ranks me n period now x → Standing me n period (now - 1) x
  stands u = record { living = d.living; timeouts = u.timeouts; slot_low = omega (arith, d.now, d.values.tick-low); slot_high = omega (arith, d.now, d.values.given.period-low) }

  -- a timer that was set in this tick ends later
  ran : Unended ranks me n period now x → (Timer me (now - 1) x × (x.timer ≢ now)) ⊎ JustSet ranks me now x → Ran false ranks me n period now x
  ran u (inl (t, ne)) = (inl (prior me n period now x d.values d.kept (stands u) t), ne)
  ran u (inr j) =
      let (low, high) = leader_timeout me n period (longest (now - 1)) x d.values.given d.living u.timeouts (set_other ranks me now x j) in
      (inr (from-hearing ranks me n period now x d.values.given d.ranked (stands u) d.kept j l.counts), λ e. omega (arith, j.ends, d.values.given.period-low))

  came : Unended ranks me n period now x ⊎ Ended me n period now x → Ran false ranks me n period now x ⊎ FromTimer false me n period now x
  came (inl u) = inl (ran u u.timer)
  came (inr u) = inr (from-timer me n period now x d.values d.living d.now u l.timeouts d.kept)

pub slot_exact : SlotExact
slot_exact ranks me n period now x eight l = (
  λ e. (let d : Slotting ranks me n period now x = slotting-of ranks me n period now x e in
      slots_handed false ranks me n period now (record { values = d.values; ranked = d.ranked; eight = eight }) x d.now (came ranks me n period now x l d d.timer)),
  slotted-fits false me n period now ranks x,
)
