-- A run goes on from tick to tick, past those in which nothing is due.
use mathlib.Core.Path.{◌≡◌, refl, sym, ap, ◌∙◌}
use mathlib.Core.Bool.{true}
use Prim.Native.Nat.{ℕ, suc, ◌+◌, ◌-◌, ◌<◌, ◌≤◌}
use native.Mathlib.Omega.{arith}
use Rattle.station.specs.Limits.{last_tick}
use Rattle.election.specs.Idle.{quiet_at, Held, Still}
use Rattle.election.specs.System.{at_tick}
use Rattle.election.specs.Sound.{sound}
use Rattle.election.specs.Tick.{tick, ticks}
use Rattle.election.specs.declared.System.{System}
use Rattle.election.proofs.Idle.{held_at, idle-ticks, still_quiet, tick-held}
use Rattle.election.proofs.Places.{tick-tick, tick-n, tick-ready}
use Rattle.election.proofs.Soundness.{of_sound, sound-of}
use Rattle.election.proofs.TickSound.{tick-sound, ticks-sound, ticks-ready, ticks-add}
use Rattle.ticks.specs.Sending.{Ticking}

-- a run of t ticks from s has come to r: what is left of it leads to the same system
pub record Going (t : ℕ) (s r : System) : Type 0 where
  pub is-sound : sound r ≡ true
  pub is-ready : r.ready ≡ true
  pub held : Held r
  pub size : r.n ≡ s.n
  pub reached : r.tick ≤ s.tick + t
  pub room : s.tick + t ≤ last_tick
  pub rest : ticks (s.tick + t - r.tick) r ≡ ticks t s

pub going_first : (t : ℕ) (s : System) → sound s ≡ true → s.ready ≡ true → Held s → s.tick + t ≤ last_tick → Going t s s
going_first t s e u held h =
    let z : s.tick + t - s.tick ≡ t = omega arith in
    record { is-sound = e; is-ready = u; held = held; size = refl; reached = omega arith; room = h; rest = ap (λ k. ticks k s) z }

pub going_done : (t : ℕ) (s r : System) → Going t s r → s.tick + t ≤ r.tick → r ≡ ticks t s
unfolding ticks
going_done t s r g h = let z : s.tick + t - r.tick ≡ 0 = omega arith in rw z at g.rest

module _ (t : ℕ) (s r : System) (g : Going t s r) (h : r.tick < s.tick + t) where
  pub going_ticking : Ticking r
  going_ticking = record { is-sound = g.is-sound; is-ready = g.is-ready; room = omega (arith, g.room) }

  -- up to quiet nothing is due, and the counter goes on to until
  module _ (quiet until : ℕ) (low : r.tick + 1 ≤ until) (high : until ≤ s.tick + t) (by : until ≤ quiet) (calm : (now : ℕ) → r.tick + 1 < now → now ≤ quiet → quiet_at now (tick r) ≡ true) where
    skipped : ℕ
    skipped = until - (r.tick + 1)

    after : Held (tick r)
    after = tick-held r

    at-until : at_tick until (tick r) ≡ ticks skipped (tick r)
    unfolding skipped
    at-until =
        let z : r.tick + 1 + (until - (r.tick + 1)) ≡ until = omega arith in
        sym (idle-ticks skipped (tick r) after (λ now a b. calm now (omega (arith, tick-tick r)) (omega (arith, tick-tick r))) ∙ ap (λ k. at_tick k (tick r)) (ap (λ k. k + skipped) (tick-tick r) ∙ z))

    now_ready : (ticks skipped (tick r)).ready ≡ true
    now_ready = ticks-ready skipped (tick r) ∙ tick-ready r ∙ g.is-ready

    pub going_on : Going t s (at_tick until (tick r))
    unfolding ticks at_tick skipped
    going_on =
        record {
          is-sound = rw at-until (of_sound (ticks skipped (tick r)) (ticks-sound skipped (tick r) (omega (arith, tick-tick r, g.room)) (tick-sound r (sound-of r g.is-sound g.is-ready) (omega (arith, g.room)))) now_ready);
          is-ready = tick-ready r ∙ g.is-ready;
          held = held_at until (tick r) after;
          size = tick-n r ∙ g.size;
          reached = high;
          room = g.room;
          rest =
              let z : s.tick + t - r.tick ≡ suc (until - (r.tick + 1) + (s.tick + t - until)) = omega arith in
              ap (ticks (s.tick + t - until)) at-until ∙ ticks-add skipped (s.tick + t - until) (tick r) ∙ rw z at g.rest;
        }

    pub going_still : Still quiet (at_tick until (tick r))
    unfolding quiet_at at_tick
    going_still = still_quiet quiet (at_tick until (tick r)) (held_at until (tick r) after) (λ now a b. calm now (omega arith) b)
