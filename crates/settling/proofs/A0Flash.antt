-- A. Systems of flash heads: what their stations do in a tick and at a start, and what soundness says of them.
use mathlib.Core.Path.{◌≡◌, sym, ◌∙◌}
use mathlib.Core.Bool.{true, false, ◌&&◌}
use Prim.Native.Nat.{ℕ, ◌≤◌}
use lib.Dec.{eqb}
use borrow.Author.Tests.{eqb-true}
use Rattle.fit.specs.Fit.{fit}
use Rattle.fit.proofs.Tests.{ranked_of}
use Rattle.lists.proofs.Bools.{three}
use Rattle.station.specs.Rules.{started, expired, slotted}
use Rattle.station.specs.declared.Station.{Station}
use Rattle.station.proofs.Candidates.{Ranked}
use Rattle.election.specs.Heads.{by_order, announces, starting}
use Rattle.election.specs.System.{station, underway}
use Rattle.election.specs.Tick.{next, heard_all, expired_now, slotted_now, settled, sending, tick}
use Rattle.election.specs.declared.System.{System}
use Rattle.election.proofs.Places.{In, tick-station}
use Rattle.election.proofs.Soundness.{Sound}
use Rattle.election.proofs.Steps.{settled_up}

module _ (s : System) (flash : s.clock ≡ false) where
  -- an up station after (a) and (b), and a station after (c)
  pub flash-settled : (p : ℕ) → (station s p).up ≡ true → settled s p ≡ expired_now (expired p) (next s) (heard_all (by_order s.ranks) s.n p (next s) (λ q. underway s q p) (station s p))
  flash-settled p u = settled_up s p u ∙ rw flash

  pub flash-ticked : s.n ≤ 8 → (p : ℕ) → In s.n p → station (tick s) p ≡ slotted_now (slotted s.period (next s)) (next s) (settled s p)
  flash-ticked small p ip = tick-station s small p ip ∙ rw flash

  -- a station sends at its send chance if it trusts itself
  announced : (p : ℕ) (x : Station) → announces s p x ≡ eqb x.leader p
  announced p x = rw flash

  pub flash-sending : (p : ℕ) → sending s p ≡ ((settled s p).up && eqb (settled s p).slot (next s) && eqb (settled s p).leader p)
  unfolding sending
  flash-sending p = rw (announced p (settled s p))

  pub sending-self : (p : ℕ) → sending s p ≡ true → (settled s p).leader ≡ p
  sending-self p e =
      let (a, b, c) = three (settled s p).up (eqb (settled s p).slot (next s)) (eqb (settled s p).leader p) (sym (flash-sending p) ∙ e) in
      eqb-true _ _ c

  -- a start
  pub flash-starting : (p : ℕ) (x : Station) → starting s p x ≡ started p s.n s.period s.tick x
  flash-starting p x = rw flash

  module _ (f : Sound s) where
    -- each station fits, and each rank is in range
    pub flash-fits : (p : ℕ) → In s.n p → fit p s.n s.period s.tick (station s p) ≡ true
    flash-fits p ip = rw flash at (f.fits p ip)

    pub flash-ranked : Ranked s.ranks
    flash-ranked = ranked_of s.n s.ranks (rw flash at f.ranked)
