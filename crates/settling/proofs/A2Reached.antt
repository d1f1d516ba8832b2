-- A. What holds of every system of flash heads that a schedule reaches, beyond soundness; kept by each tick.
use mathlib.Core.Path.{◌≡◌, refl, sym, ◌∙◌}
use mathlib.Core.Logic.{◌≢◌}
use mathlib.Core.Bool.{Bool, true, false}
use mathlib.Core.List.{List}
use Prim.Native.Nat.{ℕ, ◌+◌, ◌≤◌, ◌<◌}
use native.Mathlib.Omega.{arith}
use native.Mathlib.Nat.{le_of_eq}
use Rattle.lists.specs.Every.{All}
use Rattle.lists.proofs.Every.{all_map, all_append}
use Rattle.station.specs.Order.{entry}
use Rattle.station.specs.declared.Station.{Station}
use Rattle.station.proofs.Candidates.{Ranked}
use Rattle.station.proofs.Unchanged.{Unchanged}
use Rattle.election.specs.Heads.{by_order}
use Rattle.election.specs.System.{station, underway}
use Rattle.election.specs.Tick.{next, settled, later, sent, underway_after, tick}
use Rattle.election.specs.declared.Message.{Message}
use Rattle.election.specs.declared.System.{System}
use Rattle.settling.proofs.A0Flash.{flash-settled, flash-ticked, flash-ranked}
use Rattle.settling.proofs.A1Sane.{slots_elim, Sane, hear_sane, expire_sane, slot_sane}
use Rattle.election.proofs.Counts.{counts}
use Rattle.election.proofs.Places.{In, tick-underway}
use Rattle.election.proofs.Soundness.{Sound}
use Rattle.election.proofs.Steps.{all_keeps, settled-unchanged, sending-of, tick-up, tick-count}
use Rattle.election.proofs.TickSound.{tick-sound}
use Rattle.election.proofs.Underway.{inbox_all, later-all, sent-all}

-- every number
abbrev pub always : ℕ → Bool
always x = true

-- a message knows no more starts than there were
abbrev pub Low : System → Message → Type 0
Low s m = (x : ℕ) → In s.n x → entry m.counts x ≤ counts s x

pub record Reached (s : System) : Type 0 where
  pub flash : s.clock ≡ false
  pub sound : Sound s
  pub heads : (p : ℕ) → In s.n p → (station s p).up ≡ true → Sane s.ranks s.n s.period always (counts s) p (s.tick + 1) (station s p)
  pub paced : (p : ℕ) → In s.n p → (station s p).up ≡ true → (station s p).recovering ≡ false → (station s p).slot ≤ s.tick + s.period
  pub mail : (q p : ℕ) → In s.n q → In s.n p → q ≢ p → All (Low s) (underway s q p)

-- counts that only rise
pub recount : (ranks : List ℕ) (n period : ℕ) (C C' : ℕ → ℕ) (p b : ℕ) (x : Station) → In n p → ((y : ℕ) → In n y → C y ≤ C' y) → C p ≡ C' p → Sane ranks n period always C p b x → Sane ranks n period always C' p b x
recount ranks n period C C' p b x ip le e h =
    record { own = h.own ∙ e; low = λ q iq t. omega (arith, h.low q iq t, le q iq); range = h.range; ahead = h.ahead; slow = h.slow; on = h.on; off = h.off }

module _ (s : System) (h : Reached s) where
  abbrev small : s.n ≤ 8
  small = h.sound.n-high

  ranked : Ranked s.ranks
  ranked = flash-ranked s h.flash h.sound

  -- after (a) and (b)
  pub settled-sane : (p : ℕ) → In s.n p → (station s p).up ≡ true → Sane s.ranks s.n s.period always (counts s) p (next s + 1) (settled s p)
  settled-sane p ip u =
      rw (flash-settled s h.flash p u)
      (expire_sane s.ranks s.n s.period small always (counts s) p ip (next s) _ (omega arith)
      (all_keeps (by_order s.ranks) (Sane s.ranks s.n s.period always (counts s) p (next s)) (λ q m. (q ≢ p) × Low s m) s.n p (next s) (λ q. underway s q p)
      (λ q m y iq f. hear_sane s.ranks ranked s.n s.period small always (counts s) p ip (next s) q m.counts y refl iq f.0 (λ x ix t. f.1 x ix))
      (λ q iq. all_map (λ m. (q ≢ p) × Low s m) _ (λ m f e. f) (underway s q p) (inbox_all s h.sound (λ q. Low s) p ip (λ q iq ne. h.mail q p iq ip ne) q iq))
      (station s p) (h.heads p ip u)))

  heads' : (p : ℕ) → In s.n p → (station (tick s) p).up ≡ true → Sane s.ranks s.n s.period always (counts (tick s)) p (next s + 1) (station (tick s) p)
  heads' p ip u =
      recount s.ranks s.n s.period (counts s) (counts (tick s)) p (next s + 1) (station (tick s) p) ip (λ x ix. le_of_eq (sym (tick-count s small x ix))) (sym (tick-count s small p ip))
      (rw (flash-ticked s h.flash small p ip) (slot_sane s.ranks s.n s.period small always (counts s) p ip (next s + 1) (next s) (settled s p) (settled-sane p ip (sym (tick-up s small p ip) ∙ u))))

  paced' : (p : ℕ) → In s.n p → (station (tick s) p).up ≡ true → (station (tick s) p).recovering ≡ false → (station (tick s) p).slot ≤ next s + s.period
  paced' p ip u =
      let v : Unchanged (station s p) (settled s p) = settled-unchanged s p in
      let old : (station s p).recovering ≡ false → (station s p).slot ≤ s.tick + s.period = h.paced p ip (sym (tick-up s small p ip) ∙ u) in
      rw (flash-ticked s h.flash small p ip)
      (slots_elim (λ (y : Station). y.recovering ≡ false → y.slot ≤ next s + s.period) s.period (next s) (settled s p)
      (λ e w. omega arith) (λ e w. omega (arith, v.slot, old (sym v.recovering ∙ w))))

  mail' : (q p : ℕ) → In s.n q → In s.n p → q ≢ p → All (λ (m : Message). (x : ℕ) → In s.n x → entry m.counts x ≤ counts (tick s) x) (underway (tick s) q p)
  mail' q p iq ip ne =
      rw (tick-underway s small q p iq ip ne)
      (all_map (Low s) _ (λ m f x ix. omega (arith, f x ix, tick-count s small x ix)) (underway_after s q p)
      (all_append (Low s) (later (next s) (underway s q p)) (sent s q p)
      (later-all (Low s) (Low s) (next s) (underway s q p) (λ m d f. f) (h.mail q p iq ip ne))
      (sent-all (Low s) s q p (λ e d x ix. (settled-sane q iq (sending-of s q e).0).low x ix refl))))

  pub tick-reached : s.tick < 1000000 → Reached (tick s)
  unfolding tick
  tick-reached more-ticks = record { flash = h.flash; sound = tick-sound s h.sound more-ticks; heads = heads'; paced = paced'; mail = mail' }
