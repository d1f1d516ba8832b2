-- Whatever a sound system hands to an operation fits it: for both kinds of head.
use mathlib.Core.Path.{◌≡◌, refl, sym, ap, subst, subst₂, subst₃, ◌∙◌}
use mathlib.Core.Logic.{◌≢◌}
use mathlib.Core.Logic.◌⊎◌.{inr}
use mathlib.Core.List.{List, ◌∷◌, ◌++◌}
use mathlib.Core.Bool.{Bool, true}
use Prim.Native.Nat.{ℕ, ◌+◌, ◌-◌, ◌<◌, ◌≤◌, min}
use native.Mathlib.Omega.{arith}
use Rattle.lists.specs.Every.{All}
use Rattle.lists.specs.Fold.{each}
use Rattle.lists.proofs.Every.{all_map}
use Rattle.fit.specs.Fit.{flight}
use Rattle.station.specs.declared.Station.{Station}
use Rattle.handing.specs.Handed.{Holds, Finds, Runs, Hears, Expires, Slots}
use Rattle.election.specs.Heads.{hearing_of, fits, hearing}
use Rattle.election.specs.System.{station, underway}
use Rattle.election.specs.Tick.{next, heard_link, heard_all, settled}
use Rattle.election.specs.declared.Message.{Message}
use Rattle.election.specs.declared.System.{System}
use Rattle.election.proofs.Delivery.{Ready, posted_fits}
use Rattle.election.proofs.Heads.{fits_message, fits_hear, fits_expire, fits_slot, hear_keeps, during_expires}
use Rattle.election.proofs.Links.{Posted}
use Rattle.election.proofs.Places.{In}
use Rattle.election.proofs.Soundness.{Sound, sound-of, underway-spaced}
use Rattle.election.proofs.Spaced.{Spaced, spaced-here, spaced-older}
use Rattle.election.proofs.StationTick.{heard-below, heard-timely, settled-timed}
use Rattle.election.proofs.Steps.{link-keeps}

-- a system that holds station me
module _ (clock : Bool) (me n period tick : ℕ) (s : System) (h : Holds clock me n period tick s) where
  holds-sound : Sound s
  holds-sound = sound-of s h.is-sound h.is-ready

  holds-in : In s.n me
  holds-in = record { low = h.low; high = omega (arith, h.high, h.same-n) }

  -- what holds with the system's own kind and numbers holds with those that are given
  with_held : (P : Bool → ℕ → ℕ → ℕ → Type 0) → P s.clock s.n s.period s.tick → P clock n period tick
  with_held P w = subst (λ k. P k n period tick) h.same_kind (subst₃ (P s.clock) h.same-n h.same-period h.same-tick w)

-- a command on a station of a sound system finds one that fits
pub found-fits : (clock : Bool) (me n period tick : ℕ) (x : Station) → Finds clock me n period tick x → (tick ≤ 1000000) × (fits clock me n period tick x ≡ true)
found-fits clock me n period tick x f =
    let s : System = f.system in
    let z : Sound s = holds-sound clock me n period tick s f.holds in (
      omega (arith, f.holds.same-tick, z.tick-high),
      ap (fits clock me n period tick) (sym f.is-station) ∙ with_held clock me n period tick s f.holds (λ k a b c. fits k me a b c (station s me) ≡ true) (z.fits me (holds-in clock me n period tick s f.holds)),
    )

-- a sender that can be heard before its older messages can be heard after them
module _ (clock : Bool) (ranks : List ℕ) (me n period tick q : ℕ) (sender : Station) (hq : In n q) (other : q ≢ me) (older : List Message) (m : Message) (younger : List Message)
    (mail : Spaced (Posted clock n period tick sender) period 0 (older ++ (m ∷ younger))) where
  abbrev Hearable : Station → Type 0
  Hearable x = (o : Message) → fits_message clock me n period (tick + 1) q o ≡ true → fits_hear clock ranks me n period (tick + 1) q o x ≡ true

  -- a message is fit, and another of the same sender can be due in the same tick
  abbrev Gap : Message → Type 0
  Gap o = (fits_message clock me n period (tick + 1) q o ≡ true) × (period ≤ min (tick + 1 - 1) flight)

  -- so it is with each older message that is due: it was sent a period before m and at most the longest delay ago
  older-gap : All (λ (o : Message). o.due ≡ tick + 1 → Gap o) older
  older-gap =
      let last : m.sent ≤ tick = (spaced-here 0 older m younger mail).1.sent-by in
      all_map (λ (o : Message). Posted clock n period tick sender o × (o.sent + period ≤ m.sent)) (λ (o : Message). o.due ≡ tick + 1 → Gap o)
      (λ o p due. (posted_fits clock me n period tick q sender hq other o p.0, omega (arith, p.0.due_by, p.1)))
      older (spaced-older 0 older m younger mail)

  hears-after : (x : Station) → Hearable x → fits_hear clock ranks me n period (tick + 1) q m (heard_link (hearing_of clock ranks) me q (tick + 1) older x) ≡ true
  hears-after x a =
      link-keeps (hearing_of clock ranks) Hearable Gap me (tick + 1) q (λ o y g b o' f. hear_keeps ranks me n period (tick + 1) q o y clock q o' (b o g.0) (inr (refl, g.1)) f) older x older-gap a m
      (posted_fits clock me n period tick q sender hq other m (spaced-here 0 older m younger mail).1)

-- what a sound system hands to a station that is up, in its next tick
module _ (clock : Bool) (me n period now : ℕ) (s : System) (r : Runs clock me n period now s) where
  sound-before : Sound s
  sound-before = holds-sound clock me n period (now - 1) s r.holds

  in_time : s.tick < 1000000
  in_time = omega (arith, r.low, r.high, r.holds.same-tick)

  me_in : In s.n me
  me_in = holds-in clock me n period (now - 1) s r.holds

  -- what holds with the system's own kind and numbers in its next tick holds with those that are given
  with_given : (P : Bool → ℕ → ℕ → ℕ → Type 0) → P s.clock s.n s.period (next s) → P clock n period now
  with_given P w =
      let e : now - 1 + 1 ≡ now = omega (arith, r.low) in
      subst (P clock n period) e (with_held clock me n period (now - 1) s r.holds (λ k a b c. P k a b (c + 1)) w)

  -- station me in the tick c: after the senders below q and the older messages of q, and after all of them
  abbrev after_older : ℕ → ℕ → List Message → Station
  after_older c q older = heard_link (hearing s) me q c older (each (q - 1) (λ k. heard_link (hearing s) me (k + 1) c (underway s (k + 1) me)) (station s me))

  abbrev after_hearing : ℕ → ℕ → Station
  after_hearing a c = heard_all (hearing s) a me c (λ q. underway s q me) (station s me)

  hands_hear : (q : ℕ) (older : List Message) (m : Message) (younger : List Message) → In s.n q → q ≢ me → underway s q me ≡ older ++ (m ∷ younger)
      → fits_hear clock s.ranks me n period now q m (after_older now q older) ≡ true
  hands_hear q older m younger hq ne e =
      let x : Station = each (q - 1) (λ k. heard_link (hearing s) me (k + 1) (next s) (underway s (k + 1) me)) (station s me) in
      let a : Ready s.clock s.ranks me s.n s.period (next s) (q - 1) x = heard-below s sound-before in_time me me_in r.is_up (q - 1) (omega (arith, hq.high)) in
      with_given (λ k a b c. fits_hear k s.ranks me a b c q m (after_older c q older) ≡ true)
      (hears-after s.clock s.ranks me s.n s.period s.tick q (station s q) hq ne older m younger
      (subst (Spaced (Posted s.clock s.n s.period s.tick (station s q)) s.period 0) e (underway-spaced s sound-before q me hq me_in ne))
      x (λ o w. a.above q o (omega (arith, hq.low)) w))

  hands_expire : (after_hearing n now).timer ≡ now → fits_expire clock me n period now (after_hearing n now) ≡ true
  hands_expire =
      with_given (λ k a b c. (after_hearing a c).timer ≡ c → fits_expire k me a b c (after_hearing a c) ≡ true)
      (during_expires s.ranks me s.n s.period (next s) (after_hearing s.n (next s)) s.clock (heard-timely s sound-before in_time me me_in r.is_up))

  hands_slot : (settled s me).slot ≡ now → fits_slot clock s.ranks me n period now (settled s me) ≡ true
  hands_slot =
      with_given (λ k a b c. (settled s me).slot ≡ c → fits_slot k s.ranks me a b c (settled s me) ≡ true)
      (settled-timed s sound-before in_time me me_in r.is_up).slots

-- so whatever is handed fits
module _ (clock : Bool) (me n period now : ℕ) where
  pub heard-fits : (ranks : List ℕ) (q : ℕ) (v : List ℕ) (z : ℕ) (x : Station) (h : Hears clock ranks me n period now q v z x) → fits_hear clock ranks me n period now q h.message x ≡ true
  heard-fits ranks q v z x h =
      subst₂ (λ r y. fits_hear clock r me n period now q h.message y ≡ true) h.same-ranks h.is-station
      (hands_hear clock me n period now h.system h.runs q h.older h.message h.younger
      (record { low = h.sender-low; high = omega (arith, h.sender-high, h.runs.holds.same-n) })
      h.other
      h.is-mail)

  pub expired-fits : (x : Station) → Expires clock me n period now x → fits_expire clock me n period now x ≡ true
  expired-fits x h =
      subst (λ y. y.timer ≡ now → fits_expire clock me n period now y ≡ true) h.is-station (hands_expire clock me n period now h.system h.runs) h.is-due

  pub slotted-fits : (ranks : List ℕ) (x : Station) → Slots clock ranks me n period now x → fits_slot clock ranks me n period now x ≡ true
  slotted-fits ranks x h =
      subst₂ (λ r y. y.slot ≡ now → fits_slot clock r me n period now y ≡ true) h.same-ranks h.is-station (hands_slot clock me n period now h.system h.runs) h.is-due
