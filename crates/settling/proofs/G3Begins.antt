-- G. The invariant holds where a stretch with steady heads begins.
use mathlib.Core.Path.{◌≡◌, refl, sym, ◌∙◌}
use mathlib.Core.Logic.{◌≢◌}
use mathlib.Core.List.{List}
use mathlib.Core.Bool.{Bool, true, false, cond, ◌&&◌}
use Prim.Native.Nat.{ℕ, ◌+◌, ◌-◌, ◌*◌, ◌≤◌, ◌<◌, max}
use native.Mathlib.Decide.{ℕ_discrete}
use native.Mathlib.Omega.{arith}
use lib.Dec.{eqb}
use borrow.Author.Tests.{ne_eqb, ltb-true}
use Rattle.lists.specs.Largest.{max_to}
use Rattle.lists.proofs.Every.{all_both}
use Rattle.lists.proofs.Largest.{max_least}
use Rattle.station.specs.Order.{entry, before}
use Rattle.station.proofs.Candidates.{key_of, before-key}
use Rattle.fit.proofs.Tests.{fit_of}
use Rattle.settling.specs.Steady.{AllUp, OthersMoreNow, ArrivingTo, longest_wait_among, longest_timeout_among}
use Rattle.election.specs.Commands.{Command}
use Rattle.election.specs.System.{station, underway}
use Rattle.election.specs.declared.System.{System}
use Rattle.settling.proofs.BCalm.{Stretch, key_at, key_l, rank-in, Calm}
use Rattle.settling.proofs.A0Flash.{flash-fits, flash-ranked}
use Rattle.settling.proofs.A1Sane.{Sane}
use Rattle.settling.proofs.E3Invariant.{Inv}
use Rattle.settling.proofs.DDeadline.{soonest_le}
use Rattle.election.proofs.Places.{In}
use Rattle.settling.proofs.E1Phase.{early}
use Rattle.election.proofs.Counts.{counts, FromFresh}
use Rattle.settling.proofs.A2Reached.{always, Low, Reached}
use Rattle.election.proofs.Underway.{underway-due}

-- at a moment of a stretch: the heads of S are up, and every other up head has a higher count than L
pub record StillSteady (S : ℕ → Bool) (n L : ℕ) (x : System) : Type 0 where
  pub ups : (p : ℕ) → In n p → S p ≡ true → (station x p).up ≡ true
  pub more : (p : ℕ) → In n p → (station x p).up ≡ true → S p ≡ false → counts x L < counts x p

-- the accepted commands say so
pub still_steady : (S : ℕ → Bool) (n L : ℕ) (cs : List Command) (x : System) → In n L → x.n ≡ n → x.clock ≡ false → FromFresh cs x → AllUp S n cs → OthersMoreNow S n L cs → StillSteady S n L x
still_steady S n L cs x iL e flash f up more =
    record {
      ups = λ p ip s. f.latest p (at p ip) ∙ up p ip.low ip.high s;
      more = λ p ip u s. rw (f.counted flash L (at L iL), f.counted flash p (at p ip)) (more p ip.low ip.high s (sym (f.latest p (at p ip)) ∙ u));
    }
  where
    at : (p : ℕ) → In n p → In x.n p
    at p ip = rw e ip

-- and L is the first of S by count, rank and number
pub record FirstHere (S : ℕ → Bool) (s : System) (L : ℕ) : Type 0 where
  pub inside : In s.n L
  pub in_set : S L ≡ true
  pub least : (p : ℕ) → In s.n p → S p ≡ true → p ≢ L → before (counts s L) (entry s.ranks L) L (counts s p) (entry s.ranks p) p ≡ true
  pub still : StillSteady S s.n L s

module _ (S : ℕ → Bool) (s : System) where
  -- M is no shorter than any timeout of a head of S, W than any start-up wait left
  timeout-below : (p q : ℕ) → In s.n p → In s.n q → q ≢ p → S p ≡ true → entry (station s p).timeouts q ≤ longest_timeout_among S s
  unfolding longest_timeout_among
  timeout-below p q ip iq ne u =
      let ep : p - 1 + 1 ≡ p = omega (arith, ip.low) in
      let eq : q - 1 + 1 ≡ q = omega (arith, iq.low) in
      let f : ℕ → ℕ → ℕ = λ k i. cond (eqb i k) 0 (entry (station s (k + 1)).timeouts (i + 1)) in
      let a : f (p - 1) (q - 1) ≤ max_to s.n (f (p - 1)) = max_least s.n (f (p - 1)) (q - 1) (omega (arith, iq.low, iq.high)) in
      let b : cond (S (p - 1 + 1)) (max_to s.n (f (p - 1))) 0 ≤ longest_timeout_among S s =
      max_least s.n (λ k. cond (S (k + 1)) (max_to s.n (f k)) 0) (p - 1) (omega (arith, ip.low, ip.high)) in
      let c : cond (S (p - 1 + 1)) (max_to s.n (f (p - 1))) 0 ≡ max_to s.n (f (p - 1)) = rw (ep, u) in
      let d : f (p - 1) (q - 1) ≡ entry (station s p).timeouts q = rw (ne_eqb (q - 1) (p - 1) (λ i. ne (let j : q ≡ p = omega (arith, ip.low, iq.low) in j)), ep, eq) in
      omega arith

  wait-below : (p : ℕ) → In s.n p → S p ≡ true → (station s p).recovering ≡ true → (station s p).slot - s.tick ≤ longest_wait_among S s
  unfolding longest_wait_among
  wait-below p ip u w =
      let ep : p - 1 + 1 ≡ p = omega (arith, ip.low) in
      let f : ℕ → ℕ = λ k. cond (S (k + 1) && (station s (k + 1)).recovering) ((station s (k + 1)).slot - s.tick) 0 in
      let a : f (p - 1) ≤ longest_wait_among S s = max_least s.n f (p - 1) (omega (arith, ip.low, ip.high)) in
      let c : f (p - 1) ≡ (station s p).slot - s.tick = rw (ep, u, w) in
      omega arith

module _ (s : System) (h : Reached s) (S : ℕ → Bool) (d L : ℕ) (first : FirstHere S s L) where
  -- the stretch that begins with s; the heads of S are steady
  abbrev pub from-here : Stretch
  from-here =
      record {
        n = s.n;
        period = s.period;
        L = L;
        d = d;
        since = s.tick;
        M = longest_timeout_among S s;
        W = longest_wait_among S s;
        steady = S;
        C = counts s;
        ranks = s.ranks;
        ranked = flash-ranked s h.flash h.sound;
        small = h.sound.n-high;
        beats = omega (arith, h.sound.period-low);
        L-in = first.inside;
        L-steady = first.in_set;
      }

  L-least : (p : ℕ) → In s.n p → S p ≡ true → key_l from-here ≤ key_at from-here p
  L-least p ip u = go (ℕ_discrete p L)
    where
      small : (q : ℕ) → In s.n q → q ≤ 8
      small q iq = omega (arith, iq.high, h.sound.n-high)

      go : Dec (p ≡ L) → key_l from-here ≤ key_at from-here p
      go (yes e) = rw e (omega arith)
      go (no ne) =
          let less : key_l from-here < key_at from-here p =
          ltb-true _ _ (sym (before-key (counts s L) (entry s.ranks L) L (counts s p) (entry s.ranks p) p (rank-in from-here L first.inside) (small L first.inside) (rank-in from-here p ip) (small p ip)) ∙ first.least p ip u ne) in
          omega arith

  begin-calm : (p : ℕ) → In s.n p → S p ≡ true → Calm from-here p (s.tick + 1) (station s p)
  begin-calm p ip c =
      let u : (station s p).up ≡ true = first.still.ups p ip c in
      let a : Sane s.ranks s.n s.period always (counts s) p (s.tick + 1) (station s p) = h.heads p ip u in
      record {
        sane = record { own = a.own; low = λ q iq Sq. a.low q iq refl; range = a.range; ahead = a.ahead; slow = a.slow; on = a.on; off = a.off };
        quick = λ q iq ne. omega (arith, timeout-below S s p q ip iq ne c);
        dying = λ ne le. go (ℕ_discrete (station s p).leader p) ne le;
      }
    where
      u : (station s p).up ≡ true
      u = first.still.ups p ip c

      go : Dec ((station s p).leader ≡ p) → (station s p).leader ≢ L → key_of s.ranks (station s p).recovered (station s p).leader ≤ key_l from-here → (station s p).timer ≤ s.tick + longest_timeout_among S s + 2 * d
      go (yes e) ne le = let z : (station s p).timer ≡ 0 = (h.heads p ip u).off e in omega arith
      go (no np) ne le =
          let (low, high) = (fit_of p s.n s.period s.tick (station s p) (flash-fits s h.flash h.sound p ip) u).1.on np in
          omega (arith, timeout-below S s p (station s p).leader ip (h.heads p ip u).range np c)

  L-up : (station s L).up ≡ true
  L-up = first.still.ups L first.inside first.in_set

  begin-hi : (station s L).slot ≤ max (s.tick + longest_wait_among S s) (s.tick + s.period)
  begin-hi = go (station s L).recovering refl
    where
      go : (b : Bool) → (station s L).recovering ≡ b → (station s L).slot ≤ max (s.tick + longest_wait_among S s) (s.tick + s.period)
      go true w = omega (arith, wait-below S s L first.inside first.in_set w)
      go false w = omega (arith, h.paced L first.inside L-up w)

  pub begin-inv : ArrivingTo S d s → Inv from-here s
  begin-inv arriving =
      record {
        same-n = refl;
        same-period = refl;
        same-ranks = refl;
        reached = h;
        ups = first.still.ups;
        const = λ x ix u. refl;
        surplus = first.still.more;
        least = L-least;
        calm = begin-calm;
        mail = λ q p iq ip ne u.
            all_both (λ m. (s.tick < m.due) × Low s m) (λ m. m.due ≤ s.tick + d) _ (λ m a b. record { ahead = a.0; low = λ x ix Sx. a.1 x ix; old = λ ne le. b }) (underway s q p)
            (all_both (λ m. s.tick < m.due) (Low s) _ (λ m a b. (a, b)) (underway s q p) (underway-due s h.sound q p iq ip ne) (h.mail q p iq ip ne))
            (arriving q p iq.low iq.high ip.low ip.high ne u);
        next-lo = (fit_of L s.n s.period s.tick (station s L) (flash-fits s h.flash h.sound L first.inside) L-up).0.slot_low;
        next-hi = begin-hi;
        phases = λ p ip u pL. early (omega (arith, soonest_le (underway s L p) ((station s L).slot + d), begin-hi));
      }
