-- B and C. One steady station through a quiet stretch: a late leader gives way to L, and after M + 2 d ticks every leader is late.
use mathlib.Core.Path.{◌≡◌, refl, ap}
use mathlib.Core.Logic.{◌≢◌}
use mathlib.Core.Bool.{Bool, true}
use mathlib.Core.List.{List}
use Prim.Native.Nat.{ℕ, ◌+◌, ◌*◌, ◌≤◌, ◌<◌}
use native.Mathlib.Omega.{arith}
use native.Mathlib.Decide.{ℕ_discrete, dec_lt}
use Rattle.station.specs.Limits.{most_rank}
use Rattle.station.specs.Order.{entry}
use Rattle.station.specs.Rules.{joined, heard, expired, slotted}
use Rattle.station.specs.declared.Station.{Station}
use Rattle.station.proofs.Candidates.{Ranked, key, key_of}
use Rattle.station.proofs.Elimination.{heard-elim, expired-elim}
use Rattle.election.specs.Tick.{expired_now, slotted_now}
use Rattle.election.proofs.Places.{In}
use Rattle.election.proofs.Steps.{expired_now-elim}
use Rattle.settling.proofs.A1Sane.{slots_elim, rank-high, entry-joined, raised, Known, Sane, joined-own, joined-low, hear_sane, due_place, expire_sane, slot_sane}

-- The numbers of a stretch: stations, period, L, d, the tick from which it goes, M and W then, who is steady, the counts and the ranks.
pub record Stretch : Type 0 where
  pub n : ℕ
  pub period : ℕ
  pub L : ℕ
  pub d : ℕ
  pub since : ℕ
  pub M : ℕ
  pub W : ℕ
  pub steady : ℕ → Bool
  pub C : ℕ → ℕ
  pub ranks : List ℕ
  pub ranked : Ranked ranks
  pub small : n ≤ 8
  pub beats : 0 < period
  pub L-in : In n L
  pub L-steady : steady L ≡ true

-- The key of a steady station, and of L.
abbrev pub key_at : Stretch → ℕ → ℕ
key_at K p = key (K.C p) (entry K.ranks p) p

abbrev pub key_l : Stretch → ℕ
key_l K = key_at K K.L

pub rank-in : (K : Stretch) (p : ℕ) → In K.n p → entry K.ranks p ≤ most_rank
rank-in K p ip = rank-high K.ranks K.ranked K.n K.small p ip

-- In a stretch: timeouts are at most M and the ticks passed; and a leader that is before L has a timer that ends by since + M + 2 d.
pub record Calm (K : Stretch) (p b : ℕ) (x : Station) : Type 0 where
  pub sane : Sane K.ranks K.n K.period K.steady K.C p b x
  pub quick : (q : ℕ) → In K.n q → q ≢ p → entry x.timeouts q + K.since < K.M + b
  pub dying : x.leader ≢ K.L → key_of K.ranks x.recovered x.leader ≤ key_l K → x.timer ≤ K.since + K.M + 2 * K.d

-- What a message from q that is heard at tick now has to be.
pub record Fair (K : Stretch) (now q : ℕ) (v : List ℕ) : Type 0 where
  pub counts : Known K.n K.steady K.C v
  pub old : q ≢ K.L → key_of K.ranks v q ≤ key_l K → now ≤ K.since + K.d

module _ (K : Stretch) (p : ℕ) (ip : In K.n p) (Sp : K.steady p ≡ true) (least : key_l K ≤ key_at K p) where
  pub hear_calm : (now q : ℕ) (v : List ℕ) (x : Station) → In K.n q → q ≢ p → Fair K now q v → Calm K p now x → Calm K p now (heard K.ranks p q v now x)
  hear_calm now q v x iq qp f h =
      let k : List ℕ = joined x.recovered v in
      let own : entry k p ≡ K.C p = joined-own K.ranks K.n K.period K.small K.steady K.C p ip now v x Sp f.counts h.sane in
      let own-late : p ≢ K.L → key_of K.ranks k p ≤ key_l K → ⊥ = λ ne le. omega (arith, ip.high, K.L-in.high, K.small, rank-in K p ip, rank-in K K.L K.L-in) in
      heard-elim (λ (y : Station). Sane K.ranks K.n K.period K.steady K.C p now y → Calm K p now y) K.ranks p q now v x k K.ranked (omega (arith, ip.high, K.small)) (omega (arith, iq.high, K.small)) (omega (arith, h.sane.range.high, K.small)) refl
      (λ a b z.
      record { sane = z; quick = h.quick; dying = λ ne le. omega (arith, h.quick q iq qp, f.old ne (omega (arith, entry-joined K.n K.small x.recovered v q iq))) })
      (λ a b z. record { sane = z; quick = h.quick; dying = λ ne le. absurd (own-late ne le) })
      (λ a b z. record { sane = z; quick = h.quick; dying = λ ne le. h.dying ne (omega (arith, entry-joined K.n K.small x.recovered v x.leader h.sane.range)) })
      (hear_sane K.ranks K.ranked K.n K.period K.small K.steady K.C p ip now q v x Sp iq qp f.counts h.sane)

  pub expire_calm : (now : ℕ) (x : Station) → 1 ≤ now → Calm K p now x → Calm K p (now + 1) (expired_now (expired p) now x)
  expire_calm now x low h =
      expired_now-elim (λ (y : Station). Sane K.ranks K.n K.period K.steady K.C p (now + 1) y → Calm K p (now + 1) y) (expired p) now x
      (λ e.
      expired-elim (λ (y : Station). Sane K.ranks K.n K.period K.steady K.C p (now + 1) y → Calm K p (now + 1) y) p x (due_place K.ranks K.n K.period K.small K.steady K.C p ip now x low h.sane e)
      (λ t size at same z.
      record {
        sane = z;
        quick = λ q iq ne. omega (arith, h.quick q iq ne, (raised x t at same q).1);
        dying = λ ne le. omega (arith, h.sane.own, ip.high, K.L-in.high, K.small, rank-in K p ip, rank-in K K.L K.L-in);
      }))
      (λ e z. record { sane = z; quick = λ q iq ne. omega (arith, h.quick q iq ne); dying = h.dying })
      (expire_sane K.ranks K.n K.period K.small K.steady K.C p ip now x low h.sane)

  pub slot_calm : (b now : ℕ) (x : Station) → Calm K p b x → Calm K p b (slotted_now (slotted K.period now) now x)
  slot_calm b now x h =
      slots_elim (λ (y : Station). Sane K.ranks K.n K.period K.steady K.C p b y → Calm K p b y) K.period now x
      (λ e z. record { sane = z; quick = h.quick; dying = h.dying })
      (λ e z. h)
      (slot_sane K.ranks K.n K.period K.small K.steady K.C p ip b now x h.sane)

  -- From then on every leader is L or after L.
  pub calm_late : (b : ℕ) (x : Station) → Calm K p b x → K.since + K.M + 2 * K.d < b → x.leader ≢ K.L → key_l K < key_of K.ranks x.recovered x.leader
  calm_late b x h late ne = go (ℕ_discrete x.leader p) (dec_lt (key_l K) (key_of K.ranks x.recovered x.leader))
    where
      go : Dec (x.leader ≡ p) → Dec (key_l K < key_of K.ranks x.recovered x.leader) → key_l K < key_of K.ranks x.recovered x.leader
      go t (yes y) = y
      go (yes e) (no f) =
          let c : key_of K.ranks x.recovered x.leader ≡ key_of K.ranks x.recovered p = ap (λ z. key_of K.ranks x.recovered z) e in
          omega (arith, h.sane.own, ip.high, K.L-in.high, K.small, rank-in K p ip, rank-in K K.L K.L-in)
      go (no np) (no f) = absurd (f (omega (arith, h.sane.on np, h.dying ne (omega arith))))

-- So L trusts itself.
pub calm_self : (K : Stretch) (b : ℕ) (x : Station) → Calm K K.L b x → K.since + K.M + 2 * K.d < b → x.leader ≡ K.L
calm_self K b x h late = go (ℕ_discrete x.leader K.L)
  where
    go : Dec (x.leader ≡ K.L) → x.leader ≡ K.L
    go (yes e) = e
    go (no ne) = absurd (let y : key_l K < key_of K.ranks x.recovered x.leader = calm_late K K.L K.L-in K.L-steady (omega arith) b x h late ne in omega (arith, h.sane.own, h.sane.ahead ne))

pub fair_late : (K : Stretch) (now q : ℕ) (v : List ℕ) → Fair K now q v → q ≢ K.L → K.since + K.d < now → key_l K < key_of K.ranks v q
fair_late K now q v f ne late = go (dec_lt (key_l K) (key_of K.ranks v q))
  where
    go : Dec (key_l K < key_of K.ranks v q) → key_l K < key_of K.ranks v q
    go (yes y) = y
    go (no x) = omega (arith, f.old ne (omega arith))

-- Trusting L, with the timer at t.
pub record Trusts (K : Stretch) (t : ℕ) (x : Station) : Type 0 where
  pub leader_L : x.leader ≡ K.L
  pub timer_at : x.timer ≡ t

module _ (K : Stretch) (p now : ℕ) (ip : In K.n p) (Sp : K.steady p ≡ true) (pL : p ≢ K.L) (least : key_l K ≤ key_at K p) (late : K.since + K.M + 2 * K.d < now) where
  -- A head whose leader is late and that hears L trusts L.
  pub hear_L : (v : List ℕ) (x : Station) → Fair K now K.L v → Calm K p now x → Trusts K (now + entry x.timeouts K.L) (heard K.ranks p K.L v now x)
  hear_L v x f h =
      let k : List ℕ = joined x.recovered v in
      let own : entry k p ≡ K.C p = joined-own K.ranks K.n K.period K.small K.steady K.C p ip now v x Sp f.counts h.sane in
      let low : entry k K.L ≤ K.C K.L = joined-low K.ranks K.n K.period K.small K.steady K.C p ip now v x f.counts h.sane K.L K.L-in K.L-steady in
      heard-elim (Trusts K (now + entry x.timeouts K.L)) K.ranks p K.L now v x k K.ranked (omega (arith, ip.high, K.small)) (omega (arith, K.L-in.high, K.small)) (omega (arith, h.sane.range.high, K.small)) refl
      (λ a b. record { leader_L = refl; timer_at = refl })
      (λ a b. absurd (omega arith))
      (λ a b.
      let c : x.leader ≢ K.L = λ e. let e' : key_of K.ranks k x.leader ≡ key_of K.ranks k K.L = ap (λ z. key_of K.ranks k z) e in omega arith in
      absurd (omega (arith, calm_late K p ip Sp least now x h late c, entry-joined K.n K.small x.recovered v x.leader h.sane.range)))

  -- One that trusts L and hears another goes on, with its timer.
  pub hear_other : (q t : ℕ) (v : List ℕ) (x : Station) → In K.n q → q ≢ K.L → Fair K now q v → Calm K p now x → Trusts K t x → Trusts K t (heard K.ranks p q v now x)
  hear_other q t v x iq ne f h g =
      let k : List ℕ = joined x.recovered v in
      let e' : key_of K.ranks k x.leader ≡ key_of K.ranks k K.L = ap (λ z. key_of K.ranks k z) g.leader_L in
      let own : entry k p ≡ K.C p = joined-own K.ranks K.n K.period K.small K.steady K.C p ip now v x Sp f.counts h.sane in
      let low : entry k K.L ≤ K.C K.L = joined-low K.ranks K.n K.period K.small K.steady K.C p ip now v x f.counts h.sane K.L K.L-in K.L-steady in
      let after : key_l K < key_of K.ranks v q = fair_late K now q v f ne (omega arith) in
      heard-elim (Trusts K t) K.ranks p q now v x k K.ranked (omega (arith, ip.high, K.small)) (omega (arith, iq.high, K.small)) (omega (arith, h.sane.range.high, K.small)) refl
      (λ a b. absurd (omega (arith, g.leader_L, entry-joined K.n K.small x.recovered v q iq)))
      (λ a b. absurd (omega (arith, g.leader_L)))
      (λ a b. record { leader_L = g.leader_L; timer_at = g.timer_at })

  -- One that doesn't trust L and hears another than L still doesn't.
  pub hear_not : (q : ℕ) (v : List ℕ) (x : Station) → In K.n q → q ≢ K.L → In K.n x.leader → x.leader ≢ K.L → (heard K.ranks p q v now x).leader ≢ K.L
  hear_not q v x iq ne il g =
      heard-elim (λ (y : Station). y.leader ≢ K.L) K.ranks p q now v x (joined x.recovered v) K.ranked (omega (arith, ip.high, K.small)) (omega (arith, iq.high, K.small)) (omega (arith, il.high, K.small)) refl
      (λ a b. ne) (λ a b. pL) (λ a b. g)
