-- A. One up station, always: its counts, its leader, its timeouts and its timer; kept by hearing, the timer and the send chance.
use mathlib.Core.Path.{◌≡◌, refl, ap}
use mathlib.Core.Logic.{◌≢◌}
use mathlib.Core.Bool.{Bool, true}
use mathlib.Core.List.{List}
use Prim.Native.Nat.{ℕ, ◌+◌, ◌-◌, ◌≤◌, ◌<◌, max}
use native.Mathlib.Omega.{arith}
use native.Mathlib.Decide.{ℕ_discrete}
use lib.ListN.{length, get_or}
use Rattle.station.specs.Limits.{most_rank}
use Rattle.station.specs.Order.{entry}
use Rattle.station.specs.Rules.{joined, heard, expired, slotted}
use Rattle.station.specs.declared.Station.{Station}
use Rattle.station.proofs.Candidates.{Ranked, key_of}
use Rattle.station.proofs.Elimination.{heard-elim, expired-elim, slotted_at, slotted-elim}
use Rattle.station.proofs.Vectors.{joined_at, inside}
use Rattle.election.specs.Tick.{expired_now, slotted_now}
use Rattle.election.proofs.Places.{In}
use Rattle.election.proofs.Steps.{expired_now-elim, slotted_now-elim}

-- a send chance, if it is due
pub slots_elim : (P : Station → Type 0) (period now : ℕ) (x : Station) → (x.slot ≡ now → P (slotted_at (now + period) x)) → (x.slot ≢ now → P x) → P (slotted_now (slotted period now) now x)
slots_elim P period now x a b = slotted_now-elim P (slotted period now) now x (λ e. slotted-elim P period now x (a e)) b

-- the rank of a station
pub rank-high : (ranks : List ℕ) → Ranked ranks → (n : ℕ) → n ≤ 8 → (q : ℕ) → In n q → entry ranks q ≤ most_rank
rank-high ranks ranked n small q i = ranked q (omega (arith, i.high))

-- the entry of joined counts
pub entry-joined : (n : ℕ) → n ≤ 8 → (v w : List ℕ) (q : ℕ) → In n q → entry (joined v w) q ≡ max (entry v q) (entry w q)
entry-joined n small v w q i = joined_at v w (q - 1) (omega (arith, i.low, i.high))

-- where one timeout has risen by one, each is as it was or one higher
pub raised : (x : Station) (t : List ℕ) → entry t x.leader ≡ entry x.timeouts x.leader + 1 → ((k : ℕ) → k ≢ x.leader - 1 → get_or t k 0 ≡ get_or x.timeouts k 0) → (q : ℕ) → (entry x.timeouts q ≤ entry t q) × (entry t q ≤ entry x.timeouts q + 1)
raised x t at same q = go (ℕ_discrete (q - 1) (x.leader - 1))
  where
    go : Dec (q - 1 ≡ x.leader - 1) → (entry x.timeouts q ≤ entry t q) × (entry t q ≤ entry x.timeouts q + 1)
    go (yes e) =
        let a : entry t q ≡ entry t x.leader = ap (λ z. get_or t z 0) e in
        let b : entry x.timeouts q ≡ entry x.timeouts x.leader = ap (λ z. get_or x.timeouts z 0) e in
        (omega arith, omega arith)
    go (no ne) = (omega (arith, same (q - 1) ne), omega (arith, same (q - 1) ne))

-- counts that of whomever S says so do not go beyond C
abbrev pub Known : ℕ → (ℕ → Bool) → (ℕ → ℕ) → List ℕ → Type 0
Known n S C v = (q : ℕ) → In n q → S q ≡ true → entry v q ≤ C q

-- Always. S says of whom the counts are known to be bounded by C; b is the tick from which on the timer may end.
pub record Sane (ranks : List ℕ) (n period : ℕ) (S : ℕ → Bool) (C : ℕ → ℕ) (p b : ℕ) (x : Station) : Type 0 where
  pub own : entry x.recovered p ≡ C p
  pub low : Known n S C x.recovered
  pub range : In n x.leader
  pub ahead : x.leader ≢ p → key_of ranks x.recovered x.leader < key_of ranks x.recovered p
  pub slow : (q : ℕ) → In n q → q ≢ p → period < entry x.timeouts q
  pub on : x.leader ≢ p → b ≤ x.timer
  pub off : x.leader ≡ p → x.timer ≡ 0

module _ (ranks : List ℕ) (n period : ℕ) (small : n ≤ 8) (S : ℕ → Bool) (C : ℕ → ℕ) (p : ℕ) (ip : In n p) where
  -- the counts after a message
  pub joined-own : (b : ℕ) (v : List ℕ) (x : Station) → S p ≡ true → Known n S C v → Sane ranks n period S C p b x → entry (joined x.recovered v) p ≡ C p
  joined-own b v x Sp hv h = omega (arith, entry-joined n small x.recovered v p ip, hv p ip Sp, h.own)

  pub joined-low : (b : ℕ) (v : List ℕ) (x : Station) → Known n S C v → Sane ranks n period S C p b x → Known n S C (joined x.recovered v)
  joined-low b v x hv h q iq Sq = omega (arith, entry-joined n small x.recovered v q iq, hv q iq Sq, h.low q iq Sq)

  -- a timer that is due runs for another station, whose timeout has a place
  pub due_other : (now : ℕ) (x : Station) → 1 ≤ now → Sane ranks n period S C p now x → x.timer ≡ now → x.leader ≢ p
  due_other now x low h e l = omega (arith, h.off l)

  pub due_place : (now : ℕ) (x : Station) → 1 ≤ now → Sane ranks n period S C p now x → x.timer ≡ now → x.leader - 1 < length x.timeouts
  due_place now x low h e = inside x.timeouts (x.leader - 1) (omega (arith, h.slow x.leader h.range (due_other now x low h e)))

  pub expire_sane : (now : ℕ) (x : Station) → 1 ≤ now → Sane ranks n period S C p now x → Sane ranks n period S C p (now + 1) (expired_now (expired p) now x)
  expire_sane now x low h =
      expired_now-elim (Sane ranks n period S C p (now + 1)) (expired p) now x
      (λ e.
      expired-elim (Sane ranks n period S C p (now + 1)) p x (due_place now x low h e)
      (λ t size at same.
      record {
        own = h.own;
        low = h.low;
        range = ip;
        ahead = λ ne. absurd (ne refl);
        slow = λ q iq ne. omega (arith, h.slow q iq ne, (raised x t at same q).0);
        on = λ ne. absurd (ne refl);
        off = λ f. refl;
      }))
      (λ e. record { own = h.own; low = h.low; range = h.range; ahead = h.ahead; slow = h.slow; on = λ ne. omega (arith, h.on ne); off = h.off })

  pub slot_sane : (b now : ℕ) (x : Station) → Sane ranks n period S C p b x → Sane ranks n period S C p b (slotted_now (slotted period now) now x)
  slot_sane b now x h =
      slots_elim (Sane ranks n period S C p b) period now x
      (λ e. record { own = h.own; low = h.low; range = h.range; ahead = h.ahead; slow = h.slow; on = h.on; off = h.off })
      (λ e. h)

-- hearing compares candidates, so it needs ranks in range
module _ (ranks : List ℕ) (ranked : Ranked ranks) (n period : ℕ) (small : n ≤ 8) (S : ℕ → Bool) (C : ℕ → ℕ) (p : ℕ) (ip : In n p) where
  pub hear_sane : (now q : ℕ) (v : List ℕ) (x : Station) → S p ≡ true → In n q → q ≢ p → Known n S C v → Sane ranks n period S C p now x → Sane ranks n period S C p now (heard ranks p q v now x)
  hear_sane now q v x Sp iq qp hv h =
      let k : List ℕ = joined x.recovered v in
      let own : entry k p ≡ C p = joined-own ranks n period small S C p ip now v x Sp hv h in
      let low : Known n S C k = joined-low ranks n period small S C p ip now v x hv h in
      heard-elim (Sane ranks n period S C p now) ranks p q now v x k ranked (omega (arith, ip.high)) (omega (arith, iq.high)) (omega (arith, h.range.high)) refl
      (λ a b.
      record { own = own; low = low; range = iq; ahead = λ ne. omega (arith, ip.high, iq.high, rank-high ranks ranked n small p ip, rank-high ranks ranked n small q iq); slow = h.slow; on = λ ne. omega arith; off = λ e. absurd (qp e) })
      (λ a b. record { own = own; low = low; range = ip; ahead = λ ne. absurd (ne refl); slow = h.slow; on = λ ne. absurd (ne refl); off = λ e. refl })
      (λ a b.
      record { own = own; low = low; range = h.range; ahead = λ ne. omega (arith, ip.high, h.range.high, rank-high ranks ranked n small p ip, rank-high ranks ranked n small x.leader h.range); slow = h.slow; on = h.on; off = h.off })
