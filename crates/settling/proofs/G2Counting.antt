-- G. The divided ticks of a quiet stretch, counted by what the followers have left to lose.
use mathlib.Core.Path.{◌≡◌, refl, sym, ◌∙◌}
use mathlib.Core.Logic.{◌≢◌}
use mathlib.Core.Bool.{Bool, true, false, cond}
use Prim.Native.Nat.{ℕ, zero, suc, ◌+◌, ◌-◌, ◌*◌, ◌≤◌, ◌<◌, zero-le}
use native.Mathlib.Numerals.{add-one}
use native.Mathlib.Omega.{arith}
use native.Mathlib.Decide.{dec_lt}
use lib.Dec.{eqb}
use borrow.Author.Tests.{eqb-true, eqb-false, eq-eqb}
use Rattle.lists.specs.Count.{count_to}
use Rattle.lists.specs.Test.{all_to}
use Rattle.lists.proofs.Bools.{cond_elim}
use Rattle.lists.proofs.Every.{all_map}
use Rattle.election.specs.System.{station, underway}
use Rattle.election.specs.Tick.{next, tick}
use Rattle.election.specs.declared.Message.{Message}
use Rattle.election.specs.declared.System.{System}
use Rattle.settling.proofs.BCalm.{Stretch, calm_self}
use Rattle.settling.proofs.E2Follower.{spare}
use Rattle.settling.proofs.E3Invariant.{Coming, END, Inv, Fine, tick-inv, tick-move}
use Rattle.settling.proofs.DDeadline.{deadline, soonest_lo}
use Rattle.election.proofs.Places.{In, seat_in, tick-tick}
use Rattle.settling.proofs.FPotential.{tri, pot_if, move_pot, pot_top}
use Rattle.settling.proofs.G1Sums.{sum_to, sum_le, sum_add, sum_short, sum_counted, failed, some_failed}

-- the head at place k trusts L, if it is steady
abbrev pub agrees : Stretch → System → ℕ → Bool
agrees K s k = cond (K.steady (k + 1)) (eqb (station s (k + 1)).leader K.L) true

-- 1 if some steady head doesn't trust L
abbrev pub split : Stretch → System → ℕ
split K s = failed (all_to K.n (agrees K s))

-- what the head at place k can still lose
abbrev pub pot_of : Stretch → System → ℕ → ℕ
pot_of K s k =
    cond (K.steady (k + 1)) (cond (eqb (k + 1) K.L) 0 (pot_if K.d s.tick (spare K (station s (k + 1))) (deadline K s (k + 1)) (eqb (station s (k + 1)).leader K.L))) 0

abbrev pub pots : Stretch → System → ℕ
pots K s = sum_to K.n (pot_of K s)

-- the number of steady heads
abbrev pub steady_heads : Stretch → ℕ
steady_heads K = count_to K.n (λ k. K.steady (k + 1))

abbrev pub top : Stretch → ℕ
top K = (steady_heads K - 1) * tri (K.d - 2)

deadline_lo : (K : Stretch) (s : System) → Inv K s → (p : ℕ) → In K.n p → p ≢ K.L → K.steady p ≡ true → s.tick < deadline K s p
deadline_lo K s h p ip pL u =
    soonest_lo (underway s K.L p) s.tick ((station s K.L).slot + K.d)
    (all_map (Coming K s.tick K.L) (λ (m : Message). s.tick < m.due) (λ m f. f.ahead) (underway s K.L p) (h.mail K.L p K.L-in ip (λ e. pL (sym e)) u)) (omega (arith, h.next-lo))

module _ (K : Stretch) (s : System) (h : Inv K s) (fine : Fine K s) (room : s.tick < 1000000) (past : END K ≤ s.tick) where
  -- for one head: a divided tick costs it 1 at least, and no tick adds to it
  head_step : (k : ℕ) → k < K.n → failed (agrees K (tick s) k) + pot_of K (tick s) k ≤ pot_of K s k
  head_step k l = go (K.steady (k + 1)) refl
    where
      p : ℕ
      p = k + 1

      ip : In K.n (k + 1)
      ip = seat_in K.n k l

      inv' : Inv K (tick s)
      inv' = tick-inv K s h fine room

      t' : Bool
      t' = eqb (station (tick s) (k + 1)).leader K.L

      pot' : ℕ
      pot' = pot_if K.d (tick s).tick (spare K (station (tick s) (k + 1))) (deadline K (tick s) (k + 1)) t'

      pot : ℕ
      pot = pot_if K.d s.tick (spare K (station s (k + 1))) (deadline K s (k + 1)) (eqb (station s (k + 1)).leader K.L)

      now_eq : (tick s).tick ≡ suc s.tick
      now_eq = tick-tick s ∙ add-one s.tick

      other : K.steady (k + 1) ≡ true → k + 1 ≢ K.L → failed t' + pot' ≤ pot
      other u pL =
          rw now_eq
          (move_pot K.period K.d (END K) s.tick _ _ _ _ _ _ past (deadline_lo K s h (k + 1) ip pL u)
          (rw now_eq at (deadline_lo K (tick s) inv' (k + 1) ip pL u))
          (h.phases (k + 1) ip u pL) (rw (add-one s.tick) at (tick-move K s h fine room (omega arith) (k + 1) ip u pL)))

      self : k + 1 ≡ K.L → failed t' ≤ 0
      self e =
          let x : (station (tick s) (k + 1)).leader ≡ K.L = rw e (calm_self K _ (station (tick s) K.L) (inv'.calm K.L K.L-in K.L-steady) (omega (arith, tick-tick s))) in
          rw (eq-eqb (station (tick s) (k + 1)).leader K.L x) zero-le

      go : (b : Bool) → K.steady (k + 1) ≡ b → failed (cond b t' true) + cond b (cond (eqb (k + 1) K.L) 0 pot') 0 ≤ cond b (cond (eqb (k + 1) K.L) 0 pot) 0
      go false e = omega arith
      go true u = go2 (eqb (k + 1) K.L) refl
        where
          go2 : (c : Bool) → eqb (k + 1) K.L ≡ c → failed t' + cond c 0 pot' ≤ cond c 0 pot
          go2 true e = omega (arith, self (eqb-true _ _ e))
          go2 false e = other u (eqb-false _ _ e)

  pub pots_step : split K (tick s) + pots K (tick s) ≤ pots K s
  pots_step =
      omega (
        arith,
        some_failed K.n (agrees K (tick s)),
        sum_add K.n (λ k. failed (agrees K (tick s) k)) (pot_of K (tick s)),
        sum_le K.n (λ k. failed (agrees K (tick s) k) + pot_of K (tick s) k) (pot_of K s) head_step,
      )

less_one : (x k T : ℕ) → x + T ≤ k * T → x ≤ (k - 1) * T
less_one x zero T h = omega arith
less_one x (suc k) T h = let e : suc k - 1 ≡ k = omega arith in rw e (omega arith)

pub pots_top : (K : Stretch) (s : System) → Inv K s → END K ≤ s.tick → pots K s ≤ top K
pots_top K s h past =
    less_one (pots K s) (steady_heads K) T
    (rw (← sum_counted K.n T (λ k. K.steady (k + 1)))
    (omega (arith, rw flag_L at (sum_short K.n (K.L - 1) (pot_of K s) (λ k. cond (K.steady (k + 1)) T 0) each zero_L (omega (arith, K.L-in.low, K.L-in.high))))))
  where
    T : ℕ
    T = tri (K.d - 2)

    back : K.L - 1 + 1 ≡ K.L
    back = omega (arith, K.L-in.low)

    flag_L : cond (K.steady (K.L - 1 + 1)) T 0 ≡ T
    flag_L = rw (back, K.L-steady)

    zero_L : pot_of K s (K.L - 1) ≡ 0
    zero_L = rw (back, K.L-steady, eq-eqb K.L K.L refl)

    each : (k : ℕ) → k < K.n → pot_of K s k ≤ cond (K.steady (k + 1)) T 0
    each k l = go (K.steady (k + 1)) refl
      where
        ip : In K.n (k + 1)
        ip = seat_in K.n k l

        go : (b : Bool) → K.steady (k + 1) ≡ b
            → cond b (cond (eqb (k + 1) K.L) 0 (pot_if K.d s.tick (spare K (station s (k + 1))) (deadline K s (k + 1)) (eqb (station s (k + 1)).leader K.L))) 0 ≤ cond b T 0
        go false e = zero-le
        go true u =
            cond_elim (λ (x : ℕ). x ≤ T) (eqb (k + 1) K.L) (λ e. zero-le)
            (λ e. pot_top K.d (END K) s.tick (station s (k + 1)).timer (spare K (station s (k + 1))) (deadline K s (k + 1)) past (deadline_lo K s h (k + 1) ip (eqb-false _ _ e) u) (h.phases (k + 1) ip u (eqb-false _ _ e)))

-- At most N divided ticks are to come.
pub record Budget (K : Stretch) (N : ℕ) (s : System) : Type 0 where
  pub inv : Inv K s
  pub early : s.tick < END K → (END K - s.tick) + top K ≤ N
  pub late : END K ≤ s.tick → pots K s ≤ N

-- What one tick takes of them.
pub pay_tick : (K : Stretch) (N : ℕ) (s : System) → Fine K s → s.tick < 1000000 → Budget K N s → (N' : ℕ) × Budget K N' (tick s) × (split K (tick s) + N' ≤ N)
pay_tick K N s fine room h = go (dec_lt s.tick (END K)) (dec_lt (next s) (END K))
  where
    inv' : Inv K (tick s)
    inv' = tick-inv K s h.inv fine room

    once : split K (tick s) ≤ 1
    once = cond_elim (λ (x : ℕ). x ≤ 1) (all_to K.n (agrees K (tick s))) (λ e. zero-le) (λ e. omega arith)

    go : Dec (s.tick < END K) → Dec (next s < END K) → (N' : ℕ) × Budget K N' (tick s) × (split K (tick s) + N' ≤ N)
    go (yes a) (yes b) =
        (N - 1, record { inv = inv'; early = λ e. omega (arith, tick-tick s, h.early a); late = λ e. omega (arith, tick-tick s) }, omega (arith, once, h.early a))
    go (yes a) (no b) = (
      pots K (tick s),
      record { inv = inv'; early = λ e. omega (arith, tick-tick s); late = λ e. omega arith },
      omega (arith, once, h.early a, pots_top K (tick s) inv' (omega (arith, tick-tick s))),
    )
    go (no a) b = (
      pots K (tick s),
      record { inv = inv'; early = λ e. omega (arith, tick-tick s); late = λ e. omega arith },
      omega (arith, pots_step K s h.inv fine room (omega arith), h.late (omega arith)),
    )
