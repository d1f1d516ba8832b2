-- Ranks: after an accepted schedule each is the latest accepted one, 0 if there is none; and none is accepted while a head is up.
use mathlib.Core.Path.{◌≡◌, refl, ap, ◌∙◌}
use mathlib.Core.List.{List, [], ◌∷◌}
use mathlib.Core.Bool.{Bool, true, false, cond}
use Prim.Native.Nat.{ℕ, zero, suc, ◌-◌, ◌≤◌}
use native.Mathlib.Decide.{ℕ_discrete}
use native.Mathlib.Omega.{arith}
use lib.Dec.{eqb}
use lib.ListN.{length, get_or, replicate, set, length-set, length-replicate}
use lib.Seq.{get_or-set_same, get_or-set_other}
use borrow.Author.Tests.{eq-eqb, ne_eqb, eqb-true}
use Rattle.lists.proofs.Test.{all_at}
use Rattle.station.specs.Order.{entry}
use Rattle.fit.proofs.Tests.{fit_of}
use Rattle.station.proofs.Vectors.{zeros-at}
use Rattle.election.specs.Claims.{RankIsLatest, RankRefusedWhileUp}
use Rattle.election.specs.Commands.{Command, SetUp, Start, Crash, Link, Run, Lose, Report, Rank, none_started, perform}
use Rattle.election.specs.History.{commands, rank_of, reached}
use Rattle.election.specs.Schedule.{schedule}
use Rattle.election.specs.System.{no_station, station, fresh, initial}
use Rattle.election.specs.Tick.{tick, ticks}
use Rattle.election.specs.declared.System.{System}
use Rattle.election.proofs.Accepting.{Accepts, accepts}
use Rattle.election.proofs.Counts.{from-schedule}
use Rattle.election.proofs.Followed.{Allowed, accepted-schedule}
use Rattle.election.proofs.Places.{In}
use Rattle.election.proofs.Soundness.{Sound, sound-of}

-- neither a tick nor a run changes a rank
pub tick-ranks : (s : System) → (tick s).ranks ≡ s.ranks
unfolding tick
tick-ranks s = refl

pub ticks-ranks : (t : ℕ) (s : System) → (ticks t s).ranks ≡ s.ranks
unfolding ticks
ticks-ranks zero s = refl
ticks-ranks (suc t) s = ticks-ranks t (tick s) ∙ tick-ranks s

fresh-ranks : fresh.ranks ≡ replicate 8 0
unfolding fresh
fresh-ranks = refl

initial-ranks : (clock : Bool) (n period : ℕ) → (initial clock n period).ranks ≡ replicate 8 0
unfolding initial
initial-ranks clock n period = refl

zero_rank : (p : ℕ) → entry (replicate 8 0) p ≡ 0
zero_rank p = zeros-at (p - 1)

-- an accepted command leaves eight ranks
eight_after : (c : Command) (s : System) → length s.ranks ≡ 8 → length (perform c s).ranks ≡ 8
unfolding perform
eight_after (SetUp clock n period) s h = ap length (initial-ranks clock n period) ∙ length-replicate {A = ℕ} 8 0
eight_after (Start p) s h = h
eight_after (Crash p) s h = h
eight_after (Link p q d) s h = h
eight_after (Run t) s h = ap length (ticks-ranks t s) ∙ h
eight_after (Lose p q) s h = h
eight_after Report s h = h
eight_after (Rank p r) s h = length-set s.ranks (p - 1) r ∙ h

-- and makes of the rank of station x what the history says
rank-after : (c : Command) (s : System) → length s.ranks ≡ 8 → Accepts c s → (x : ℕ) → In 8 x → entry (perform c s).ranks x ≡ rank_of (entry s.ranks x) x (c ∷ [])
unfolding perform rank_of
rank-after (SetUp clock n period) s h a x i = ap (λ l. entry l x) (initial-ranks clock n period) ∙ zero_rank x
rank-after (Start p) s h a x i = refl
rank-after (Crash p) s h a x i = refl
rank-after (Link p q d) s h a x i = refl
rank-after (Run t) s h a x i = ap (λ l. entry l x) (ticks-ranks t s)
rank-after (Lose p q) s h a x i = refl
rank-after Report s h a x i = refl
rank-after (Rank p r) s h (ready, flash, ip, few, none) x i = go (ℕ_discrete p x)
  where
    go : Dec (p ≡ x) → entry (set s.ranks (p - 1) r) x ≡ cond (eqb p x) r (entry s.ranks x)
    go (yes e) = rw (eq-eqb p x e, e) (get_or-set_same s.ranks (x - 1) r 0 (omega (arith, i.low, i.high)))
    go (no ne) = rw (ne_eqb p x ne) (get_or-set_other s.ranks (p - 1) (x - 1) r 0 (λ e. ne (let f : p ≡ x = omega (arith, ip.low, i.low) in f)))

rank-more : (r x : ℕ) (c : Command) (cs : List Command) → rank_of (rank_of r x (c ∷ [])) x cs ≡ rank_of r x (c ∷ cs)
unfolding rank_of
rank-more r x (SetUp clock n period) cs = refl
rank-more r x (Start p) cs = refl
rank-more r x (Crash p) cs = refl
rank-more r x (Link p q d) cs = refl
rank-more r x (Run t) cs = refl
rank-more r x (Lose p q) cs = refl
rank-more r x Report cs = refl
rank-more r x (Rank p y) cs = refl

-- along a list of commands
rank-along : (cs : List Command) (s : System) → length s.ranks ≡ 8 → Allowed cs s → (x : ℕ) → In 8 x → entry (reached cs s).ranks x ≡ rank_of (entry s.ranks x) x cs
unfolding reached rank_of
rank-along [] s h a x i = refl
rank-along (c ∷ cs) s h (t, a) x i =
    rank-along cs (perform c s) (eight_after c s h) a x i
    ∙ ap (λ r. rank_of r x cs) (rank-after c s h (accepts c s t) x i)
    ∙ rank-more (entry s.ranks x) x c cs

-- and so where an accepted schedule ends
pub rank-is_latest : RankIsLatest
rank-is_latest bytes e p low high =
    let f = accepted-schedule bytes e in
    let small : (schedule bytes).system.n ≤ 8 = (sound-of (schedule bytes).system f.is-sound ((from-schedule bytes e).is-ready p (record { low = low; high = high }))).n-high in
    ap (λ (s : System). entry s.ranks p) f.system
    ∙ rank-along (commands bytes) fresh (ap length fresh-ranks ∙ length-replicate {A = ℕ} 8 0) f.allowed p (record { low = low; high = omega arith })
    ∙ ap (λ r. rank_of r p (commands bytes)) (ap (λ l. entry l p) fresh-ranks ∙ zero_rank p)

-- where no head was ever started none is up, so that no rank is accepted while one is
pub nobody_up : (s : System) → Sound s → s.clock ≡ false → none_started s.stations ≡ true → (p : ℕ) → In s.n p → (station s p).up ≡ true → ⊥
nobody_up s f flash none p ip u =
    let zero : (station s p).incarnation ≡ 0 = eqb-true _ 0 (all_at 8 (p - 1) (λ k. eqb (get_or s.stations k no_station).incarnation 0) none (omega (arith, ip.low, ip.high, f.n-high))) in
    omega (arith, (fit_of p s.n s.period s.tick (station s p) (rw flash at (f.fits p ip)) u).0.living.count)

pub rank-refused_while_up : RankRefusedWhileUp
rank-refused_while_up s e ready q low high u p r t =
    let (is, flash, ip, few, none) = accepts (Rank p r) s t in
    nobody_up s (sound-of s e ready) flash none q (record { low = low; high = high }) u
