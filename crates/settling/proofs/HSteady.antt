-- H. Who sends in a tick that is not divided; and the claim of steady heads, from the schedule's bytes and a list of byte strings.
use mathlib.Core.Path.{◌≡◌, refl, sym, ap, ◌∙◌}
use mathlib.Core.Bool.{Bool, true, false, cond}
use mathlib.Core.List.{List, [], ◌∷◌}
use Prim.Native.Nat.{ℕ, zero, suc, ◌+◌, ◌-◌, ◌*◌, ◌/◌, ◌≤◌}
use native.Mathlib.Omega.{arith}
use lib.Dec.{eqb}
use lib.ListN.{length, take}
use borrow.Author.Tests.{not-false, eqb-true}
use Rattle.lists.specs.Every.{All}
use Rattle.lists.proofs.Test.{all_at}
use Rattle.station.specs.declared.Station.{Station}
use Rattle.election.specs.Commands.{Command}
use Rattle.election.specs.Schedule.{schedule}
use Rattle.settling.specs.Settling.{moments, befores, answered, given}
use Rattle.settling.specs.Steady.{with_entry, AllUp, AllSteady, OthersMoreNow, divided_among, divided_ticks_among, SteadyStretch, heads_among, bound_among, SteadySettling, steady_heads, AllSteadySettling}
use Rattle.election.specs.History.{after, commands}
use Rattle.election.specs.System.{station, fresh}
use Rattle.election.specs.Tick.{sending, tick}
use Rattle.election.specs.declared.System.{System}
use Rattle.settling.proofs.A0Flash.{flash-ticked, sending-self}
use Rattle.election.proofs.Followed.{rules_system, Followed, accepted-schedule}
use Rattle.settling.proofs.E2Follower.{slot_leader}
use Rattle.election.proofs.Counts.{FromFresh}
use Rattle.election.proofs.Places.{In, tick-n, tick-clock}
use Rattle.election.proofs.Ranks.{rank-is_latest}
use Rattle.settling.proofs.FPotential.{tri, tri_double}
use Rattle.settling.proofs.A2Reached.{Reached}
use Rattle.settling.proofs.A4Moments.{GivenBy, given-arrived, given-told, given-after, steady-ones, at_once, Flash, stretch-ticks}
use Rattle.settling.proofs.G3Begins.{still_steady, FirstHere, from-here, begin-inv}
use Rattle.settling.proofs.G5Walk.{walk}

-- After every prefix of a stretch Command answers what the rules give.
pub answers : (k : ℕ) (cs : List Command) (es : List (List ℕ)) (s : System) → GivenBy cs s → answered (take k es) s ≡ given (take k es) s
unfolding answered given
answers zero cs es s h = refl
answers (suc k) cs [] s h = refl
answers (suc k) cs (e ∷ es) s h =
    ap (answered (take k es)) (rules_system s e (given-arrived cs s h).is-sound) ∙ answers k (with_entry cs s e) es (after s e) (given-after cs s h e)

-- At the end of a tick in which every head of S trusts L, whoever of them sent in it is L.
abbrev Silent : (ℕ → Bool) → ℕ → System → Type 0
Silent S L x = divided_among S L (tick x) ≡ false → (p : ℕ) → 1 ≤ p → p ≤ x.n → S p ≡ true → sending x p ≡ true → p ≡ L

silent-tick : (S : ℕ → Bool) (L : ℕ) (x : System) → x.n ≤ 8 → x.clock ≡ false → Silent S L x
silent-tick S L x small flash e p low high s t =
    let ip : In x.n p = record { low = low; high = high } in
    let back : p - 1 + 1 ≡ p = omega arith in
    let at : cond (S (p - 1 + 1)) (eqb (station (tick x) (p - 1 + 1)).leader L) true ≡ true = all_at (tick x).n (p - 1) (λ k. cond (S (k + 1)) (eqb (station (tick x) (k + 1)).leader L) true) (not-false _ e) (omega (arith, tick-n x)) in
    let f : eqb (station (tick x) p).leader L ≡ true = rw (back, s) at at in
    let leads : (station (tick x) p).leader ≡ p = ap (λ (y : Station). y.leader) (flash-ticked x flash small p ip) ∙ slot_leader x.period (x.tick + 1) _ ∙ sending-self x flash p t in
    sym leads ∙ eqb-true _ _ f

silent-run : (S : ℕ → Bool) (L t : ℕ) (x : System) → x.n ≤ 8 → x.clock ≡ false → All (Silent S L) (moments t x)
unfolding moments
silent-run S L zero x small flash = tt
silent-run S L (suc t) x small flash = (silent-tick S L x small flash, silent-run S L t (tick x) (rw (tick-n x) small) (tick-clock x ∙ flash))

silent : (S : ℕ → Bool) (L : ℕ) (cs : List Command) (es : List (List ℕ)) (x : System) → GivenBy cs x → Flash x → AllSteady S cs es x → All (Silent S L) (befores es x)
silent S L cs es x =
    stretch-ticks (Silent S L) (AllUp S x.n) (λ ds y h f up t. silent-run S L t y ((given-arrived ds y h).reached f.0 f.1).sound.n-high f.1) cs es x

-- (k - 1)(d - 1)(d - 2) / 2
half_of : (j m : ℕ) → j * (m + 1) * m / 2 ≡ j * tri m
half_of j m =
    let e : j * (m + 1) * m ≡ 2 * (j * tri m) = omega (arith, ap (λ x. j * x) (tri_double m)) in
    omega arith

half_small : (j : ℕ) → j * 0 * 0 / 2 ≡ j * tri 0
unfolding tri
half_small j = omega arith

half : (k d : ℕ) → (k - 1) * (d - 1) * (d - 2) / 2 ≡ (k - 1) * tri (d - 2)
half k zero = half_small (k - 1)
half k (suc zero) = half_small (k - 1)
half k (suc (suc m)) =
    let a : suc (suc m) - 1 ≡ m + 1 = omega arith in
    let b : suc (suc m) - 2 ≡ m = omega arith in
    rw (a, b) (half_of (k - 1) m)

-- From a reached system.
few : (S : ℕ → Bool) (d L : ℕ) (cs : List Command) (es : List (List ℕ)) (s : System) (h : Reached s) → FirstHere S s L → GivenBy cs s → SteadyStretch S d L cs es s → divided_ticks_among S L (befores es s) ≤ bound_among S d s
unfolding heads_among
few S d L cs es s h first is-given q =
    rw half
    (walk (from-here s h S d L first) _ cs es s is-given q.steady q.others q.messages.none-lost q.messages.none-cut q.messages.within
    (record { inv = begin-inv s h S d L first q.messages.arriving; early = λ e. omega arith; late = λ e. omega (arith, h.sound.period-low) }))

pub steady-settling : SteadySettling
steady-settling bytes stretch S d L ok flash first quiet =
    let f : Followed (length bytes) fresh bytes (schedule bytes) = accepted-schedule bytes ok in
    let s : System = (schedule bytes).system in
    let cs : List Command = commands bytes in
    let is-given : GivenBy cs s = record { allowed = f.allowed; system = f.system } in
    let g : FromFresh cs s = given-told cs s is-given in
    let i : In s.n L = record { low = first.low; high = first.high } in
    let ready : s.ready ≡ true = g.is-ready L i in
    let h : Reached s = (given-arrived cs s is-given).reached ready flash in
    let here : FirstHere S s L =
    record {
      inside = i;
      in_set = first.in_set;
      least = λ p ip c ne.
          rw (g.counted flash L i, g.counted flash p ip, rank-is_latest bytes ok L i.low i.high, rank-is_latest bytes ok p ip.low ip.high) (first.least p ip.low ip.high c ne);
      still = still_steady S s.n L cs s i refl flash g (at_once (AllUp S s.n) cs stretch s quiet.steady) (at_once (OthersMoreNow S s.n L) cs stretch s quiet.others);
    } in
    (record { few = few S d L cs stretch s h here is-given quiet; silent = silent S L cs stretch s is-given (ready, flash) quiet.steady; answers = λ k. answers k cs stretch s is-given }, f.system)

pub all_steady_settling : AllSteadySettling
all_steady_settling bytes stretch d L ok flash first others messages =
    steady-settling bytes stretch (steady_heads bytes stretch) d L ok flash first
    (record { steady = (steady-ones (steady_heads bytes stretch) (commands bytes) stretch (schedule bytes).system).1 (λ p low high s. s); others = others; messages = messages })
