-- Start counts: each is the number of accepted starts, and none falls; a head is up if the latest of its starts and crashes is a start.
use mathlib.Core.Path.{◌≡◌, refl, sym, ap, subst, ◌∙◌}
use mathlib.Core.Logic.{◌≢◌}
use mathlib.Core.Bool.{Bool, true, false, cond, true≢false}
use mathlib.Core.List.{List, [], ◌∷◌}
use Prim.Native.Nat.{ℕ, zero, suc, ◌+◌, ◌≤◌}
use native.Mathlib.Decide.{ℕ_discrete}
use native.Mathlib.Numerals.{add-one}
use native.Mathlib.Nat.{le_refl, add-zero, zero-add}
use native.Mathlib.Omega.{arith}
use lib.Dec.{eqb}
use borrow.Author.Tests.{eqb-true, ne_eqb, eq-eqb}
use Rattle.lists.specs.First.{first_failed}
use Rattle.lists.proofs.Bools.{cond_elim}
use Rattle.station.specs.Rules.{crashed}
use Rattle.station.specs.declared.Station.{Station}
use Rattle.station.proofs.Fields.{crashed-count, crashed-up}
use Rattle.election.specs.Claims.{CountsStarts, UpIsLatest, CountsNeverFall}
use Rattle.election.specs.Commands.{Command, SetUp, Start, Crash, Link, Run, Lose, Report, Rank, decode, tests, refusal, perform, command}
use Rattle.election.specs.Heads.{starting}
use Rattle.election.specs.System.{with_station, station, fresh, initial}
use Rattle.election.specs.History.{commands, starts, is_up_after, reached}
use Rattle.election.specs.Schedule.{schedule}
use Rattle.election.specs.Sound.{sound}
use Rattle.election.specs.Tick.{tick, ticks}
use Rattle.election.specs.declared.System.{System}
use Rattle.election.proofs.Accepting.{Accepts, accepts}
use Rattle.election.proofs.Changes.{changed_same, changed_other}
use Rattle.election.proofs.Followed.{Allowed, accepted-schedule}
use Rattle.election.proofs.Heads.{starting-up, starting-count}
use Rattle.election.proofs.InitialSound.{fresh-sound, initial-ready, initial-n, initial-station}
use Rattle.election.proofs.KeepsSound.{perform-keeps, refusal-tests}
use Rattle.election.proofs.Places.{In, tick-n, tick-clock}
use Rattle.election.proofs.Soundness.{Sound, sound-of}
use Rattle.election.proofs.Steps.{tick-up, tick-count}
use Rattle.election.proofs.TickSound.{ticks-ready}

-- a head's start count
abbrev pub counts : System → ℕ → ℕ
counts s x = (station s x).incarnation

-- the count, which a start of a clock head leaves as it is, and whether it is up, as a command leaves them
abbrev count_after : Bool → Command → ℕ → ℕ → ℕ
count_after heads (SetUp clock n period) x k = k
count_after heads (Start p) x k = cond (eqb p x) (cond heads k (suc k)) k
count_after heads (Crash p) x k = k
count_after heads (Link p q d) x k = k
count_after heads (Run t) x k = k
count_after heads (Lose p q) x k = k
count_after heads Report x k = k
count_after heads (Rank p r) x k = k

abbrev up_after : Command → ℕ → Bool → Bool
up_after (SetUp clock n period) x u = u
up_after (Start p) x u = cond (eqb p x) true u
up_after (Crash p) x u = cond (eqb p x) false u
up_after (Link p q d) x u = u
up_after (Run t) x u = u
up_after (Lose p q) x u = u
up_after Report x u = u
up_after (Rank p r) x u = u

starts_more : (x : ℕ) (c : Command) (cs : List Command) (k : ℕ) → count_after false c x k + starts x cs ≡ k + starts x (c ∷ cs)
unfolding starts
starts_more x (SetUp clock n period) cs k = refl
starts_more x (Start p) cs k = go (eqb p x)
  where
    go : (b : Bool) → cond b (suc k) k + starts x cs ≡ k + cond b (suc (starts x cs)) (starts x cs)
    go true = omega arith
    go false = refl
starts_more x (Crash p) cs k = refl
starts_more x (Link p q d) cs k = refl
starts_more x (Run t) cs k = refl
starts_more x (Lose p q) cs k = refl
starts_more x Report cs k = refl
starts_more x (Rank p r) cs k = refl

up_more : (x : ℕ) (c : Command) (cs : List Command) (u : Bool) → is_up_after (up_after c x u) x cs ≡ is_up_after u x (c ∷ cs)
unfolding is_up_after
up_more x (SetUp clock n period) cs u = refl
up_more x (Start p) cs u = refl
up_more x (Crash p) cs u = refl
up_more x (Link p q d) cs u = refl
up_more x (Run t) cs u = refl
up_more x (Lose p q) cs u = refl
up_more x Report cs u = refl
up_more x (Rank p r) cs u = refl

-- what one command does to station x, and to the number of stations
pub record Step (c : Command) (x : ℕ) (s r : System) : Type 0 where
  pub count : counts r x ≡ count_after s.clock c x (counts s x)
  pub up : (station r x).up ≡ up_after c x (station s x).up

ticks-n : (t : ℕ) (s : System) → (ticks t s).n ≡ s.n
unfolding ticks
ticks-n zero s = refl
ticks-n (suc t) s = ticks-n t (tick s) ∙ tick-n s

ticks-step : (t : ℕ) (s : System) → s.n ≤ 8 → (x : ℕ) → In s.n x → Step (Run t) x s (ticks t s)
unfolding ticks
ticks-step zero s small x ix = record { count = refl; up = refl }
ticks-step (suc t) s small x ix =
    let r : Step (Run t) x (tick s) (ticks t (tick s)) = ticks-step t (tick s) (rw (tick-n s) small) x (rw (tick-n s) ix) in
    record { count = r.count ∙ tick-count s small x ix; up = r.up ∙ tick-up s small x ix }

changed_step : (c : Command) (s : System) → Sound s → (p : ℕ) → In s.n p → (y : Station) (x : ℕ) → In s.n x
    → (x ≡ p → (y.incarnation ≡ count_after s.clock c x (counts s x)) × (y.up ≡ up_after c x (station s x).up))
    → (x ≢ p → (counts s x ≡ count_after s.clock c x (counts s x)) × ((station s x).up ≡ up_after c x (station s x).up))
    → Step c x s (with_station p y s)
changed_step c s h p ip y x ix a b = go (ℕ_discrete x p)
  where
    go : Dec (x ≡ p) → Step c x s (with_station p y s)
    go (yes e) =
        let at : station (with_station p y s) x ≡ y = ap (station (with_station p y s)) e ∙ changed_same s h p ip y in
        record { count = ap (λ (z : Station). z.incarnation) at ∙ (a e).0; up = ap (λ (z : Station). z.up) at ∙ (a e).1 }
    go (no ne) =
        let at : station (with_station p y s) x ≡ station s x = changed_other s h p ip y x ix.low ne in
        record { count = ap (λ (z : Station). z.incarnation) at ∙ (b ne).0; up = ap (λ (z : Station). z.up) at ∙ (b ne).1 }

pub one-step : (c : Command) (s : System) → s.ready ≡ true → Sound s → Accepts c s → (x : ℕ) → In s.n x → Step c x s (perform c s)
unfolding perform
one-step (SetUp clock n period) s r h (nr, a1, a2, a3, a4) x ix = absurd (true≢false (sym r ∙ nr))
one-step (Start p) s r h (r', ip, d, few) x ix =
    changed_step (Start p) s h p ip (starting s p (station s p)) x ix
    (λ e. (
      starting-count p s.n s.period s.tick (station s p) s.clock ∙ rw (e, eq-eqb p p refl) (ap (λ z. cond s.clock (station s p).incarnation z) (add-one (station s p).incarnation)),
      starting-up p s.n s.period s.tick (station s p) s.clock ∙ rw (e, eq-eqb p p refl),
    ))
    (λ ne. (rw (ne_eqb p x (λ i. ne (sym i))), rw (ne_eqb p x (λ i. ne (sym i)))))
one-step (Crash p) s r h (r', ip, u) x ix =
    changed_step (Crash p) s h p ip (crashed (station s p)) x ix
    (λ e. (crashed-count (station s p) ∙ rw e, crashed-up (station s p) ∙ rw (e, eq-eqb p p refl)))
    (λ ne. (refl, rw (ne_eqb p x (λ i. ne (sym i)))))
one-step (Link p q d) s r h a x ix = record { count = refl; up = refl }
one-step (Run t) s r h a x ix = ticks-step t s h.n-high x ix
one-step (Lose p q) s r h a x ix = record { count = refl; up = refl }
one-step Report s r h a x ix = record { count = refl; up = refl }
one-step (Rank p y) s r h a x ix = record { count = refl; up = refl }

-- a system that is set up stays so, with its stations
pub ready_after : (c : Command) (s : System) → s.ready ≡ true → Accepts c s → (perform c s).ready ≡ true
unfolding perform
ready_after (SetUp clock n period) s r (nr, a1, a2, a3, a4) = absurd (true≢false (sym r ∙ nr))
ready_after (Start p) s r a = r
ready_after (Crash p) s r a = r
ready_after (Link p q d) s r a = r
ready_after (Run t) s r a = ticks-ready t s ∙ r
ready_after (Lose p q) s r a = r
ready_after Report s r a = r
ready_after (Rank p x) s r a = r

pub n-after : (c : Command) (s : System) → s.ready ≡ true → Accepts c s → (perform c s).n ≡ s.n
unfolding perform
n-after (SetUp clock n period) s r (nr, a1, a2, a3, a4) = absurd (true≢false (sym r ∙ nr))
n-after (Start p) s r a = refl
n-after (Crash p) s r a = refl
n-after (Link p q d) s r a = refl
n-after (Run t) s r a = ticks-n t s
n-after (Lose p q) s r a = refl
n-after Report s r a = refl
n-after (Rank p x) s r a = refl

pub ticks-clock : (t : ℕ) (s : System) → (ticks t s).clock ≡ s.clock
unfolding ticks
ticks-clock zero s = refl
ticks-clock (suc t) s = ticks-clock t (tick s) ∙ tick-clock s

-- and its kind of head
pub clock_after : (c : Command) (s : System) → s.ready ≡ true → Accepts c s → (perform c s).clock ≡ s.clock
unfolding perform
clock_after (SetUp clock n period) s r (nr, a1, a2, a3, a4) = absurd (true≢false (sym r ∙ nr))
clock_after (Start p) s r a = refl
clock_after (Crash p) s r a = refl
clock_after (Link p q d) s r a = refl
clock_after (Run t) s r a = ticks-clock t s
clock_after (Lose p q) s r a = refl
clock_after Report s r a = refl
clock_after (Rank p x) s r a = refl

-- along a list of commands
pub record Tied (cs : List Command) (s r : System) : Type 0 where
  pub same-n : r.n ≡ s.n
  pub same-clock : r.clock ≡ s.clock
  pub counted : s.clock ≡ false → (x : ℕ) → In s.n x → counts r x ≡ counts s x + starts x cs
  pub latest : (x : ℕ) → In s.n x → (station r x).up ≡ is_up_after (station s x).up x cs

pub tied : (cs : List Command) (s : System) → s.ready ≡ true → sound s ≡ true → Allowed cs s → Tied cs s (reached cs s)
unfolding reached starts is_up_after
tied [] s r h a = record { same-n = refl; same-clock = refl; counted = λ flash x ix. sym (add-zero (counts s x)); latest = λ x ix. refl }
tied (c ∷ cs) s r h (t, a) =
    let k : Accepts c s = accepts c s t in
    let e : (perform c s).n ≡ s.n = n-after c s r k in
    let rest : Tied cs (perform c s) (reached cs (perform c s)) = tied cs (perform c s) (ready_after c s r k) (perform-keeps c s h t) a in
    record {
      same-n = rest.same-n ∙ e;
      same-clock = rest.same-clock ∙ clock_after c s r k;
      counted = λ flash x ix.
          let one : Step c x s (perform c s) = one-step c s r (sound-of s h r) k x ix in
          rest.counted (clock_after c s r k ∙ flash) x (rw e ix) ∙ ap (λ (z : ℕ). z + starts x cs) (one.count ∙ ap (λ b. count_after b c x (counts s x)) flash) ∙ starts_more x c cs (counts s x);
      latest = λ x ix.
          let one : Step c x s (perform c s) = one-step c s r (sound-of s h r) k x ix in
          rest.latest x (rw e ix) ∙ ap (λ z. is_up_after z x cs) one.up ∙ up_more x c cs (station s x).up;
    }

-- from the fresh system: counts are starts, and who is up is told by the latest start or crash
pub record FromFresh (cs : List Command) (r : System) : Type 0 where
  pub counted : r.clock ≡ false → (x : ℕ) → In r.n x → counts r x ≡ starts x cs
  pub latest : (x : ℕ) → In r.n x → (station r x).up ≡ is_up_after false x cs
  pub is-ready : (x : ℕ) → In r.n x → r.ready ≡ true

from-initial : (clock : Bool) (n period : ℕ) (cs : List Command) → n ≤ 8 → sound (initial clock n period) ≡ true → Allowed cs (initial clock n period)
    → (reached cs (initial clock n period)).ready ≡ true → FromFresh (SetUp clock n period ∷ cs) (reached cs (initial clock n period))
unfolding starts is_up_after
from-initial clock n period cs small h a ready =
    let t : Tied cs (initial clock n period) (reached cs (initial clock n period)) = tied cs (initial clock n period) (initial-ready clock n period) h a in
    let inside : (x : ℕ) → In (reached cs (initial clock n period)).n x → In (initial clock n period).n x = λ x ix. rw (← t.same-n) ix in
    let inside' : (x : ℕ) → In (reached cs (initial clock n period)).n x → In n x = λ x ix. subst (λ m. In m x) (t.same-n ∙ initial-n clock n period) ix in
    record {
      counted = λ flash x ix. t.counted (sym t.same-clock ∙ flash) x (inside x ix) ∙ ap (λ (y : Station). y.incarnation + starts x cs) (initial-station clock n period small x (inside' x ix)) ∙ zero-add (starts x cs);
      latest = λ x ix. t.latest x (inside x ix) ∙ ap (λ (y : Station). is_up_after y.up x cs) (initial-station clock n period small x (inside' x ix));
      is-ready = λ x ix. ready;
    }

reached-ready : (cs : List Command) (s : System) → s.ready ≡ true → Allowed cs s → (reached cs s).ready ≡ true
unfolding reached
reached-ready [] s r a = r
reached-ready (c ∷ cs) s r (t, a) = reached-ready cs (perform c s) (ready_after c s r (accepts c s t)) a

-- the fresh system has no station and is not set up
nobody : (x : ℕ) → In fresh.n x → ⊥
unfolding fresh
nobody x ix = omega (arith, ix.low, ix.high)

unready : fresh.ready ≡ true → ⊥
unfolding fresh
unready e = true≢false (sym e)

-- so its first command is a set up
first-command : (c : Command) (cs : List Command) → first_failed (tests fresh c) ≡ 0 → Accepts c fresh → Allowed cs (perform c fresh) → FromFresh (c ∷ cs) (reached cs (perform c fresh))
unfolding perform
first-command (SetUp clock n period) cs t (r, a, b, c, d) ok =
    from-initial clock n period cs b (perform-keeps (SetUp clock n period) fresh fresh-sound t) ok (reached-ready cs (initial clock n period) (initial-ready clock n period) ok)
first-command (Start p) cs t (r, i, d, k) ok = absurd (unready r)
first-command (Crash p) cs t (r, i, d) ok = absurd (unready r)
first-command (Link p q d) cs t (r, i, j, k, l) ok = absurd (unready r)
first-command (Run n) cs t (r, i, d) ok = absurd (unready r)
first-command (Lose p q) cs t (r, i, j, k) ok = absurd (unready r)
first-command Report cs t r ok = absurd (unready r)
first-command (Rank p x) cs t (r, l, i, d, k) ok = absurd (unready r)

pub from-fresh : (cs : List Command) → Allowed cs fresh → FromFresh cs (reached cs fresh)
unfolding reached
from-fresh [] a = record { counted = λ flash x ix. absurd (nobody x ix); latest = λ x ix. absurd (nobody x ix); is-ready = λ x ix. absurd (nobody x ix) }
from-fresh (c ∷ cs) (t, a) = first-command c cs t (accepts c fresh t) a

-- and so where an accepted schedule ends
pub from-schedule : (bytes : List ℕ) → (schedule bytes).refusal ≡ 0 → FromFresh (commands bytes) (schedule bytes).system
from-schedule bytes e =
    let f = accepted-schedule bytes e in
    subst (FromFresh (commands bytes)) (sym f.system) (from-fresh (commands bytes) f.allowed)

pub counts-starts : CountsStarts
counts-starts bytes e flash p low high = (from-schedule bytes e).counted flash p (record { low = low; high = high })

pub up-is_latest : UpIsLatest
up-is_latest bytes e p low high = (from-schedule bytes e).latest p (record { low = low; high = high })

-- no command lowers a count
count-rises : (heads : Bool) (c : Command) (x k : ℕ) → k ≤ count_after heads c x k
count-rises heads (SetUp clock n period) x k = le_refl k
count-rises heads (Start p) x k = cond_elim (λ z. k ≤ z) (eqb p x) (λ e. cond_elim (λ z. k ≤ z) heads (λ i. le_refl k) (λ i. omega arith)) (λ e. le_refl k)
count-rises heads (Crash p) x k = le_refl k
count-rises heads (Link p q d) x k = le_refl k
count-rises heads (Run t) x k = le_refl k
count-rises heads (Lose p q) x k = le_refl k
count-rises heads Report x k = le_refl k
count-rises heads (Rank p r) x k = le_refl k

pub counts-never_fall : CountsNeverFall
unfolding command
counts-never_fall s bytes e r p low high =
    cond_elim (λ (x : System). counts s p ≤ counts x p) (eqb (refusal s bytes) 0)
    (λ t.
    let k : Accepts (decode bytes) s = accepts (decode bytes) s (refusal-tests s bytes (eqb-true (refusal s bytes) 0 t)) in
    rw (one-step (decode bytes) s r (sound-of s e r) k p (record { low = low; high = high })).count (count-rises s.clock (decode bytes) p (counts s p)))
    (λ t. le_refl (counts s p))
