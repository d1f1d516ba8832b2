-- What is under way: what is due and what stays in a tick, what is sent, and facts of each message.
use mathlib.Core.Path.{◌≡◌, refl, ap}
use mathlib.Core.Logic.{◌≢◌}
use mathlib.Core.Bool.{true, not, ◌&&◌}
use mathlib.Core.List.{List, [], ◌∷◌}
use Prim.Native.Nat.{ℕ, ◌+◌, ◌<◌}
use native.Mathlib.Decide.{ℕ_discrete}
use lib.Dec.{eqb}
use borrow.Author.Tests.{eqb-false, ne_eqb, not-true}
use Rattle.lists.specs.Every.{All}
use Rattle.lists.proofs.Bools.{both, cond_elim}
use Rattle.lists.proofs.Every.{all_map}
use Rattle.election.specs.System.{station, delay, underway}
use Rattle.election.specs.Tick.{next, announced, settled, sending, later, sent}
use Rattle.election.specs.declared.Message.{Message}
use Rattle.election.specs.declared.System.{System}
use Rattle.election.proofs.Links.{Posted}
use Rattle.election.proofs.Places.{In}
use Rattle.election.proofs.Soundness.{Sound, underway-spaced, underway-self}
use Rattle.election.proofs.Spaced.{spaced-all}

-- what is under way is due after the tick
pub underway-due : (s : System) → Sound s → (q p : ℕ) → In s.n q → In s.n p → q ≢ p → All (λ (m : Message). s.tick < m.due) (underway s q p)
underway-due s h q p iq ip ne =
    all_map (Posted s.clock s.n s.period s.tick (station s q)) _ (λ m f. f.due_after) (underway s q p) (spaced-all (underway-spaced s h q p iq ip ne))

-- facts about what is due now, sender by sender
pub inbox_all : (s : System) → Sound s → (P : ℕ → Message → Type 0) (p : ℕ) → In s.n p
    → ((q : ℕ) → In s.n q → q ≢ p → All (P q) (underway s q p)) → (q : ℕ) → In s.n q → All (λ m. (q ≢ p) × P q m) (underway s q p)
inbox_all s h P p ip f q iq = go (ℕ_discrete q p)
  where
    go : Dec (q ≡ p) → All (λ m. (q ≢ p) × P q m) (underway s q p)
    go (yes e) = rw (e, underway-self s h p ip) tt
    go (no ne) = all_map (P q) _ (λ m x. (ne, x)) (underway s q p) (f q iq ne)

-- what a filter keeps
pub later-all : (P Q : Message → Type 0) (now : ℕ) (ms : List Message) → ((m : Message) → m.due ≢ now → P m → Q m) → All P ms → All Q (later now ms)
unfolding later
later-all P Q now [] f h = tt
later-all P Q now (m ∷ ms) f h =
    let rest : All Q (later now ms) = later-all P Q now ms f h.1 in
    cond_elim (All Q) (eqb m.due now) (λ e. rest) (λ e. (f m (eqb-false _ _ e) h.0, rest))

-- what is sent, if anything is
pub sent-all : (P : Message → Type 0) (s : System) (p q : ℕ)
    → (sending s p ≡ true → delay s p q ≢ 0 → P (announced (next s) (next s + delay s p q) (settled s p))) → All P (sent s p q)
unfolding sent
sent-all P s p q f =
    cond_elim (All P) (sending s p && not (eqb (delay s p q) 0))
    (λ e. let (a, b) = both (sending s p) (not (eqb (delay s p q) 0)) e in (f a (eqb-false _ _ (not-true _ b)), tt)) (λ e. tt)

-- where nothing is due, all stays
pub later-none : (now : ℕ) (ms : List Message) → All (λ (m : Message). m.due ≢ now) ms → later now ms ≡ ms
unfolding later
later-none now [] h = refl
later-none now (m ∷ ms) h = rw (ne_eqb m.due now h.0) (ap (λ (l : List Message). m ∷ l) (later-none now ms h.1))
