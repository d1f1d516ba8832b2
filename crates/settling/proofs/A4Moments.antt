-- A. The accepted commands before a stretch and in it, at each of its moments, and what they tell of the system then.
use mathlib.Core.Path.{◌≡◌, refl, sym, ap, subst, ◌∙◌}
use mathlib.Core.Bool.{Bool, true, false, cond}
use mathlib.Core.List.{List, [], ◌∷◌, ◌++◌, append-nil}
use Prim.Native.Nat.{ℕ, ◌≤◌}
use borrow.Author.Tests.{eqb-true}
use Rattle.lists.specs.Every.{All}
use Rattle.lists.specs.First.{first_failed}
use Rattle.lists.proofs.Bools.{both, cond_elim}
use Rattle.lists.proofs.Every.{all_append}
use Rattle.election.specs.Commands.{Command, SetUp, Start, Crash, Link, Run, Lose, Report, Rank, decode, tests, perform}
use Rattle.election.specs.History.{accepted, after, is_up_after, reached}
use Rattle.election.specs.System.{fresh}
use Rattle.election.specs.declared.System.{System}
use Rattle.election.proofs.Accepting.{Accepts, accepts, ruling-tests}
use Rattle.election.proofs.Counts.{ready_after, n-after, clock_after, FromFresh, from-fresh}
use Rattle.election.proofs.Followed.{Allowed, after-yes, after-no}
use Rattle.settling.specs.Settling.{moments, ticks_of, befores}
use Rattle.settling.specs.Steady.{with_entry, Throughout, is_steady, AllUp, SteadyOnes}
use Rattle.settling.proofs.A3Reaching.{Arrived, fresh-arrived, reached-arrived}

-- one accepted command more
allowed_more : (cs : List Command) (c : Command) (s : System) → Allowed cs s → first_failed (tests (reached cs s) c) ≡ 0 → Allowed (cs ++ (c ∷ [])) s
unfolding reached
allowed_more [] c s a t = (t, tt)
allowed_more (b ∷ cs) c s a t = (a.0, allowed_more cs c (perform b s) a.1 t)

reached-more : (cs : List Command) (c : Command) (s : System) → reached (cs ++ (c ∷ [])) s ≡ perform c (reached cs s)
unfolding reached
reached-more [] c s = refl
reached-more (b ∷ cs) c s = reached-more cs c (perform b s)

-- the system is the one that the rules give for the commands cs, each accepted
pub record GivenBy (cs : List Command) (x : System) : Type 0 where
  pub allowed : Allowed cs fresh
  pub system : x ≡ reached cs fresh

module _ (cs : List Command) (x : System) (h : GivenBy cs x) where
  pub given-arrived : Arrived x
  given-arrived = subst Arrived (sym h.system) (reached-arrived cs fresh h.allowed fresh-arrived)

  pub given-told : FromFresh cs x
  given-told = subst (FromFresh cs) (sym h.system) (from-fresh cs h.allowed)

  -- after one entry of the stretch
  pub given-after : (e : List ℕ) → GivenBy (with_entry cs x e) (after x e)
  given-after e = go (accepted x e) refl
    where
      go : (b : Bool) → accepted x e ≡ b → GivenBy (cs ++ cond b (decode e ∷ []) []) (after x e)
      go true t =
          record {
            allowed = allowed_more cs (decode e) fresh h.allowed (rw h.system at (ruling-tests x e (eqb-true _ _ t)));
            system = after-yes x e t ∙ ap (perform (decode e)) h.system ∙ sym (reached-more cs (decode e) fresh);
          }
      go false t =
          record {
            allowed = subst (λ (ds : List Command). Allowed ds fresh) (sym (append-nil cs)) h.allowed;
            system = after-no x e t ∙ h.system ∙ ap (λ (ds : List Command). reached ds fresh) (sym (append-nil cs));
          }

-- the heads of S are up throughout exactly if each is steady
module _ (S : ℕ → Bool) (n : ℕ) where
  each-steady : (cs : List Command) (es : List (List ℕ)) (x : System) → Throughout (AllUp S n) cs es x → (p : ℕ) → 1 ≤ p → p ≤ n → S p ≡ true → is_steady cs es x p ≡ true
  unfolding is_steady
  each-steady cs [] x h p low high s = h p low high s
  each-steady cs (e ∷ es) x h p low high s = rw (h.0 p low high s) (each-steady (with_entry cs x e) es (after x e) h.1 p low high s)

  all_steady : (cs : List Command) (es : List (List ℕ)) (x : System) → ((p : ℕ) → 1 ≤ p → p ≤ n → S p ≡ true → is_steady cs es x p ≡ true) → Throughout (AllUp S n) cs es x
  unfolding is_steady
  all_steady cs [] x h = h
  all_steady cs (e ∷ es) x h = (
    λ p low high s. (both (is_up_after false p cs) (is_steady (with_entry cs x e) es (after x e) p) (h p low high s)).0,
    all_steady (with_entry cs x e) es (after x e) (λ p low high s. (both (is_up_after false p cs) (is_steady (with_entry cs x e) es (after x e) p) (h p low high s)).1),
  )

pub steady-ones : SteadyOnes
steady-ones S cs es s = (each-steady S s.n cs es s, all_steady S s.n cs es s)

-- what holds at every moment holds at the first
pub at_once : (P : List Command → Type 0) (cs : List Command) (es : List (List ℕ)) (x : System) → Throughout P cs es x → P cs
at_once P cs [] x h = h
at_once P cs (e ∷ es) x h = h.0

pub throughout_map : (P Q : List Command → Type 0) → ((ds : List Command) → P ds → Q ds) → (cs : List Command) (es : List (List ℕ)) (x : System) → Throughout P cs es x → Throughout Q cs es x
throughout_map P Q f cs [] x h = f cs h
throughout_map P Q f cs (e ∷ es) x h = (f cs h.0, throughout_map P Q f (with_entry cs x e) es (after x e) h.1)

-- Set up, with flash heads: so it stays.
abbrev pub Flash : System → Type 0
Flash s = (s.ready ≡ true) × (s.clock ≡ false)

pub after-flash : (s : System) (e : List ℕ) → Flash s → Flash (after s e)
unfolding after
after-flash s e (r, flash) =
    cond_elim Flash (accepted s e)
    (λ t.
    let a : Accepts (decode e) s = accepts (decode e) s (ruling-tests s e (eqb-true _ _ t)) in
    (ready_after (decode e) s r a, clock_after (decode e) s r a ∙ flash))
    (λ t. (r, flash))

-- no entry changes the number of stations
pub n_kept : (x : System) (e : List ℕ) → x.ready ≡ true → (after x e).n ≡ x.n
unfolding after
n_kept x e r = cond_elim (λ (y : System). y.n ≡ x.n) (accepted x e) (λ t. n-after (decode e) x r (accepts (decode e) x (ruling-tests x e (eqb-true _ _ t)))) (λ t. refl)

-- what holds at every tick of a run, at whatever moment of the stretch it begins, holds at every tick of the stretch; Q holds at every moment
module _ (P : System → Type 0) (Q : List Command → Type 0) (run : (cs : List Command) (x : System) → GivenBy cs x → Flash x → Q cs → (t : ℕ) → All P (moments t x)) where
  entry-ticks : (cs : List Command) (x : System) → GivenBy cs x → Flash x → Q cs → (c : Command) → All P (ticks_of c x)
  entry-ticks cs x h f q (SetUp clock n period) = tt
  entry-ticks cs x h f q (Start p) = tt
  entry-ticks cs x h f q (Crash p) = tt
  entry-ticks cs x h f q (Link a b d) = tt
  entry-ticks cs x h f q (Run t) = run cs x h f q t
  entry-ticks cs x h f q (Lose a b) = tt
  entry-ticks cs x h f q Report = tt
  entry-ticks cs x h f q (Rank p r) = tt

  pub stretch-ticks : (cs : List Command) (es : List (List ℕ)) (x : System) → GivenBy cs x → Flash x → Throughout Q cs es x → All P (befores es x)
  unfolding befores
  stretch-ticks cs [] x h f q = tt
  stretch-ticks cs (e ∷ es) x h f q =
      all_append P (cond (accepted x e) (ticks_of (decode e) x) []) (befores es (after x e))
      (cond_elim (All P) (accepted x e) (λ t. entry-ticks cs x h f q.0 (decode e)) (λ t. tt))
      (stretch-ticks (with_entry cs x e) es (after x e) (given-after cs x h e) (after-flash x e f) q.1)
