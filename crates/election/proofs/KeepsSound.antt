-- Every command keeps soundness; a refused one changes nothing.
use mathlib.Core.Path.{◌≡◌, ◌∙◌}
use mathlib.Core.List.{List}
use mathlib.Core.Bool.{true, false}
use Prim.Native.Nat.{ℕ}
use lib.Dec.{eqb}
use borrow.Author.Tests.{eqb-true, ne_eqb}
use Rattle.lists.specs.First.{first_failed}
use Rattle.lists.proofs.Bools.{cond_elim}
use Rattle.lists.proofs.First.{passed}
use Rattle.election.specs.Claims.{KeepsSound, RefusedChangesNothing}
use Rattle.election.specs.Commands.{Command, SetUp, Start, Crash, Link, Run, Lose, Report, Rank, decode, ruling, tests, refusal, perform, command}
use Rattle.election.specs.Sound.{sound}
use Rattle.election.specs.System.{initial}
use Rattle.election.specs.Tick.{ticks}
use Rattle.election.specs.declared.System.{System}
use Rattle.election.proofs.Accepting.{Accepts, accepts, ruling-tests}
use Rattle.election.proofs.Changes.{start-sound, crash-sound, delay-sound, lose-sound, rank-sound}
use Rattle.election.proofs.InitialSound.{initial-sound, initial-ready}
use Rattle.election.proofs.Soundness.{sound-of, of_sound}
use Rattle.election.proofs.TickSound.{ticks-sound, ticks-ready}

-- a command that is accepted
keeps : (c : Command) (s : System) → sound s ≡ true → Accepts c s → sound (perform c s) ≡ true
unfolding perform
keeps (SetUp clock n period) s e (r, n-low, n-high, p-low, p-high) = of_sound (initial clock n period) (initial-sound clock n period n-low n-high p-low p-high) (initial-ready clock n period)
keeps (Start p) s e (r, i, d, few) = of_sound _ (start-sound s (sound-of s e r) p i few) r
keeps (Crash p) s e (r, i, u) = of_sound _ (crash-sound s (sound-of s e r) p i u) r
keeps (Link p q d) s e (r, i, j, ne, short) = of_sound _ (delay-sound s (sound-of s e r) p q i j ne d short) r
keeps (Run t) s e (r, l, room) = of_sound (ticks t s) (ticks-sound t s room (sound-of s e r)) (ticks-ready t s ∙ r)
keeps (Lose p q) s e (r, i, j, ne) = of_sound _ (lose-sound s (sound-of s e r) p q i j ne) r
keeps Report s e r = e
keeps (Rank p x) s e (r, flash, i, few, none) = of_sound _ (rank-sound s (sound-of s e r) flash p x i few) r

pub perform-keeps : (c : Command) (s : System) → sound s ≡ true → first_failed (tests s c) ≡ 0 → sound (perform c s) ≡ true
perform-keeps c s e t = keeps c s e (accepts c s t)

-- a command that is not refused passes its tests
pub refusal-tests : (s : System) (bytes : List ℕ) → refusal s bytes ≡ 0 → first_failed (tests s (decode bytes)) ≡ 0
unfolding refusal
refusal-tests s bytes t = ruling-tests s bytes (passed (sound s) (ruling s bytes) 14 t).1

pub keeps_sound : KeepsSound
unfolding command
keeps_sound s bytes e =
    cond_elim (λ (x : System). sound x ≡ true) (eqb (refusal s bytes) 0)
    (λ t. perform-keeps (decode bytes) s e (refusal-tests s bytes (eqb-true (refusal s bytes) 0 t)))
    (λ t. e)

pub refused-changes_nothing : RefusedChangesNothing
unfolding command
refused-changes_nothing s bytes h =
    let e : eqb (refusal s bytes) 0 ≡ false = ne_eqb (refusal s bytes) 0 h in
    (rw e, rw e)
