-- What a try-out shows: the claims of specs/Claims.antt.
use mathlib.Core.Path.{◌≡◌, refl, sym, ap, subst, ◌∙◌}
use Rattle.std.specs.Prelude as std
use Rattle.std.specs.Prelude.{Ok, Err, Option}
use Rattle.std.specs.Option.{option_or}
use Rattle.std.specs.Result.{result_err, result_unwrap_or}
use mathlib.Core.Logic.{◌≢◌, ◌⊎◌}
use mathlib.Core.Logic.◌⊎◌.{inl, inr}
use mathlib.Core.List.{List, [], ◌++◌}
use mathlib.Core.Bool.{Bool, true, false, cond, true≢false}
use Prim.Native.Nat.{ℕ, ◌<◌, ◌≤◌}
use native.Mathlib.Omega.{arith}
use lib.Dec.{eqb}
use lib.ListN.{length, take, drop, length-append}
use borrow.Author.Tests.{eq-eqb, ne_eqb, eqb-true}
use Rattle.lists.specs.Entries.{over}
use Rattle.lists.proofs.Bools.{cond_elim}
use Rattle.lists.proofs.Entries.{take_over}
use Rattle.lists.proofs.First.{passed}
use Rattle.election.specs.Commands.{said as saidCommand}
use Rattle.election.specs.Commands.{refusal_of as number_in}
use Rattle.election.specs.Commands.{Command, SetUp, Start, Crash, Link, Run, Lose, Report, Rank, Result, decode, ruling, refusal, perform, command, number_of, length_of}
use Rattle.election.specs.Listing.{Listed, listing, listed}
use Rattle.election.specs.Listing.{said as saidListing}
use Rattle.election.specs.declared.Refusal.{Refusal}
use Rattle.election.specs.declared.Refusal.TheVariants.{NotSetUp}
use Rattle.election.specs.Sound.{sound}
use Rattle.election.specs.declared.System.{System}
use Rattle.election.proofs.Accepting.{Accepts, accepts}
use Rattle.election.proofs.Counts.{ready_after}
use Rattle.election.proofs.InitialSound.{initial-ready}
use Rattle.election.proofs.KeepsSound.{refusal-tests, keeps_sound, refused-changes_nothing}
use Rattle.election.proofs.Soundness.{sound-of}
use Rattle.listing.proofs.Answers.{unsound, not_set_up, short, done}
use Rattle.listing.proofs.Room.{listing-room}
use Rattle.decision.proofs.Bytes.{unsound as unsound-command}
use Rattle.decision.proofs.Decisions.{numbered}
use Rattle.dryrun.specs.Claims.{SameSystem, AcceptedShows, CommandFirst, RefusedShows, ElseSixteen, NothingWritten, WithRoom}
use Rattle.dryrun.specs.DryRun.{first_of, refusal_of, said, tried}

-- the first refusal of two answers: of the command, else of the listing, else none
first_refusal : (c l : std.Result ℕ Refusal) → refusal_of (option_or (result_err c) (result_err l)) ≡ first_of (number_in c) (number_in l)
first_refusal (Ok size) (Ok long) = refl
first_refusal (Ok size) (Err why) = refl
first_refusal (Err why) l = rw (ne_eqb (number_of why) 0 (numbered why))

-- the length of an answer
length_is : (l : std.Result ℕ Refusal) → result_unwrap_or l 0 ≡ length_of l
length_is (Ok size) = refl
length_is (Err why) = refl

-- what the operations below answered makes up what is left
pub left_by : (s after : System) (bytes old new : List ℕ) (c l : std.Result ℕ Refusal) (first : Option Refusal) (size : ℕ)
    → saidCommand c after ≡ command s bytes → saidListing l new ≡ listed after old → first ≡ option_or (result_err c) (result_err l) → size ≡ result_unwrap_or l 0
    → said (record { refusal = first; written = size }) s new ≡ tried s bytes old
unfolding tried
left_by s after bytes old new c l first size e f g h =
    let then : listed after old ≡ listed (command s bytes).system old = ap (λ (r : Result). listed r.system old) e in
    λ i. record {
      refusal = ((ap refusal_of g ∙ first_refusal c l) ∙ (λ j. first_of (e j).refusal ((f ∙ then) j).refusal)) i;
      written = ((h ∙ length_is l) ∙ ap (λ (x : Listed). x.written) (f ∙ then)) i;
      buffer = (ap (λ (x : Listed). x.buffer) (f ∙ then)) i;
      system = s;
    }

-- a listing that is written, and one that is not
module _ (x : System) (buffer : List ℕ) where
  shows : sound x ≡ true → x.ready ≡ true → length (listing x) ≤ length buffer
      → listed x buffer ≡ record { refusal = 0; written = length (listing x); buffer = over (listing x) buffer }
  shows e r h = sym (done x buffer e r h (record { count = refl; bytes = refl }))

  nothing : (length buffer < length (listing x)) ⊎ (sound x ≡ false) ⊎ (x.ready ≡ false) → ((listed x buffer).written ≡ 0) × ((listed x buffer).buffer ≡ buffer)
  nothing w = go (sound x) refl x.ready refl w
    where
      so : (l : Listed) → l.written ≡ 0 → l.buffer ≡ buffer → l ≡ listed x buffer → ((listed x buffer).written ≡ 0) × ((listed x buffer).buffer ≡ buffer)
      so l a b e = (ap (λ (l : Listed). l.written) (sym e) ∙ a, ap (λ (l : Listed). l.buffer) (sym e) ∙ b)

      go : (a : Bool) → sound x ≡ a → (r : Bool) → x.ready ≡ r → (length buffer < length (listing x)) ⊎ (sound x ≡ false) ⊎ (x.ready ≡ false)
          → ((listed x buffer).written ≡ 0) × ((listed x buffer).buffer ≡ buffer)
      go false e r u w = so _ refl refl (unsound x buffer e)
      go true e false u w = so _ refl refl (not_set_up x buffer e u)
      go true e true u (inl h) = so _ refl refl (short x buffer e u h)
      go true e true u (inr (inl f)) = absurd (true≢false (sym e ∙ f))
      go true e true u (inr (inr f)) = absurd (true≢false (sym u ∙ f))

-- after an accepted command the system is set up
set_up-after : (c : Command) (s : System) → Accepts c s → (perform c s).ready ≡ true
unfolding perform
set_up-after (SetUp clock n period) s a = initial-ready clock n period
set_up-after (Start p) s a = ready_after (Start p) s a.0 a
set_up-after (Crash p) s a = ready_after (Crash p) s a.0 a
set_up-after (Link p q d) s a = ready_after (Link p q d) s a.0 a
set_up-after (Run t) s a = ready_after (Run t) s a.0 a
set_up-after (Lose p q) s a = ready_after (Lose p q) s a.0 a
set_up-after Report s a = ready_after Report s a a
set_up-after (Rank p r) s a = ready_after (Rank p r) s a.0 a

-- an accepted command is done, and leaves a sound system that is set up
module _ (s : System) (bytes : List ℕ) (t : (command s bytes).refusal ≡ 0) where
  was_sound : sound s ≡ true
  unfolding command refusal
  was_sound = (passed (sound s) (ruling s bytes) 14 t).0

  performed : (command s bytes).system ≡ perform (decode bytes) s
  unfolding command
  performed = rw (eq-eqb (refusal s bytes) 0 t)

  after-sound : sound (perform (decode bytes) s) ≡ true
  after-sound = subst (λ (x : System). sound x ≡ true) performed (keeps_sound s bytes was_sound)

  after-set_up : (perform (decode bytes) s).ready ≡ true
  unfolding command
  after-set_up = set_up-after (decode bytes) s (accepts (decode bytes) s (refusal-tests s bytes t))

pub same-system : SameSystem
unfolding tried
same-system s bytes buffer = refl

pub accepted-shows : AcceptedShows
unfolding tried
accepted-shows s bytes buffer t h =
    rw (t, performed s bytes t, shows (perform (decode bytes) s) buffer (after-sound s bytes t) (after-set_up s bytes t) h) (refl, (refl, refl))

pub command-first : CommandFirst
unfolding tried
command-first s bytes buffer ne = rw (ne_eqb (command s bytes).refusal 0 ne)

pub refused-shows : RefusedShows
unfolding tried
refused-shows s bytes buffer ne e r h =
    rw ((refused-changes_nothing s bytes ne).0, shows s buffer e r h) (refl, refl)

pub else_sixteen : ElseSixteen
unfolding tried
else_sixteen s bytes buffer t = (rw t, λ h. rw (t, performed s bytes t) (ap (λ (l : Listed). l.refusal) (sym (short (perform (decode bytes) s) buffer (after-sound s bytes t) (after-set_up s bytes t) h))))

pub nothing_written : NothingWritten
unfolding tried
nothing_written s bytes buffer (inl h) = nothing (command s bytes).system buffer (inl h)
nothing_written s bytes buffer (inr (inl e)) =
    let same : (command s bytes).system ≡ s = ap (λ (r : Result). r.system) (sym (unsound-command s bytes e)) in
    nothing (command s bytes).system buffer (inr (inl (ap sound same ∙ e)))
nothing_written s bytes buffer (inr (inr r)) = nothing (command s bytes).system buffer (inr (inr r))

-- what is written is within the buffer
pub written-inside : (s : System) (bytes buffer : List ℕ) → (tried s bytes buffer).written ≤ length (tried s bytes buffer).buffer
unfolding tried listed over
written-inside s bytes buffer =
    let l : List ℕ = listing (command s bytes).system in
    go (eqb (listed (command s bytes).system buffer).refusal 0) l
  where
    go : (b : Bool) (l : List ℕ) → cond b (length l) 0 ≤ length (cond b (l ++ drop (length l) buffer) buffer)
    go true l = omega (arith, length-append l (drop (length l) buffer))
    go false l = omega arith

-- the command's refusal, where the listing has none
first-none : (r : ℕ) → first_of r 0 ≡ r
first-none r = cond_elim (λ (x : ℕ). x ≡ r) (eqb r 0) (λ e. sym (eqb-true r 0 e)) (λ e. refl)

pub with_room : WithRoom
unfolding tried
with_room s bytes buffer e room = go x.ready refl
  where
    x : System
    x = (command s bytes).system

    ok : sound x ≡ true
    ok = keeps_sound s bytes e

    go : (r : Bool) → x.ready ≡ r
        → (first_of (command s bytes).refusal (listed x buffer).refusal ≡ (command s bytes).refusal)
        × (take (listed x buffer).written (listed x buffer).buffer ≡ cond x.ready (listing x) [])
    go true r =
        let fits : length (listing x) ≤ length buffer = omega (arith, room, listing-room x (sound-of x ok r).n-high) in
        rw (shows x buffer ok r fits, r) (first-none (command s bytes).refusal, take_over (length (listing x)) (listing x) buffer refl)
    go false r =
        let ne : (command s bytes).refusal ≢ 0 = λ t. true≢false (sym (after-set_up s bytes t) ∙ ap (λ (y : System). y.ready) (sym (performed s bytes t)) ∙ r) in
        let l : saidListing (Err NotSetUp) buffer ≡ listed x buffer = not_set_up x buffer ok r in
        rw (← l, r, ne_eqb (command s bytes).refusal 0 ne) (refl, refl)
