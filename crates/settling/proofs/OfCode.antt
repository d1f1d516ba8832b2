-- Demand 3 and Paper 7 of the code.
use mathlib.Core.Path.{◌≡◌, refl, sym, ap, subst, ◌∙◌}
use mathlib.Core.List.{List, [], ◌∷◌}
use Prim.Native.Nat.{ℕ, zero, suc}
use native.Mathlib.Decide.{ℕ_discrete}
use native.Mathlib.Omega.{arith}
use lib.Dec.{ltb}
use lib.ListN.{length, take, drop, length-drop, take-append-drop}
use Rattle.lists.specs.Every.{All}
use Rattle.lists.proofs.Bools.{cond_elim}
use Rattle.lists.proofs.Every.{all_left, all_right}
use Rattle.settling.specs.OfCode.{Octets, Reachable, at_first, after-command, Commanding, ObeysAs, RunsAs, obeyed, SettlingOfCode, SteadySettlingOfCode}
use Rattle.election.specs.Commands.{Result, command}
use Rattle.election.specs.Schedule.{End, follow, most_bytes, schedule, said as saidSchedule}
use Rattle.settling.specs.Settling.{answered, given}
use Rattle.election.specs.System.{fresh}
use Rattle.election.specs.declared.Scheduled.{Scheduled}
use Rattle.election.specs.declared.System.{System}
use Rattle.settling.proofs.HSteady.{steady-settling}
use Rattle.settling.proofs.IDemand.{settling}
use Rattle.election.proofs.Follow.{follow-yes, follow-stops}

octets_drop : (k : ℕ) (bytes : List ℕ) → Octets bytes → Octets (drop k bytes)
octets_drop k bytes h =
    record {
      bytes-each = all_right _ (take k bytes) (drop k bytes) (subst (All _) (sym (take-append-drop k bytes)) h.bytes-each);
      slice = omega (arith, length-drop k bytes, h.slice);
    }

octets_take : (k : ℕ) (es : List (List ℕ)) → All Octets es → All Octets (take k es)
octets_take k es h = all_left Octets (take k es) (drop k es) (subst (All Octets) (sym (take-append-drop k es)) h)

-- a schedule of bytes ends with a reachable system
follow-reachable : (fuel : ℕ) (s : System) (at : ℕ) (bytes : List ℕ) → Octets bytes → Reachable s → Reachable (follow fuel s at bytes).system
unfolding follow
follow-reachable zero s at bytes o r = r
follow-reachable (suc fuel) s at [] o r = r
follow-reachable (suc fuel) s at (b ∷ bytes) o r = go (ℕ_discrete (command s (b ∷ bytes)).refusal 0) (follow-reachable fuel)
  where
    go : Dec ((command s (b ∷ bytes)).refusal ≡ 0) → ((s : System) (at : ℕ) (bytes : List ℕ) → Octets bytes → Reachable s → Reachable (follow fuel s at bytes).system) → Reachable (follow (suc fuel) s at (b ∷ bytes)).system
    go (yes t) rest = rw (follow-yes fuel s at b bytes t) (rest _ _ _ (octets_drop (command s (b ∷ bytes)).length (b ∷ bytes) o) (after-command (b ∷ bytes) r o))
    go (no ne) rest = rw (follow-stops fuel s at b bytes ne) r

schedule-reachable : (bytes : List ℕ) → Octets bytes → Reachable (schedule bytes).system
unfolding schedule
schedule-reachable bytes o =
    cond_elim (λ (e : End). Reachable e.system) (ltb most_bytes (length bytes)) (λ t. at_first) (λ t. follow-reachable (length bytes) fresh 0 bytes o at_first)

-- f answers what Command does
obeyed-answered : (f : Commanding) → ObeysAs f → (es : List (List ℕ)) (s : System) → All Octets es → Reachable s → obeyed f es s ≡ answered es s
unfolding obeyed answered
obeyed-answered f h [] s o r = refl
obeyed-answered f h (e ∷ es) s o r =
    ap (obeyed f es) (ap (λ (x : Result). x.system) (h s e r o.0)) ∙ obeyed-answered f h es (command s e).system o.1 (after-command e r o.0)

-- g's last system is the schedule's, and f answers what the rules give from there
module _ (f : Commanding) (g : List ℕ → Scheduled) (obeys : ObeysAs f) (runs : RunsAs g) (bytes : List ℕ) (stretch : List (List ℕ)) (o : Octets bytes) (os : All Octets stretch) where
  same-refusal : (schedule bytes).refusal ≡ (saidSchedule (g bytes)).refusal
  same-refusal = ap (λ (x : End). x.refusal) (sym (runs bytes o))

  same-system : (schedule bytes).system ≡ (g bytes).system
  same-system = ap (λ (x : End). x.system) (sym (runs bytes o))

  obeyed-given : ((k : ℕ) → answered (take k stretch) (schedule bytes).system ≡ given (take k stretch) (schedule bytes).system)
      → (k : ℕ) → obeyed f (take k stretch) (g bytes).system ≡ given (take k stretch) (g bytes).system
  obeyed-given answers k =
      subst (λ (s : System). obeyed f (take k stretch) s ≡ given (take k stretch) s) same-system
      (obeyed-answered f obeys (take k stretch) (schedule bytes).system (octets_take k stretch os) (schedule-reachable bytes o) ∙ answers k)

pub steady-settling_of_code : SteadySettlingOfCode
steady-settling_of_code f g obeys runs bytes stretch S d L o os ok flash first quiet =
    let same : (schedule bytes).system ≡ (g bytes).system = same-system f g obeys runs bytes stretch o os in
    let (settles, is-reached) =
    steady-settling bytes stretch S d L (same-refusal f g obeys runs bytes stretch o os ∙ ok) (ap (λ (x : System). x.clock) same ∙ flash) (rw same first) (rw same quiet) in
    (rw same at settles, sym same ∙ is-reached, obeyed-given f g obeys runs bytes stretch o os settles.answers)

pub settling_of_code_holds : SettlingOfCode
settling_of_code_holds f g obeys runs bytes stretch d L o os ok flash first quiet =
    let same : (schedule bytes).system ≡ (g bytes).system = same-system f g obeys runs bytes stretch o os in
    let (settles, is-reached) =
    settling bytes stretch d L (same-refusal f g obeys runs bytes stretch o os ∙ ok) (ap (λ (x : System). x.clock) same ∙ flash) (rw same first) (rw same quiet) in
    (rw same at settles, sym same ∙ is-reached, obeyed-given f g obeys runs bytes stretch o os settles.answers)
