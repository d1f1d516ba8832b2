-- A schedule that is accepted, followed command by command: it ends with what the rules give for its commands.
use mathlib.Core.Path.{◌≡◌, refl, sym, ap, ◌∙◌}
use mathlib.Core.Bool.{Bool, true, false, cond}
use mathlib.Core.List.{List, [], ◌∷◌}
use Prim.Native.Nat.{ℕ, zero, suc, ◌+◌}
use native.Mathlib.Decide.{ℕ_discrete}
use native.Mathlib.Omega.{arith}
use lib.Dec.{ltb}
use lib.ListN.{length, drop}
use borrow.Author.Tests.{eq-eqb}
use Rattle.lists.specs.First.{first_failed}
use Rattle.election.specs.Commands.{Command, decode, operands, tests, ruling, refusal, perform, command}
use Rattle.election.specs.History.{accepted, after, history, reached}
use Rattle.election.specs.Schedule.{End, most_bytes, follow, schedule}
use Rattle.election.specs.Sound.{sound}
use Rattle.election.specs.System.{fresh}
use Rattle.election.specs.declared.System.{System}
use Rattle.election.proofs.Accepting.{ruling-tests}
use Rattle.election.proofs.Follow.{follow-yes, follow-no}
use Rattle.election.proofs.InitialSound.{fresh-sound}
use Rattle.election.proofs.KeepsSound.{perform-keeps}

-- bytes whose first command is accepted, and refused
module _ (x : System) (e : List ℕ) where
  pub after-yes : accepted x e ≡ true → after x e ≡ perform (decode e) x
  unfolding after
  after-yes t = rw t

  pub after-no : accepted x e ≡ false → after x e ≡ x
  unfolding after
  after-no t = rw t

-- in a sound system Command is the rules
module _ (s : System) (bytes : List ℕ) (e : sound s ≡ true) where
  pub rules_refusal : (command s bytes).refusal ≡ ruling s bytes
  unfolding command refusal
  rules_refusal = rw e

  pub rules_system : (command s bytes).system ≡ after s bytes
  unfolding command refusal after
  rules_system = rw e

  pub rules_performs : ruling s bytes ≡ 0 → (command s bytes).system ≡ perform (decode bytes) s
  rules_performs t = rules_system ∙ after-yes s bytes (eq-eqb _ _ t)

  pub rules_length : ruling s bytes ≡ 0 → (command s bytes).length ≡ 1 + operands (decode bytes)
  unfolding command refusal
  rules_length t = rw (e, t)

-- every command of the list is accepted, each by the system that the last one left
abbrev pub Allowed : List Command → System → Type 0
Allowed [] s = Unit {0}
Allowed (c ∷ cs) s = (first_failed (tests s c) ≡ 0) × Allowed cs (perform c s)

-- a schedule that is accepted ends with what the rules give for its commands
pub record Followed (fuel : ℕ) (s : System) (bytes : List ℕ) (end : End) : Type 0 where
  pub system : end.system ≡ reached (history fuel s bytes) s
  pub allowed : Allowed (history fuel s bytes) s
  pub is-sound : sound end.system ≡ true

history-yes : (fuel : ℕ) (s : System) (b : ℕ) (bytes : List ℕ) → ruling s (b ∷ bytes) ≡ 0 → history (suc fuel) s (b ∷ bytes) ≡ decode (b ∷ bytes) ∷ history fuel (perform (decode (b ∷ bytes)) s) (drop (1 + operands (decode (b ∷ bytes))) (b ∷ bytes))
unfolding history
history-yes fuel s b bytes t = rw (eq-eqb (ruling s (b ∷ bytes)) 0 t, history)

pub followed : (fuel : ℕ) (s : System) (at : ℕ) (bytes : List ℕ) → sound s ≡ true → (follow fuel s at bytes).refusal ≡ 0 → Followed fuel s bytes (follow fuel s at bytes)
unfolding follow history reached
followed zero s at bytes h e = record { system = refl; allowed = tt; is-sound = h }
followed (suc fuel) s at [] h e = record { system = refl; allowed = tt; is-sound = h }
followed (suc fuel) s at (b ∷ bytes) h e = go (ℕ_discrete (command s (b ∷ bytes)).refusal 0) (followed fuel)
  where
    c : Command
    c = decode (b ∷ bytes)

    go : Dec ((command s (b ∷ bytes)).refusal ≡ 0) → ((x : System) (n : ℕ) (rest : List ℕ) → sound x ≡ true → (follow fuel x n rest).refusal ≡ 0 → Followed fuel x rest (follow fuel x n rest)) → Followed (suc fuel) s (b ∷ bytes) (follow (suc fuel) s at (b ∷ bytes))
    go (no ne) rest = absurd (ne (sym (follow-no fuel s at b bytes ne) ∙ e))
    go (yes t) rest =
        let t' : ruling s (b ∷ bytes) ≡ 0 = sym (rules_refusal s (b ∷ bytes) h) ∙ t in
        let y : (command s (b ∷ bytes)).system ≡ perform (decode (b ∷ bytes)) s = rules_performs s (b ∷ bytes) h t' in
        let l : (command s (b ∷ bytes)).length ≡ 1 + operands (decode (b ∷ bytes)) = rules_length s (b ∷ bytes) h t' in
        let ok : first_failed (tests s (decode (b ∷ bytes))) ≡ 0 = ruling-tests s (b ∷ bytes) t' in
        let eq : follow (suc fuel) s at (b ∷ bytes) ≡ follow fuel (perform (decode (b ∷ bytes)) s) (at + (1 + operands (decode (b ∷ bytes)))) (drop (1 + operands (decode (b ∷ bytes))) (b ∷ bytes)) =
        follow-yes fuel s at b bytes t ∙ rw (y, l) in
        let r = rest (perform (decode (b ∷ bytes)) s) (at + (1 + operands (decode (b ∷ bytes)))) (drop (1 + operands (decode (b ∷ bytes))) (b ∷ bytes)) (perform-keeps (decode (b ∷ bytes)) s h ok) (ap (λ (z : End). z.refusal) (sym eq) ∙ e) in
        rw eq
        (record { system = r.system ∙ ap (λ (cs : List Command). reached cs s) (sym (history-yes fuel s b bytes t')); allowed = rw (history-yes fuel s b bytes t') (ok, r.allowed); is-sound = r.is-sound })

-- an accepted schedule, from the fresh system
pub accepted-schedule : (bytes : List ℕ) → (schedule bytes).refusal ≡ 0 → Followed (length bytes) fresh bytes (schedule bytes)
unfolding schedule
accepted-schedule bytes e = go (ltb most_bytes (length bytes)) e
  where
    go : (b : Bool) → (cond b (record { refusal = 21; offset = 0; system = fresh }) (follow (length bytes) fresh 0 bytes)).refusal ≡ 0
        → Followed (length bytes) fresh bytes (cond b (record { refusal = 21; offset = 0; system = fresh }) (follow (length bytes) fresh 0 bytes))
    go true e = absurd (omega arith)
    go false e = followed (length bytes) fresh 0 bytes fresh-sound e
