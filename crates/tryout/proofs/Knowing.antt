-- What is said for what was read of an input, and where, is what is said for the whole input.
use Rattle.std.proofs.Common.{◌≡◌, ap, subst, List, [], ◌∷◌, cond, ℕ, ◌+◌, ◌<◌, ◌≤◌, ℤ, pos, Option, Some, None, IfSome, get_or, length, take, arith}
use Rattle.std.specs.Io.KnownBytes.{Consumes, IsAtEnd}
use borrow.Author.Tests.{lt-ltb}
use lib.Dec.{eqb}
use Rattle.calls.specs.Calls.{EnoughFor}
use Rattle.calls.proofs.Calls.{enough}
use Rattle.calls.proofs.Known.{enough_known}
use Rattle.text.specs.Wrote.{Wrote}
use Rattle.text.proofs.Parts.{wrote_front}
use Rattle.election.specs.Schedule.{most_bytes, schedule}
use Rattle.tryout.specs.Told.{said, descriptor}
use Rattle.tryout.proofs.Telling.{enough_holds}

-- the refusal, as a list
abbrev refused : List ℕ → List ℕ
refused given = (schedule given).refusal ∷ []

long_refused : (given : List ℕ) → most_bytes < length given → refused given ≡ 21 ∷ []
unfolding schedule
long_refused given l = rw (lt-ltb most_bytes (length given) l)

same_refusal : EnoughFor refused most_bytes
same_refusal = enough refused most_bytes (21 ∷ []) long_refused

-- `Holds` says of a descriptor and of bytes what went there of them
joined : (before : Option (List ℕ)) (read bytes : List ℕ) (Holds : ℤ → List ℕ → Type 0) → IfSome before (λ given. said read bytes ≡ said given bytes) → IfSome before (λ given. refused read ≡ refused given)
    → Holds (descriptor read) (said read bytes) → IfSome before (λ given. Holds (descriptor given) (said given bytes))
joined None read bytes Holds p q h = tt
joined (Some given) read bytes Holds p q h =
    subst (λ d. Holds d (said given bytes)) (ap (λ (l : List ℕ). cond (eqb (get_or l 0 0) 0) (pos 1) (pos 2)) q)
    (subst (λ (l : List ℕ). Holds (descriptor read) l) p h)

pub known_said : (before left : Option (List ℕ)) (space : List ℕ) (size : ℕ) (bytes : List ℕ) (Holds : ℤ → List ℕ → Type 0) → length space ≡ most_bytes + 1 → size ≤ length space
    → (size < length space → IsAtEnd left) → Consumes before left (take size space) → Holds (descriptor (take size space)) (said (take size space) bytes)
    → IfSome before (λ given. Holds (descriptor given) (said given bytes))
known_said before left space size bytes Holds room inside end read h =
    let more : most_bytes < length space = omega (arith, room) in
    joined before (take size space) bytes Holds
    (enough_known {made = λ given. said given bytes} (enough_holds bytes) before left space size inside more end read)
    (enough_known {made = refused} same_refusal before left space size inside more end read) h

-- what went there of the text that was written, where it was to go
pub all_said : {before after : List ℕ} {size : ℕ} {d : ℤ} (given bytes : List ℕ) (Holds : ℤ → List ℕ → Type 0) → Wrote (said given bytes) before size after → d ≡ descriptor given → Holds d (take size after)
    → Holds (descriptor given) (said given bytes)
all_said {d} given bytes Holds w e h = subst (λ x. Holds x (said given bytes)) e (subst (Holds d) (wrote_front w) h)
