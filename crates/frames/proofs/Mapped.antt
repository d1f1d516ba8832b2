-- Where a cut is told as a failure of the program.
use Rattle.std.proofs.Common.{◌≡◌, sym, ap, List, Result, Ok, Err, IsErrAnd, MatchResult, is_ok, ℕ}
use mathlib.Core.Bool.{true≢false}
use Rattle.calls.specs.Moved.{TakenTo}
use Rattle.calls.specs.declared.Cut.{Cut}
use Rattle.frames.specs.declared.Failure.{Failure}
use Rattle.frames.specs.declared.Failure.TheVariants.{Write}

-- a write that stopped short is a failure to write
abbrev pub wrote : Result (Unit {0}) Cut → Result (Unit {0}) Failure
wrote (Ok x) = Ok x
wrote (Err cut) = Err (Write cut)

pub err_is : {T E : Type 0} (r : Result T E) (why : E) → IsErrAnd r (λ e. e ≡ why) → r ≡ Err why
err_is (Ok x) why is = absurd is
err_is (Err e) why is = ap Err is

pub is_wrote : (r : Result (Unit {0}) Cut) (m : Result (Unit {0}) Failure) → MatchResult r (λ x. m ≡ Ok x) (λ cut. IsErrAnd m (λ why. why ≡ Write cut)) → m ≡ wrote r
is_wrote (Ok x) m is = is
is_wrote (Err cut) m is = err_is m (Write cut) is

-- all was taken where none failed
pub all_taken : (r : Result (Unit {0}) Cut) (x : Unit {0}) (text : List ℕ) (Holds : List ℕ → Type 0) → wrote r ≡ Ok x → TakenTo r text Holds → Holds text
all_taken (Ok y) x text Holds is t = t
all_taken (Err cut) x text Holds is t = absurd (true≢false (sym (ap is_ok is)))
