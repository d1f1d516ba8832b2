-- What `ok_or` and `map_err` tell of what they were given.
use mathlib.Core.Path.{◌≡◌, refl, ap, subst}
use Prim.Native.Nat.{ℕ}
use native.Mathlib.Omega.{arith}
use Rattle.std.specs.Prelude.{Option, Some, None, Result, Ok, Err}
use Rattle.std.specs.Option.{ok_or}
use Rattle.std.specs.Result.{MatchResult, IsErrAnd}

pub there : {T E : Type 0} (o : Option T) (why : E) (r : Result T E) (x : T) → r ≡ ok_or o why → r ≡ Ok x → o ≡ Some x
there {T} (Some y) why r x e f = let s : y ≡ x = cc in ap Some s
there None why r x e f = let z : ◌≡◌ {A = ℕ} 0 1 = cc in absurd (omega arith)

pub not_there : {T E : Type 0} (o : Option T) (why : E) (r : Result T E) (is : E) → r ≡ ok_or o why → r ≡ Err is → (o ≡ None) × (is ≡ why)
not_there (Some y) why r is e f = let z : ◌≡◌ {A = ℕ} 0 1 = cc in absurd (omega arith)
not_there None why r is e f = (refl, cc)

-- what `map_err` tells of the result that it was given
pub record Turned {T E D : Type 0} (o : Result T E) (P : E → D → Type 0) (d : D) : Type 0 where
  pub why : E
  pub is : o ≡ Err why
  pub told : P why d

pub kept : {T E D : Type 0} (P : E → D → Type 0) (o : Result T E) (r : Result T D) (x : T) → MatchResult o (λ y. r ≡ Ok y) (λ e. IsErrAnd r (P e)) → r ≡ Ok x → o ≡ Ok x
kept P (Ok y) r x m f = let s : y ≡ x = cc in ap Ok s
kept P (Err e) (Ok y) x m f = absurd m
kept P (Err e) (Err d) x m f = let z : ◌≡◌ {A = ℕ} 0 1 = cc in absurd (omega arith)

pub turned : {T E D : Type 0} {P : E → D → Type 0} (o : Result T E) (r : Result T D) (d : D) → MatchResult o (λ y. r ≡ Ok y) (λ e. IsErrAnd r (P e)) → r ≡ Err d → Turned o P d
turned (Ok y) r d m f = let z : ◌≡◌ {A = ℕ} 0 1 = cc in absurd (omega arith)
turned (Err e) (Ok y) d m f = absurd m
turned {P = P} (Err e) (Err b) d m f = let s : b ≡ d = cc in record { why = e; is = refl; told = subst (P e) s m }
