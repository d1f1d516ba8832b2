-- What is said for what was read of an input is what is said for the whole input.
use Rattle.std.proofs.Common.{sym, subst, List, ℕ, Option, Some, None, IfSome, length, take}
use Rattle.std.specs.Prelude.{Result}
use Rattle.calls.specs.declared.Cut.{Cut}
use Rattle.calls.specs.declared.Filled.{Filled}
use Rattle.calls.proofs.Known.{read_enough}
use Rattle.desk.specs.Spoken.{SpaceFor, SpokenTo, ReadAll, SaidFor}
use Rattle.desk.specs.declared.asked.Mode.{Mode}
use Rattle.desk.proofs.Enough.{enough}
use Rattle.desk.proofs.Saying.{said_for}

pub known_said : (before left : Option (List ℕ)) (m : Mode) (space : List ℕ) (filled : Filled) {T : Type 0} {r : Result T Cut} {out out' err err' : Option (List ℕ)} → ReadAll before left space filled → SpaceFor m (length space)
    → SpokenTo m (take filled.size space) r out out' err err' → SaidFor m filled r before left space out out' err err'
known_said before left m space filled {r = r} {out = out} {out' = out'} {err = err} {err' = err'} read room s = record { read = read; said = s; known = whole before read }
  where
    whole : (b : Option (List ℕ)) → ReadAll b left space filled → IfSome b (λ given. SpokenTo m given r out out' err err')
    whole None q = tt
    whole (Some given) q =
        let e = read_enough (Some given) left space filled.size q.inside q.end q.bytes in
        said_for (subst (λ l. SpokenTo m l r out out' err err') (sym e.0) s) given (enough m given e.1.0 filled.size (length space) room e.1.1 e.1.2)
