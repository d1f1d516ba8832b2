-- How the program ended, from what reading and printing answered.
use Rattle.std.proofs.Common.{◌≡◌, subst, List, Option, None, Some, IfSome, Ok, Err, ℕ, ◌+◌, ◌<◌, ◌≤◌, length, take, arith}
use Rattle.std.specs.Io.KnownBytes.{Appends, Consumes, IsAtEnd}
use Rattle.std.proofs.KnownBytes.{Keeps-refl}
use Rattle.calls.specs.Moved.{CutAt}
use Rattle.calls.specs.declared.Cut.{Cut}
use Rattle.calls.specs.declared.Filled.{Filled}
use Rattle.calls.proofs.Known.{enough_known}
use Rattle.election.specs.Listing.{output}
use Rattle.election.specs.Schedule.{most_bytes}
use Rattle.rehearse.specs.Moves.{Known}
use Rattle.rehearse.specs.declared.Failure.TheVariants.{NotRead, NotPrinted}
use Rattle.rehearse.proofs.Printed.{enough_holds}

-- what was read gives what the whole input gives
pub gives_all : (before after : Option (List ℕ)) (space : List ℕ) (size : ℕ) → length space ≡ most_bytes + 1 → size ≤ length space → (size < length space → IsAtEnd after)
    → Consumes before after (take size space) → IfSome before (λ given. output (take size space) ≡ output given)
gives_all before after space size room inside end read = enough_known {made = output} enough_holds before after space size inside (omega (arith, room)) end read

-- so what was printed for it was printed for the whole input
module _ (before old new : Option (List ℕ)) (bytes : List ℕ) (filled : Filled) (same : IfSome before (λ given. output bytes ≡ output given)) where
  pub all_known : Appends old new (output bytes) → Known (Ok filled) before old new
  all_known t = go before same
    where
      go : (b : Option (List ℕ)) → IfSome b (λ given. output bytes ≡ output given) → Known (Ok filled) b old new
      go None s = tt
      go (Some given) s = subst (Appends old new) s t

  pub part_known : (cut : Cut) → CutAt cut.at (output bytes) (Appends old new) → Known (Err (NotPrinted filled cut)) before old new
  part_known cut t = go before same
    where
      go : (b : Option (List ℕ)) → IfSome b (λ given. output bytes ≡ output given) → Known (Err (NotPrinted filled cut)) b old new
      go None s = tt
      go (Some given) s = subst (λ x. CutAt cut.at x (Appends old new)) s t

pub none_known : (before old : Option (List ℕ)) (cut : Cut) → Known (Err (NotRead cut)) before old old
none_known None old cut = tt
none_known (Some given) old cut = Keeps-refl old
