-- A try-out before pulling a plug (Paper 8 of document 02): one command done on a copy, and the listing after it.
use Rattle.std.specs.Prelude.{Option, Some, None, List, cond, ℕ, eqb}
use Rattle.election.specs.Commands.{Result, command, number_of}
use Rattle.election.specs.Listing.{Listed, listed}
use Rattle.election.specs.declared.Refusal.{Refusal}
use Rattle.election.specs.declared.System.{System}
use Rattle.dryrun.specs.declared.Tried as declared

-- what a try-out leaves: the refusal, 0 for none; the length written; the buffer; the original system
pub record Tried : Type 0 where
  pub refusal : ℕ
  pub written : ℕ
  pub buffer : List ℕ
  pub system : System

-- the command's refusal, else the listing's, else 0
abbrev pub first_of : ℕ → ℕ → ℕ
first_of ofCommand ofListing = cond (eqb ofCommand 0) ofListing ofCommand

-- the command is done on a copy, and the system that this leaves is listed; the original comes back
unfoldable pub tried : System → List ℕ → List ℕ → Tried
tried s bytes buffer =
    let c : Result = command s bytes in
    let l : Listed = listed c.system buffer in
    record { refusal = first_of c.refusal l.refusal; written = l.written; buffer = l.buffer; system = s }

-- the papers' number of a refusal, 0 where there is none
abbrev pub refusal_of : Option Refusal → ℕ
refusal_of None = 0
refusal_of (Some why) = number_of why

-- an answer, with the system and the buffer as they are then
abbrev pub said : declared.Tried → System → List ℕ → Tried
said r s buffer = record { refusal = refusal_of r.refusal; written = r.written; buffer = buffer; system = s }
