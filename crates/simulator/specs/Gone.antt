-- What going on with a schedule leaves, with the buffer that was lent for listings.
use Rattle.std.specs.Prelude.{List, Bool, true, false, ℕ, length}
use Rattle.lists.specs.Entries.{over}
use Rattle.election.specs.Commands.{number_of}
use Rattle.election.specs.Onward.{Halt, go_on}
use Rattle.election.specs.declared.System.{System}
use Rattle.layout.specs.Layout.{system_of}
use Rattle.layout.specs.declared.Layout.{Layout}
use Rattle.simulator.specs.declared.rules.Onward.{Onward}
use Rattle.simulator.specs.declared.rules.Stop.{Stop}
use Rattle.simulator.specs.declared.rules.Stop.TheVariants.{Full, End, Refused}

-- where it stopped: whether for want of room; the refusal, 0 for none; the offset; the system; how many bytes were written; the buffer
pub record Gone : Type 0 where
  pub full : Bool
  pub refusal : ℕ
  pub offset : ℕ
  pub system : System
  pub written : ℕ
  pub buffer : List ℕ

-- the listings stand at the front of the buffer, whose other bytes are as they were
abbrev pub leaving : List ℕ → Halt → Gone
leaving buffer h =
    record {
      full = h.full;
      refusal = h.refusal;
      offset = h.offset;
      system = h.system;
      written = length h.listed;
      buffer = over h.listed buffer;
    }

-- going on with the whole buffer as room
abbrev pub gone : Bool → System → ℕ → List ℕ → List ℕ → Gone
gone list s at bytes buffer = leaving buffer (go_on list (length buffer) s at bytes)

-- an answer, with the system and the buffer as they are then
abbrev pub full_of : Stop → Bool
full_of Full = true
full_of End = false
full_of (Refused why) = false

abbrev pub refusal_of : Stop → ℕ
refusal_of Full = 0
refusal_of End = 0
refusal_of (Refused why) = number_of why

abbrev pub said : Onward → Layout → List ℕ → Gone
said r s buffer =
    record {
      full = full_of r.stop;
      refusal = refusal_of r.stop;
      offset = r.at;
      system = system_of s;
      written = r.size;
      buffer = buffer;
    }
