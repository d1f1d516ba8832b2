-- A schedule: commands in order from the fresh system, up to the first refusal.
use Rattle.std.specs.Prelude as std
use Rattle.std.specs.Prelude.{List, [], ◌∷◌, true, false, cond, ℕ, zero, suc, ◌+◌, Ok, Err, length, drop, ltb, eqb}
use Rattle.election.specs.Commands.{Result, command, number_of}
use Rattle.election.specs.System.{fresh}
use Rattle.election.specs.declared.Scheduled.{Scheduled}
use Rattle.election.specs.declared.Stopped.{Stopped}
use Rattle.election.specs.declared.System.{System}

-- where a schedule ended: the refusal, 0 for none; the offset, which is the schedule's length where nothing was refused; the system there
pub record End : Type 0 where
  pub refusal : ℕ
  pub offset : ℕ
  pub system : System

-- the commands of the bytes, from a system and an offset; a command has at least one byte, so there are at most `fuel` of them
unfoldable pub follow : ℕ → System → ℕ → List ℕ → End
follow zero s at bytes = record { refusal = 0; offset = at; system = s }
follow (suc fuel) s at [] = record { refusal = 0; offset = at; system = s }
follow (suc fuel) s at (b ∷ bytes) =
    let r : Result = command s (b ∷ bytes) in
    elim (eqb r.refusal 0) [
      | true ↦ follow fuel r.system (at + r.length) (drop r.length (b ∷ bytes))
      | false ↦ record { refusal = r.refusal; offset = at; system = s }
    ]

abbrev pub most_bytes : ℕ
most_bytes = 65536

-- above 65,536 bytes nothing is done
unfoldable pub schedule : List ℕ → End
schedule bytes =
    let end : End = follow (length bytes) fresh 0 bytes in
    cond (ltb most_bytes (length bytes)) (record { refusal = 21; offset = 0; system = fresh }) end

-- number and offset of an answer
abbrev pub refusal_of : std.Result ℕ Stopped → ℕ
refusal_of (Ok size) = 0
refusal_of (Err s) = number_of s.refusal

abbrev pub offset_of : std.Result ℕ Stopped → ℕ
offset_of (Ok size) = size
offset_of (Err s) = s.at

abbrev pub said : Scheduled → End
said r = record { refusal = refusal_of r.ended; offset = offset_of r.ended; system = r.system }
