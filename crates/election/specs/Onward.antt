-- Going on with a schedule, from a system and an offset, with room for a number of bytes of listings.
use Rattle.std.specs.Prelude.{◌≡◌, List, [], ◌∷◌, ◌++◌, Bool, true, false, cond, ◌&&◌, ℕ, zero, suc, ◌+◌, ◌-◌, ◌≤◌, length, get_or, drop, ltb, eqb}
use Rattle.election.specs.Commands.{Result, command}
use Rattle.election.specs.Listing.{listing, longest_listing, last_line, output}
use Rattle.election.specs.Schedule.{End, most_bytes}
use Rattle.election.specs.System.{fresh}
use Rattle.election.specs.declared.System.{System}

-- where it stops: whether for want of room; the refusal, 0 for none; the offset; the system there; what was listed on the way
pub record Halt : Type 0 where
  pub full : Bool
  pub refusal : ℕ
  pub offset : ℕ
  pub system : System
  pub listed : List ℕ

-- .. with a text listed before
abbrev pub after : List ℕ → Halt → Halt
after text h = record { full = h.full; refusal = h.refusal; offset = h.offset; system = h.system; listed = text ++ h.listed }

-- the first command of the bytes is a report that is to be listed
abbrev pub to_list : Bool → List ℕ → Bool
to_list list bytes = list && eqb (get_or bytes 0 0) 7

-- the commands of the bytes, at most `fuel` of them, to the end or the refusal. Asked to list, an accepted report adds its listing; where
-- the room left is not enough for every listing, it is the stop, and is still to be done.
unfoldable pub onward : Bool → ℕ → ℕ → System → ℕ → List ℕ → Halt
onward list zero room s at bytes = record { full = false; refusal = 0; offset = at; system = s; listed = [] }
onward list (suc fuel) room s at [] = record { full = false; refusal = 0; offset = at; system = s; listed = [] }
onward list (suc fuel) room s at (b ∷ bytes) =
    let r : Result = command s (b ∷ bytes) in
    let text : List ℕ = cond (to_list list (b ∷ bytes)) (listing s) [] in
    elim (eqb r.refusal 0) [
      | true ↦ elim (to_list list (b ∷ bytes) && ltb room longest_listing) [
        | true ↦ record { full = true; refusal = 0; offset = at; system = s; listed = [] }
        | false ↦ after text (onward list fuel (room - length text) r.system (at + r.length) (drop r.length (b ∷ bytes)))
      ]
      | false ↦ record { full = false; refusal = r.refusal; offset = at; system = s; listed = [] }
    ]

-- going on with a schedule from an offset in it
abbrev pub go_on : Bool → ℕ → System → ℕ → List ℕ → Halt
go_on list room s at bytes = onward list (length bytes) room s at (drop at bytes)

-- a stop that is not for want of room, as the end of the schedule
abbrev pub ending : Halt → End
ending h = record { refusal = h.refusal; offset = h.offset; system = h.system }

-- what going on again and again prints, each time with the same room: what was listed, and at last the last line
unfoldable pub repeated : ℕ → ℕ → System → ℕ → List ℕ → List ℕ
repeated zero room s at bytes = []
repeated (suc fuel) room s at bytes =
    let h : Halt = go_on true room s at bytes in
    elim h.full [
      | true ↦ h.listed ++ repeated fuel room h.system h.offset bytes
      | false ↦ h.listed ++ last_line (ending h)
    ]

-- with room for a listing, going on again and again from the start prints what the rehearsal program prints
abbrev pub Repeats : Type 0
Repeats = (room : ℕ) (bytes : List ℕ) → longest_listing ≤ room → length bytes ≤ most_bytes → repeated (suc (length bytes)) room fresh 0 bytes ≡ output bytes
