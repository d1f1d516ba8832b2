-- A schedule by the rules alone: soundness, which every command keeps, is not tested at each, so it is quick to compute.
use mathlib.Core.Path.{◌≡◌}
use mathlib.Core.List.{List, [], ◌∷◌, ◌++◌}
use mathlib.Core.Bool.{true, false}
use Prim.Native.Nat.{ℕ, zero, suc, ◌+◌}
use lib.Dec.{ltb, eqb}
use lib.ListN.{length, drop}
use Rattle.election.specs.Commands.{Command, decode, operands, ruling, perform}
use Rattle.election.specs.Listing.{reported, last_line}
use Rattle.election.specs.Rows.{View, Printed, InLast, Row}
use Rattle.election.specs.Schedule.{End, most_bytes}
use Rattle.election.specs.System.{fresh}
use Rattle.election.specs.declared.System.{System}

-- the end, and the listings on the way
pub record Ruled : Type 0 where
  pub end : End
  pub listed : List ℕ

unfoldable pub ruled : ℕ → System → ℕ → List ℕ → Ruled
ruled zero s at bytes = record { end = record { refusal = 0; offset = at; system = s }; listed = [] }
ruled (suc fuel) s at [] = record { end = record { refusal = 0; offset = at; system = s }; listed = [] }
ruled (suc fuel) s at (b ∷ bytes) =
    let c : Command = decode (b ∷ bytes) in
    let r : ℕ = ruling s (b ∷ bytes) in
    elim (eqb r 0) [
      | true ↦ (let rest : Ruled = ruled fuel (perform c s) (at + (1 + operands c)) (drop (1 + operands c) (b ∷ bytes)) in
          record { end = rest.end; listed = reported s (b ∷ bytes) ++ rest.listed })
      | false ↦ record { end = record { refusal = r; offset = at; system = s }; listed = [] }
    ]

-- from the fresh system
abbrev pub by_rules : List ℕ → Ruled
by_rules bytes = ruled (length bytes) fresh 0 bytes

-- a row, and a table of them, by the rules
abbrev pub ruled_view : View → Ruled → List ℕ
ruled_view Printed r = r.listed ++ last_line r.end
ruled_view (InLast f) r = r.end.refusal ∷ f r.end.system

abbrev pub HoldRuled : List Row → Type 0
HoldRuled [] = Unit {0}
HoldRuled (r ∷ rows) = ((ltb most_bytes (length r.bytes) ≡ false) × (ruled_view r.view (by_rules r.bytes) ≡ r.seen)) × HoldRuled rows
