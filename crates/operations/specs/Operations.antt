-- The station operations of a head with flash ("Station operation" of document 01): the refusals in their order, then the rule.
use Rattle.std.specs.Prelude.{List, [], ◌∷◌, Bool, false, cond, not, ◌&&◌, ℕ, eqb, ltb, Result, Ok, Err}
use Rattle.lists.specs.First.{first_failed}
use Rattle.fit.specs.Fit.{fit_start, fit_crash, fit_hear, fit_expire, fit_slot}
use Rattle.station.specs.Limits.{most_starts}
use Rattle.station.specs.Rules.{started, crashed, heard, expired, slotted, sends}
use Rattle.operations.specs.declared.Refusal.{Refusal}
use Rattle.operations.specs.declared.Refusal.TheVariants.{Up, WornOut, Unfit}
use Rattle.station.specs.declared.Station.{Station}

-- what an operation gives: the refusal, 0 for none; whether LEADER is sent; the station
pub record Operation : Type 0 where
  pub refusal : ℕ
  pub sending : Bool
  pub station : Station

-- the rule's station; refused, the station as it was and nothing sent
abbrev pub operation : ℕ → Bool → Station → Station → Operation
operation refusal sending next s =
    record { refusal = refusal; sending = eqb refusal 0 && sending; station = cond (eqb refusal 0) next s }

unfoldable pub starting : ℕ → ℕ → ℕ → ℕ → Station → Operation
starting me n period tick s =
    operation
    (first_failed ((fit_start me n period tick s, 15) ∷ (not s.up, 8) ∷ (ltb s.incarnation most_starts, 10) ∷ []))
    false
    (started me n period tick s)
    s

unfoldable pub crashing : ℕ → ℕ → ℕ → ℕ → Station → Operation
crashing me n period tick s = operation (first_failed ((fit_crash me n period tick s, 15) ∷ [])) false (crashed s) s

unfoldable pub hearing : List ℕ → ℕ → ℕ → ℕ → ℕ → ℕ → List ℕ → Station → Operation
hearing ranks me n period tick q v s =
    operation (first_failed ((fit_hear ranks me n period tick q v s, 15) ∷ [])) false (heard ranks me q v tick s) s

unfoldable pub expiring : ℕ → ℕ → ℕ → ℕ → Station → Operation
expiring me n period tick s = operation (first_failed ((fit_expire me n period tick s, 15) ∷ [])) false (expired me s) s

unfoldable pub slotting : List ℕ → ℕ → ℕ → ℕ → ℕ → Station → Operation
slotting ranks me n period tick s =
    operation (first_failed ((fit_slot ranks me n period tick s, 15) ∷ [])) (sends me s) (slotted period tick s) s

-- document 01's number of a refusal
abbrev pub number_of : Refusal → ℕ
number_of Up = 8
number_of WornOut = 10
number_of Unfit = 15

-- an answer, with the station as it is then
abbrev pub done : Result (Unit {0}) Refusal → Station → Operation
done (Ok answer) s = record { refusal = 0; sending = false; station = s }
done (Err why) s = record { refusal = number_of why; sending = false; station = s }

-- .. where it says whether LEADER is sent
abbrev pub sent : Result Bool Refusal → Station → Operation
sent (Ok sending) s = record { refusal = 0; sending = sending; station = s }
sent (Err why) s = record { refusal = number_of why; sending = false; station = s }
