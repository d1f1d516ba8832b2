-- The tables of specs/Rehearsals.antt and specs/Errors.antt hold: a schedule by the rules alone, which they are computed by, is the schedule.
use mathlib.Core.Path.{◌≡◌, refl, sym, ap, ◌∙◌}
use mathlib.Core.Logic.{◌≢◌}
use mathlib.Core.List.{List, [], ◌∷◌, ◌++◌}
use mathlib.Core.Bool.{true, false}
use Prim.Native.Nat.{ℕ, zero, suc, ◌+◌}
use native.Mathlib.Decide.{ℕ_discrete}
use lib.Dec.{ltb}
use lib.ListN.{length, drop}
use borrow.Author.Tests.{eq-eqb, ne_eqb}
use Rattle.election.specs.Clocked.{elections, refusals, ClocksRehearsed}
use Rattle.election.specs.Commands.{Command, decode, operands, ruling, perform, command}
use Rattle.election.specs.Errors.{errors, prints, NoneOfTheErrors}
use Rattle.election.specs.Listing.{reported, last_line, reports, output}
use Rattle.election.specs.Ranked.{preferences, changes, RanksRehearsed}
use Rattle.election.specs.Rehearsals.{rehearsals, Rehearsed}
use Rattle.election.specs.Rows.{View, Printed, InLast, viewed, Row, Hold}
use Rattle.election.specs.Schedule.{End, follow, most_bytes, schedule}
use Rattle.election.specs.Sound.{sound}
use Rattle.election.specs.System.{fresh}
use Rattle.election.specs.declared.System.{System}
use Rattle.election.proofs.Computed.{errors-ruled, prints-ruled, spelled_out, rehearsals-ruled, preferences-ruled, changes-ruled, elections-ruled, refusals-ruled}
use Rattle.election.proofs.Follow.{follow-yes, follow-stops, reports-yes, reports-stops}
use Rattle.election.proofs.Followed.{rules_refusal, rules_performs, rules_length}
use Rattle.election.proofs.InitialSound.{fresh-sound}
use Rattle.election.proofs.KeepsSound.{keeps_sound}
use Rattle.election.proofs.Ruled.{Ruled, ruled, by_rules, ruled_view, HoldRuled}

-- one command, accepted and refused
module _ (fuel : ℕ) (s : System) (at b : ℕ) (bytes : List ℕ) where
  abbrev c : Command
  c = decode (b ∷ bytes)

  -- what is ruled after it
  abbrev rest : Ruled
  rest = ruled fuel (perform c s) (at + (1 + operands c)) (drop (1 + operands c) (b ∷ bytes))

  ruled_yes : ruling s (b ∷ bytes) ≡ 0 → ruled (suc fuel) s at (b ∷ bytes) ≡ record { end = rest.end; listed = reported s (b ∷ bytes) ++ rest.listed }
  unfolding ruled
  ruled_yes t = rw (eq-eqb (ruling s (b ∷ bytes)) 0 t, ruled)

  ruled_no : ruling s (b ∷ bytes) ≢ 0 → ruled (suc fuel) s at (b ∷ bytes) ≡ record { end = record { refusal = ruling s (b ∷ bytes); offset = at; system = s }; listed = [] }
  unfolding ruled
  ruled_no ne = rw (ne_eqb (ruling s (b ∷ bytes)) 0 ne, ruled)

-- it is what the schedule gives
abbrev Same : ℕ → System → ℕ → List ℕ → Type 0
Same fuel s at bytes = (follow fuel s at bytes ≡ (ruled fuel s at bytes).end) × (reports fuel s bytes ≡ (ruled fuel s at bytes).listed)

same : (fuel : ℕ) (s : System) (at : ℕ) (bytes : List ℕ) → sound s ≡ true → Same fuel s at bytes
unfolding follow reports ruled
same zero s at bytes h = (refl, refl)
same (suc fuel) s at [] h = (refl, refl)
same (suc fuel) s at (b ∷ bytes) h = go (ℕ_discrete (ruling s (b ∷ bytes)) 0) (same fuel)
  where
    go : Dec (ruling s (b ∷ bytes) ≡ 0) → ((x : System) (n : ℕ) (more : List ℕ) → sound x ≡ true → Same fuel x n more) → Same (suc fuel) s at (b ∷ bytes)
    go (yes t) later =
        let o : ℕ = 1 + operands (decode (b ∷ bytes)) in
        let x : System = perform (decode (b ∷ bytes)) s in
        let t' : (command s (b ∷ bytes)).refusal ≡ 0 = rules_refusal s (b ∷ bytes) h ∙ t in
        let y : (command s (b ∷ bytes)).system ≡ x = rules_performs s (b ∷ bytes) h t in
        let l : (command s (b ∷ bytes)).length ≡ o = rules_length s (b ∷ bytes) h t in
        let (a, r) = later x (at + o) (drop o (b ∷ bytes)) (ap sound (sym y) ∙ keeps_sound s (b ∷ bytes) h) in (
          follow-yes fuel s at b bytes t' ∙ cc (y, l, a, ruled_yes fuel s at b bytes t),
          reports-yes fuel s b bytes t' ∙ cc (y, l, r, ruled_yes fuel s at b bytes t),
        )
    go (no ne) later =
        let e : (command s (b ∷ bytes)).refusal ≡ ruling s (b ∷ bytes) = rules_refusal s (b ∷ bytes) h in
        let ne' : (command s (b ∷ bytes)).refusal ≢ 0 = λ z. ne (sym e ∙ z) in (
          follow-stops fuel s at b bytes ne' ∙ ap (λ k. record { refusal = k; offset = at; system = s }) e ∙ sym (ap (λ (z : Ruled). z.end) (ruled_no fuel s at b bytes ne)),
          reports-stops fuel s b bytes ne' ∙ sym (ap (λ (z : Ruled). z.listed) (ruled_no fuel s at b bytes ne)),
        )

-- a schedule that is not too long
module _ (bytes : List ℕ) (fits : ltb most_bytes (length bytes) ≡ false) where
  pub schedule-ruled : schedule bytes ≡ (by_rules bytes).end
  unfolding schedule
  schedule-ruled = rw fits (same (length bytes) fresh 0 bytes fresh-sound).0

  pub output-ruled : output bytes ≡ (by_rules bytes).listed ++ last_line (by_rules bytes).end
  unfolding output
  output-ruled = rw fits (cc ((same (length bytes) fresh 0 bytes fresh-sound).1, schedule-ruled))

-- a row, and a table of them
viewed-ruled : (v : View) (bytes : List ℕ) → ltb most_bytes (length bytes) ≡ false → viewed v bytes ≡ ruled_view v (by_rules bytes)
viewed-ruled Printed bytes fits = output-ruled bytes fits
viewed-ruled (InLast f) bytes fits = ap (λ (e : End). e.refusal ∷ f e.system) (schedule-ruled bytes fits)

hold_ruled : (rows : List Row) → HoldRuled rows → Hold rows
hold_ruled [] h = tt
hold_ruled (r ∷ rows) h = (viewed-ruled r.view r.bytes h.0.0 ∙ h.0.1, hold_ruled rows h.1)

pub errors-ruled_out : NoneOfTheErrors
errors-ruled_out =
    let (dark, decimals, none, two, clocks, eight) = spelled_out in
    (hold_ruled errors errors-ruled, hold_ruled prints prints-ruled, dark, decimals, none, two, clocks, eight)

pub rehearsed : Rehearsed
rehearsed = hold_ruled rehearsals rehearsals-ruled

pub ranks-rehearsed : RanksRehearsed
ranks-rehearsed = (hold_ruled preferences preferences-ruled, hold_ruled changes changes-ruled)

pub clocks-rehearsed : ClocksRehearsed
clocks-rehearsed = (hold_ruled elections elections-ruled, hold_ruled refusals refusals-ruled)
