-- Laws of a rehearsal: how it ended is said after its listings.
use mathlib.Core.Path.{◌≡◌, refl, sym, subst, ◌∙◌}
use mathlib.Core.List.{List, ◌++◌}
use Prim.Native.Nat.{ℕ, ◌+◌, ◌≤◌}
use native.Mathlib.Omega.{arith}
use Rattle.std.proofs.Common.{Option}
use Rattle.std.specs.Prelude.{Result, Ok, Err, IfErr}
use Rattle.std.proofs.KnownBytes.{Appends-trans}
use Rattle.std.specs.Io.KnownBytes.{Appends}
use lib.IntN.{pos}
use lib.ListN.{length, take}
use Rattle.calls.specs.Moved.{CutAt, MovedNone, TakenTo}
use Rattle.calls.specs.declared.Cut.{Cut}
use Rattle.calls.proofs.Going.{goes_output}
use Rattle.calls.proofs.Taken.{cut_first, cut_rest}
use Rattle.election.specs.Schedule.{schedule, refusal_of, offset_of}
use Rattle.election.proofs.Ending.{offset-inside}
use Rattle.text.specs.Wrote.{Wrote}
use Rattle.text.proofs.Parts.{wrote_front}
use Rattle.printing.specs.Listings.{listings, Printed}
use Rattle.printing.specs.declared.rules.Listed.{Listed}
use Rattle.desk.specs.Said.{Read, Unread, reading, rehearsed, Says}
use Rattle.desk.specs.Spoken.{SpokenTo}
use Rattle.desk.specs.Wording.{ending}
use Rattle.desk.specs.declared.asked.Mode.TheVariants as mode

module _ (given bytes : List ℕ) where
  in_two : rehearsed given bytes ≡ listings bytes ++ ending (schedule bytes).refusal given (schedule bytes).offset bytes
  unfolding rehearsed
  in_two = refl

  -- a front of the listings is a front of all
  pub listings_part : (n : ℕ) (Holds : List ℕ → Type 0) → CutAt n (listings bytes) Holds → CutAt n (rehearsed given bytes) Holds
  listings_part n Holds t = rw in_two (cut_first n (listings bytes) (ending (schedule bytes).refusal given (schedule bytes).offset bytes) Holds t)

  module _ {listed : Listed} (e : Printed listed bytes) where
    pub place_inside : offset_of listed.ended ≤ length bytes
    place_inside = omega (arith, e.place, offset-inside bytes)

    -- all of the listings, and then how it ended or a front of it
    module _ {old new : List ℕ} {size : ℕ} (w : Wrote (ending (refusal_of listed.ended) given (offset_of listed.ended) bytes) old size new) (a b c : Option (List ℕ)) (first : Appends a b (listings bytes)) where
      all_rehearsed : rehearsed given bytes ≡ listings bytes ++ take size new
      all_rehearsed = in_two ∙ rw (wrote_front w, e.refusal, e.place)

      pub ending_taken : Appends b c (take size new) → Appends a c (rehearsed given bytes)
      ending_taken t = subst (Appends a c) (sym all_rehearsed) (Appends-trans a b c (listings bytes) (take size new) first t)

      pub ending_cut : (n : ℕ) → CutAt n (take size new) (Appends b c) → CutAt (listed.size + n) (rehearsed given bytes) (Appends a c)
      ending_cut n t = subst (λ l. CutAt (listed.size + n) l (Appends a c)) (sym all_rehearsed) (cut_rest a b c (listings bytes) (take size new) listed.size n e.size first t)

-- what is said of a text
pub rehearsal_to : (given bytes : List ℕ) → reading given ≡ Read bytes → {T : Type 0} (r : Result T Cut) (out out' err : Option (List ℕ)) → IfErr r MovedNone → TakenTo r (rehearsed given bytes) (Appends out out')
    → SpokenTo mode.Rehearse given r out out' err err
unfolding rehearsed
rehearsal_to given bytes e (Ok x) out out' err last t = record { saying = record { out = pos 1; text = rehearsed given bytes }; says = rw e; taken = goes_output out out' err (rehearsed given bytes) t; last = last }
rehearsal_to given bytes e (Err cut) out out' err last t =
    record { saying = record { out = pos 1; text = rehearsed given bytes }; says = rw e; taken = (t.0, goes_output out out' err (take cut.at (rehearsed given bytes)) t.1); last = last }

pub says-no_rehearsal : (given why : List ℕ) → reading given ≡ Unread why → Says mode.Rehearse given (record { out = pos 2; text = why })
says-no_rehearsal given why e = rw e
