-- Laws of the figure after a schedule.
use mathlib.Core.Path.{◌≡◌, sym, ap, ◌∙◌}
use mathlib.Core.Logic.◌⊎◌.{inl, inr}
use mathlib.Core.List.{List}
use Prim.Native.Nat.{ℕ, ◌≤◌}
use native.Mathlib.Omega.{arith}
use lib.IntN.{pos}
use lib.ListN.{length, take}
use Rattle.election.specs.Commands.{number_of}
use Rattle.election.specs.Schedule.{End, schedule, said}
use Rattle.std.specs.Prelude.{Ok, Err}
use Rattle.election.specs.declared.Refusal.{Refusal}
use Rattle.election.specs.declared.Scheduled.{Scheduled}
use Rattle.election.proofs.Ending.{offset-inside}
use Rattle.decision.proofs.Decisions.{numbered}
use Rattle.text.specs.Wrote.{Wrote}
use Rattle.text.proofs.Parts.{wrote_front}
use Rattle.figures.specs.Figures.{Figured}
use Rattle.figures.specs.declared.Figures.{Figures}
use Rattle.desk.specs.Figure.{figure}
use Rattle.desk.specs.Said.{Read, Unread, reading, on_output, on_error, Says}
use Rattle.desk.specs.Wording.{complaint}
use Rattle.desk.specs.declared.asked.Mode.TheVariants as mode

module _ (given bytes : List ℕ) (r : Scheduled) (e : said r ≡ schedule bytes) where
  -- refused at a byte
  module _ (at : ℕ) (why : Refusal) (h : r.ended ≡ Err (record { at = at; refusal = why })) where
    refusal_is : (schedule bytes).refusal ≡ number_of why
    refusal_is = sym (ap (λ (x : End). x.refusal) e) ∙ rw h

    offset-is : (schedule bytes).offset ≡ at
    offset-is = sym (ap (λ (x : End). x.offset) e) ∙ rw h

    pub stopped_inside : at ≤ length bytes
    stopped_inside = omega (arith, offset-is, offset-inside bytes)

    pub says-refused : (d : ℕ) → reading given ≡ Read bytes → {old line : List ℕ} {n : ℕ} → Wrote (complaint (number_of why) given at bytes) old n line → Says (mode.Figure d) given (record { out = pos 2; text = take n line })
    says-refused d f w = rw f (inl (λ z. numbered why (sym refusal_is ∙ z), rw (refusal_is, offset-is) (ap on_error (wrote_front w))))

  -- accepted
  pub says-figure : (k : ℕ) → r.ended ≡ Ok k → (d : ℕ) → reading given ≡ Read bytes → (f : Figures) → Figured r.system f → {old line : List ℕ} {n : ℕ} → Wrote (figure d r.system f) old n line → Says (mode.Figure d) given (record { out = pos 1; text = take n line })
  says-figure k h d g f q w =
      let zero_is : (schedule bytes).refusal ≡ 0 = sym (ap (λ (x : End). x.refusal) e) ∙ rw h in
      let system-is : (schedule bytes).system ≡ r.system = sym (ap (λ (x : End). x.system) e) in
      rw g (inr (zero_is, (f, rw system-is q, rw system-is (ap on_output (wrote_front w)))))

pub says-no_figure : (d : ℕ) (given why : List ℕ) → reading given ≡ Unread why → Says (mode.Figure d) given (record { out = pos 2; text = why })
says-no_figure d given why e = rw e
