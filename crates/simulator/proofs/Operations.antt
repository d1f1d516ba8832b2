-- What the operations answer: the first command alone, turned down or done by going on with its bytes, and a schedule.
use mathlib.Core.Path.{◌≡◌, sym, ap, ◌∙◌}
use mathlib.Core.Logic.{◌≢◌}
use mathlib.Core.List.{List, [], ◌∷◌}
use mathlib.Core.Bool.{false, true≢false}
use Prim.Native.Nat.{ℕ, ◌+◌, ◌<◌, ◌≤◌}
use native.Mathlib.Omega.{arith}
use lib.ListN.{length, get_or, take}
use lib.Seq.{length-take-le}
use borrow.Author.Tests.{lt-ltb, eq-eqb, ne_eqb}
use Rattle.election.specs.Commands.{Result, decode, operands, refusal, command}
use Rattle.election.specs.Onward.{Halt, after, go_on}
use Rattle.election.specs.Schedule.{most_bytes, schedule}
use Rattle.election.specs.System.{fresh}
use Rattle.election.specs.declared.System.{System}
use Rattle.election.proofs.FirstOnly.{first-only}
use Rattle.election.proofs.FromOffset.{command-size}
use Rattle.election.proofs.GoingOn.{go_end, go_after, unlisted_end, rest-schedule}
use Rattle.layout.specs.Layout.{system_of}
use Rattle.layout.specs.declared.Layout.{Layout}
use Rattle.simulator.specs.Gone.{Gone, gone, said, refusal_of}
use Rattle.simulator.specs.declared.rules.Onward.{Onward}
use Rattle.decision.proofs.Bytes.{width_of}

-- turned down, the system is as it was
pub turned_away : (s : System) (bytes : List ℕ) (number : ℕ) → (command s bytes).refusal ≡ number → number ≢ 0 → record { refusal = number; length = 0; system = s } ≡ command s bytes
unfolding command
turned_away s bytes number e ne = rw (e, ne_eqb number 0 ne)

module _ (s : System) (bytes : List ℕ) (t : (command s bytes).refusal ≡ 0) (w : ℕ) (we : w ≡ operands (decode (get_or bytes 0 0 ∷ []))) where
  size_is : (command s bytes).length ≡ 1 + w
  unfolding command
  size_is = rw (eq-eqb (refusal s bytes) 0 t) (ap (λ n. 1 + n) (width_of bytes ∙ sym we))

  -- all its bytes are there
  pub inside : 1 + w ≤ length bytes
  inside = omega (arith, command-size s bytes t, size_is)

  alone : command s (take (1 + w) bytes) ≡ command s bytes
  alone = ap (λ n. command s (take n bytes)) (sym size_is) ∙ first-only s bytes t

  -- going on with its bytes does it, and nothing else
  gone-alone : (room : ℕ) → (go_on false room s 0 (take (1 + w) bytes)).system ≡ (command s bytes).system
  gone-alone room =
      let front : List ℕ = take (1 + w) bytes in
      let size : length front ≡ 1 + w = length-take-le (1 + w) bytes inside in
      let long : (command s front).length ≡ 1 + w = ap (λ (r : Result). r.length) alone ∙ size_is in
      ap (λ (h : Halt). h.system)
      (go_after false room s 0 front (ap (λ (r : Result). r.refusal) alone ∙ t) (λ e. absurd (true≢false (sym e)))
      ∙ ap (after []) (go_end false _ (command s front).system (0 + (command s front).length) front (omega (arith, size, long))))
      ∙ ap (λ (r : Result). r.system) alone

  pub done : (buffer left : List ℕ) (l l' : Layout) (r : Onward) → system_of l ≡ s → said r l' left ≡ gone false (system_of l) 0 (take (1 + w) bytes) buffer
      → record { refusal = 0; length = 1 + w; system = system_of l' } ≡ command s bytes
  done buffer left l l' r e g = λ i. record { refusal = sym t i; length = sym size_is i; system = (ap (λ (x : Gone). x.system) (rw e at g) ∙ gone-alone (length buffer)) i }

-- above the most bytes nothing is done
pub too_long : (bytes : List ℕ) → most_bytes < length bytes → schedule bytes ≡ record { refusal = 21; offset = 0; system = fresh }
unfolding schedule
too_long bytes h = rw (lt-ltb most_bytes (length bytes) h)

-- otherwise going on from the fresh system, asked for no listings, comes to the schedule's end
pub gone-through : (bytes buffer left : List ℕ) (l l' : Layout) (r : Onward) → length bytes ≤ most_bytes → system_of l ≡ fresh → said r l' left ≡ gone false (system_of l) 0 bytes buffer
    → record { refusal = refusal_of r.stop; offset = r.at; system = system_of l' } ≡ schedule bytes
gone-through bytes buffer left l l' r h e g =
    ap (λ (x : Gone). record { refusal = x.refusal; offset = x.offset; system = x.system }) (rw e at g)
    ∙ unlisted_end (length buffer) fresh 0 bytes
    ∙ rest-schedule bytes h
