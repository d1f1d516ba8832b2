-- Only the bytes of the first command matter.
use mathlib.Core.Path.{◌≡◌, refl, ap, ◌∙◌}
use mathlib.Core.List.{List}
use mathlib.Core.Bool.{Bool, true, false, cond}
use Prim.Native.Nat.{ℕ, ◌+◌, ◌*◌, ◌<◌, ◌≤◌}
use native.Mathlib.Omega.{arith}
use lib.Dec.{eqb}
use lib.ListN.{length, get_or, take}
use lib.Seq.{get_or-take, length-take-le}
use borrow.Author.Tests.{lt-ltb, eq-eqb}
use Rattle.election.specs.Commands.{Command, SetUp, Start, Crash, Link, Run, Lose, Report, Rank, decode, operands, ruling, refusal, outcome, command}
use Rattle.election.specs.Sound.{sound}
use Rattle.election.specs.declared.System.{System}
use Rattle.election.proofs.FromOffset.{command-size}

module _ (bytes : List ℕ) (n : ℕ) (h : operands (decode bytes) < n) where
  decode-take : decode (take n bytes) ≡ decode bytes
  unfolding decode
  decode-take =
      rw (get_or-take n bytes 0 0 (omega arith))
      (let b : ℕ = get_or bytes 0 0 in
      go (eqb b 1) (eqb b 2) (eqb b 3) (eqb b 4) (eqb b 5) (eqb b 6) (eqb b 8) (eqb b 9) (λ l. get_or-take n bytes 1 0 (omega (arith, l))) (λ l. get_or-take n bytes 2 0 (omega (arith, l))) (λ l. get_or-take n bytes 3 0 (omega (arith, l))))
    where
      tree : (a b c d e f g k : Bool) → ℕ → ℕ → ℕ → Command
      tree a b c d e f g k x y z = cond a (SetUp false x y) (cond b (Start x) (cond c (Crash x) (cond d (Link x y z) (cond e (Run (x + 256 * y)) (cond f (Lose x y) (cond g (Rank x y) (cond k (SetUp true x y) Report)))))))

      go : (a b c d e f g k : Bool) {x y z x' y' z' : ℕ} → (0 < operands (tree a b c d e f g k x y z) → x' ≡ x) → (1 < operands (tree a b c d e f g k x y z) → y' ≡ y) → (2 < operands (tree a b c d e f g k x y z) → z' ≡ z)
          → tree a b c d e f g k x' y' z' ≡ tree a b c d e f g k x y z
      go true b c d e f g k p q r = rw (p (omega arith), q (omega arith))
      go false true c d e f g k p q r = rw (p (omega arith))
      go false false true d e f g k p q r = rw (p (omega arith))
      go false false false true e f g k p q r = rw (p (omega arith), q (omega arith), r (omega arith))
      go false false false false true f g k p q r = rw (p (omega arith), q (omega arith))
      go false false false false false true g k p q r = rw (p (omega arith), q (omega arith))
      go false false false false false false true k p q r = rw (p (omega arith), q (omega arith))
      go false false false false false false false true p q r = rw (p (omega arith), q (omega arith))
      go false false false false false false false false p q r = refl

  ruling-take : (s : System) → n ≤ length bytes → ruling s (take n bytes) ≡ ruling s bytes
  ruling-take s l =
      rw (
        length-take-le n bytes l,
        get_or-take n bytes 0 0 (omega arith),
        decode-take,
        lt-ltb 0 n (omega arith),
        lt-ltb 0 (length bytes) (omega arith),
        lt-ltb (operands (decode bytes)) n h,
        lt-ltb (operands (decode bytes)) (length bytes) (omega arith),
      )

pub first-only : (s : System) (bytes : List ℕ) → (command s bytes).refusal ≡ 0 → command s (take (command s bytes).length bytes) ≡ command s bytes
unfolding command refusal
first-only s bytes t =
    let (low, high) = command-size s bytes t in
    let n : ℕ = 1 + operands (decode bytes) in
    let size : (command s bytes).length ≡ n = rw (eq-eqb (refusal s bytes) 0 t) in
    ap (λ k. command s (take k bytes)) size
    ∙ (λ i. outcome (cond (sound s) (ruling-take bytes n (omega arith) s (omega arith) i) 15) (decode-take bytes n (omega arith) i) s)
