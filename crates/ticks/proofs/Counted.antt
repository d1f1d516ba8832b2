-- A sent count, and what is added to it, are small enough for their sum.
use mathlib.Core.Path.{subst, sym}
use Prim.Native.Nat.{ℕ, ◌+◌, ◌<◌, ◌≤◌}
use native.Mathlib.Omega.{arith}
use lib.ListN.{get_or}
use Rattle.layout.specs.declared.Layout.{Layout}
use Rattle.election.specs.declared.System.{System}
use Rattle.ticks.proofs.Chances.{chances_n, chances_sent}
use Rattle.ticks.specs.Chances.{Chances}

pub chances_counted : (n now : ℕ) (s₀ : System) (until : ℕ) (s : Layout) (p k : ℕ) → Chances n now s₀ until s (p + 1) p p k → p < n → (1 ≤ s.n) × (s.n ≤ 8) × (get_or s.sent p 0 ≤ 7000000)
chances_counted n now s₀ until s p k a h =
    let same = chances_n n now s₀ until s p p k a h in
    (omega (arith, same, a.part.mid.size, a.part.mid.n-low), omega (arith, same, a.part.mid.size, a.part.mid.n-high), subst (λ (j : ℕ). j ≤ 7000000) (sym (chances_sent n now s₀ until s p p k a h)) (a.part.mid.sent-low p h))
