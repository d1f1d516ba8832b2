-- The entries one by one.
use mathlib.Core.Path.{◌≡◌, refl}
use Prim.Native.Nat.{ℕ, zero, suc, ◌<◌}
use native.Mathlib.Omega.{arith}

-- what holds at each of ten numbers holds of every number below ten
pub ten : {A : Type 0} (k : ℕ) → k < 10 → (k ≡ 0 → A) → (k ≡ 1 → A) → (k ≡ 2 → A) → (k ≡ 3 → A) → (k ≡ 4 → A) → (k ≡ 5 → A) → (k ≡ 6 → A) → (k ≡ 7 → A) → (k ≡ 8 → A) → (k ≡ 9 → A) → A
ten zero h a b c d e f g i j l = a refl
ten (suc zero) h a b c d e f g i j l = b refl
ten (suc (suc zero)) h a b c d e f g i j l = c refl
ten (suc (suc (suc zero))) h a b c d e f g i j l = d refl
ten (suc (suc (suc (suc zero)))) h a b c d e f g i j l = e refl
ten (suc (suc (suc (suc (suc zero))))) h a b c d e f g i j l = f refl
ten (suc (suc (suc (suc (suc (suc zero)))))) h a b c d e f g i j l = g refl
ten (suc (suc (suc (suc (suc (suc (suc zero))))))) h a b c d e f g i j l = i refl
ten (suc (suc (suc (suc (suc (suc (suc (suc zero)))))))) h a b c d e f g i j l = j refl
ten (suc (suc (suc (suc (suc (suc (suc (suc (suc zero))))))))) h a b c d e f g i j l = l refl
ten (suc (suc (suc (suc (suc (suc (suc (suc (suc (suc k)))))))))) h a b c d e f g i j l = absurd (omega arith)
