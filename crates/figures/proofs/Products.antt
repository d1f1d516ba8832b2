-- The product of the bound fits: of a number of heads below 256, and of numbers of ticks below 65536.
use Prim.Native.Nat.{ℕ, ◌*◌, ◌≤◌}
use native.Mathlib.Nat.{mul-le-mul}

pub two_factors : (a b : ℕ) → a ≤ 254 → b ≤ 65534 → a * b ≤ 254 * 65534
two_factors a b x y = mul-le-mul x y

pub three-factors : (a b c : ℕ) → a ≤ 254 → b ≤ 65534 → c ≤ 65533 → a * b * c ≤ 254 * 65534 * 65533
three-factors a b c x y z = mul-le-mul (two_factors a b x y) z
