-- Tests in order, each with a number: which one is the first to fail.
use Rattle.std.specs.Prelude.{List, [], ◌∷◌, Bool, cond, ℕ}

-- the number of the first test that fails, or 0 if none does
abbrev pub first_failed : List (Bool × ℕ) → ℕ
first_failed [] = 0
first_failed (t ∷ ts) = cond t.0 (first_failed ts) t.1
