-- Numbers as text: decimal digits, a word with a number, counts with commas between them.
use Rattle.std.specs.Prelude.{List, [], ◌∷◌, ◌++◌, cond, ℕ, zero, suc, ◌+◌, ◌/◌, ◌%◌, get_or, ltb, eqb}
use Rattle.lists.specs.Join.{join_to}

-- decimal digits of a number below 10^fuel
unfoldable pub digits : ℕ → ℕ → List ℕ
digits zero x = []
digits (suc fuel) x =
    let high : List ℕ = digits fuel (x / 10) in
    cond (ltb x 10) ((48 + x) ∷ []) (high ++ ((48 + x % 10) ∷ []))

abbrev pub decimal : ℕ → List ℕ
decimal x = digits 20 x

abbrev pub newline : List ℕ
newline = 0x0a ∷ []

-- a word and a number
abbrev pub named : List ℕ → ℕ → List ℕ
named word x = word ++ decimal x

-- two of these
abbrev pub pair : List ℕ → ℕ → List ℕ → ℕ → List ℕ
pair a x b y = named a x ++ named b y

-- the count at k, after a comma unless it is the first
unfoldable pub count_of : ℕ → ℕ → List ℕ
count_of k x = cond (eqb k 0) [] (44 ∷ []) ++ decimal x

-- the first n counts, with commas between them
unfoldable pub vector : ℕ → List ℕ → List ℕ
vector n v = join_to n (λ k. count_of k (get_or v k 0))
