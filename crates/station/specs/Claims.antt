-- What is claimed of the candidate order, for all counts, ranks and numbers; the theorems are in proofs/.
use Rattle.std.specs.Prelude.{◌≡◌, ◌⊎◌, ◌≢◌, ◌↔◌, true, false, ℕ, ◌<◌, ◌≤◌}
use Rattle.station.specs.Order.{before}

-- by (known start count, rank, number), smaller first
abbrev pub Lexicographic : Type 0
Lexicographic =
    (c r p d t q : ℕ) → (before c r p d t q ≡ true) ↔ ((c < d) ⊎ ((c ≡ d) × ((r < t) ⊎ ((r ≡ t) × (p < q)))))

-- with equal ranks by (known start count, number)
abbrev pub RanksEqual : Type 0
RanksEqual = (c d r p q : ℕ) → (before c r p d r q ≡ true) ↔ ((c < d) ⊎ ((c ≡ d) × (p < q)))

-- strict: never both ways, so never a candidate before itself
abbrev pub Strict : Type 0
Strict = (c r p d t q : ℕ) → before c r p d t q ≡ true → before d t q c r p ≡ false

abbrev pub Irreflexive : Type 0
Irreflexive = (c r p : ℕ) → before c r p c r p ≡ false

-- total: of two different stations one is before the other, whatever their counts and ranks
abbrev pub Total : Type 0
Total = (c r p d t q : ℕ) → p ≢ q → (before c r p d t q ≡ true) ⊎ (before d t q c r p ≡ true)

-- transitive
abbrev pub Transitive : Type 0
Transitive =
    (c r p d t q f u w : ℕ) → before c r p d t q ≡ true → before d t q f u w ≡ true → before c r p f u w ≡ true

-- monotone in the counts: a candidate stays before another if its own count falls or stays, and the other's rises or stays
abbrev pub Monotone : Type 0
Monotone =
    (c c' r p d d' t q : ℕ) → c' ≤ c → d ≤ d' → before c r p d t q ≡ true → before c' r p d' t q ≡ true
