-- The leader that demand 3 and Paper 7 speak of: whenever a head is up there is one, and only one, and so for every set of heads that isn't empty; with
-- equal ranks that of demand 3 is document 01's.
use Rattle.std.specs.Prelude.{◌≡◌, ◌⊎◌, ◌≢◌, ◌↔◌, List, Bool, true, false, ℕ, ◌<◌, ◌≤◌}
use Rattle.election.specs.Commands.{Command}
use Rattle.election.specs.History.{starts, is_up_after, rank_of}
use Rattle.settling.specs.Settling.{First, SettlingOf}
use Rattle.settling.specs.Steady.{FirstAmong}

-- whenever a head is up there is one
abbrev pub LeaderExists : Type 0
LeaderExists = (n : ℕ) (cs : List Command) (p : ℕ) → 1 ≤ p → p ≤ n → is_up_after false p cs ≡ true → (L : ℕ) × First n cs L

-- and there are no two
abbrev pub OneLeader : Type 0
OneLeader = (n : ℕ) (cs : List Command) (L K : ℕ) → First n cs L → First n cs K → L ≡ K

-- and so of the first of a set of heads
abbrev pub FirstExists : Type 0
FirstExists = (S : ℕ → Bool) (n : ℕ) (cs : List Command) (p : ℕ) → 1 ≤ p → p ≤ n → S p ≡ true → (L : ℕ) × FirstAmong S n cs L

abbrev pub OneFirst : Type 0
OneFirst = (S : ℕ → Bool) (n : ℕ) (cs : List Command) (L K : ℕ) → FirstAmong S n cs L → FirstAmong S n cs K → L ≡ K

-- document 01's leader: the up head with fewest starts, the lowest number on a tie
pub record Fewest (n : ℕ) (cs : List Command) (L : ℕ) : Type 0 where
  pub low : 1 ≤ L
  pub high : L ≤ n
  pub is_up : is_up_after false L cs ≡ true
  pub fewest : (p : ℕ) → 1 ≤ p → p ≤ n → is_up_after false p cs ≡ true → p ≢ L → (starts L cs < starts p cs) ⊎ ((starts L cs ≡ starts p cs) × (L < p))

-- all up heads have the same rank
abbrev pub EqualRanks : ℕ → List Command → Type 0
EqualRanks n cs =
    (p q : ℕ) → 1 ≤ p → p ≤ n → is_up_after false p cs ≡ true → 1 ≤ q → q ≤ n → is_up_after false q cs ≡ true → rank_of 0 p cs ≡ rank_of 0 q cs

-- then the first of the up heads is document 01's leader
abbrev pub FirstIsFewest : Type 0
FirstIsFewest = (n : ℕ) (cs : List Command) (L : ℕ) → EqualRanks n cs → First n cs L ↔ Fewest n cs L

-- and demand 3 holds as document 01 says it
abbrev pub SettlingByStarts : Type 0
SettlingByStarts = SettlingOf (λ n cs L. EqualRanks n cs × Fewest n cs L)
