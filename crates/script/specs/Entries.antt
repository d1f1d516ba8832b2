-- The words of the commands: one table.
use Rattle.std.specs.Prelude.{List, [], ◌∷◌, Bool, true, false, cond, ◌&&◌, ℕ, zero, suc, ◌+◌, ◌-◌, eqb, leb, get_or}
use Prim.Native.String.{String}
use Rattle.text.specs.Quoted.{text}
use Rattle.station.specs.Limits.{last_tick}
use Rattle.election.specs.Commands.{Command, SetUp, Start, Crash, Link, Run, Lose, Report, Rank}
use Rattle.script.specs.Split.{words}

-- a command as it is written: its words; how many numbers stand behind them, and in which range; the commands that it makes of them
pub record Entry : Type 0 where
  pub name : List ℕ
  pub numbers : ℕ
  pub least : ℕ
  pub most : ℕ
  pub makes : ℕ → ℕ → ℕ → List Command

-- the ticks of the longest run command
abbrev pub longest_run : ℕ
longest_run = 65535

-- a run of many ticks: as many run commands as it needs, at most `fuel`
unfoldable pub runs : ℕ → ℕ → List Command
runs zero t = []
runs (suc fuel) t = cond (leb t longest_run) (Run t ∷ []) (Run longest_run ∷ runs fuel (t - longest_run))

-- enough for the ticks that there are
abbrev pub most_runs : ℕ
most_runs = 16

-- numbers of a byte each, and one command
abbrev pub plain : String → ℕ → (ℕ → ℕ → ℕ → Command) → Entry
plain name numbers makes = record { name = text name; numbers = numbers; least = 0; most = 255; makes = λ x y z. makes x y z ∷ [] }

-- where one name begins with another, the longer one stands first
abbrev pub table : List Entry
table =
    plain "set up clocks" 2 (λ n period _. SetUp true n period)
    ∷ plain "set up" 2 (λ n period _. SetUp false n period)
    ∷ plain "start" 1 (λ p _ _. Start p)
    ∷ plain "crash" 1 (λ p _ _. Crash p)
    ∷ plain "link" 3 (λ p q d. Link p q d)
    ∷ plain "cut" 2 (λ p q _. Link p q 0)
    ∷ record { name = text "run"; numbers = 1; least = 1; most = last_tick; makes = λ t _ _. runs most_runs t }
    ∷ plain "lose" 2 (λ p q _. Lose p q)
    ∷ plain "report" 0 (λ _ _ _. Report)
    ∷ plain "rank" 2 (λ p r _. Rank p r)
    ∷ []

-- how many entries there are
abbrev pub entries : ℕ
entries = 10

abbrev pub none : Entry
none = record { name = []; numbers = 0; least = 0; most = 0; makes = λ _ _ _. [] }

abbrev pub entry : ℕ → Entry
entry k = get_or table k none

-- two words are the same
unfoldable pub same : List ℕ → List ℕ → Bool
same [] [] = true
same [] (d ∷ ds) = false
same (c ∷ cs) [] = false
same (c ∷ cs) (d ∷ ds) = eqb c d && same cs ds

-- the second words begin with the first
unfoldable pub begins : List (List ℕ) → List (List ℕ) → Bool
begins [] ws = true
begins (n ∷ ns) [] = false
begins (n ∷ ns) (w ∷ ws) = same n w && begins ns ws

-- the first of the entries from k on whose words the words of a line begin with; where there is none, the number after the last
unfoldable pub first_from : ℕ → ℕ → List (List ℕ) → ℕ
first_from zero k ws = k
first_from (suc left) k ws = cond (begins (words (entry k).name) ws) k (first_from left (k + 1) ws)

abbrev pub chosen : List (List ℕ) → ℕ
chosen ws = first_from entries 0 ws
