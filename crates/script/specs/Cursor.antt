-- What the code finds at a place of a text: the next word, an entry's words, the entry.
use Rattle.std.specs.Prelude.{◌≡◌, List, [], ◌∷◌, true, false, ℕ, suc, Option, Some, None, ◌-◌, ◌<◌, ◌≤◌, length, take, drop, Result, Ok, Err}
use Rattle.script.specs.Decimals.{shift, numbers}
use Rattle.script.specs.Entries.{entries, entry, begins, chosen}
use Rattle.script.specs.Split.{words}
use Rattle.script.specs.declared.Why.{Why}
use Rattle.script.specs.declared.rules.finding.Found.{Found}
use Rattle.script.specs.declared.rules.numbers.First.{First}
use Rattle.script.specs.declared.rules.words.Span.{Span}

-- the next word from a place on stands from `start` to `end`; where these are the same there is none
pub record Next (text : List ℕ) (at start end : ℕ) : Type 0 where
  pub from : at ≤ start
  pub order : start ≤ end
  pub within : end ≤ length text
  pub none : start ≡ end → words (drop at text) ≡ []
  pub one : start < end → words (drop at text) ≡ take (end - start) (drop start text) ∷ words (drop end text)

abbrev pub NextWord : List ℕ → ℕ → Option Span → Type 0
NextWord text at (Some w) = Next text at w.start w.end × (w.start < w.end)
NextWord text at None = words (drop at text) ≡ []

-- the place behind the words of a name, with which a text begins; or that it doesn't
pub record Behind (name text : List ℕ) (at : ℕ) : Type 0 where
  pub is : begins (words name) (words text) ≡ true
  pub within : at ≤ length text
  pub behind : words (drop at text) ≡ drop (length (words name)) (words text)

abbrev pub Beginning : List ℕ → List ℕ → Option ℕ → Type 0
Beginning name text (Some at) = Behind name text at
Beginning name text None = begins (words name) (words text) ≡ false

-- the entry that the words of a text begin with, and the place behind its words; or that there is none
pub record Chose (text : List ℕ) (k at : ℕ) : Type 0 where
  pub is : k ≡ chosen (words text)
  pub known : k < entries
  pub within : at ≤ length text
  pub behind : words (drop at text) ≡ drop (length (words (entry k).name)) (words text)

abbrev pub Choice : List ℕ → Option Found → Type 0
Choice text (Some f) = Chose text f.entry f.at
Choice text None = chosen (words text) ≡ entries

-- the first of some numbers, and how the others go on behind it; or what is wrong with it
abbrev pub going_on : ℕ → ℕ → List ℕ → ℕ → Result First Why → Result (List ℕ) Why
going_on least most text k (Ok f) = shift f.number (numbers k least most (words (drop f.end text)))
going_on least most text k (Err why) = Err why

abbrev pub place_of : Result First Why → ℕ
place_of (Ok f) = f.end
place_of (Err why) = 0

pub record ReadFirst (least most : ℕ) (text : List ℕ) (at : ℕ) (r : Result First Why) : Type 0 where
  pub is : (k : ℕ) → numbers (suc k) least most (words (drop at text)) ≡ going_on least most text k r
  pub within : place_of r ≤ length text
