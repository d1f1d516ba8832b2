-- Laws of lines and words.
use mathlib.Core.Path.{◌≡◌, refl, ◌∙◌}
use mathlib.Core.List.{List, [], ◌∷◌, ◌++◌}
use mathlib.Core.Bool.{Bool, true, false, cond, false≢true}
use Prim.Native.Nat.{ℕ}
use lib.Dec.{eqb}
use borrow.Author.Tests.{not-true}
use Rattle.lists.specs.Every.{All}
use Rattle.text.specs.Hex.{is_blank}
use Rattle.script.specs.Split.{onto, lines, goes_on, words, inside, lead}
use Rattle.script.specs.declared.rules.words.Part.TheVariants.{Word, Line}

-- every character passes a test
abbrev pub Each : (ℕ → Bool) → List ℕ → Type 0
Each t cs = All (λ c. t c ≡ true) cs

pub lead-each : (t : ℕ → Bool) (cs : List ℕ) → Each t (lead t cs)
unfolding lead
lead-each t [] = tt
lead-each t (c ∷ cs) = go (t c) refl (lead-each t cs)
  where
    go : (b : Bool) → t c ≡ b → Each t (lead t cs) → Each t (cond b (c ∷ lead t cs) [])
    go true e h = (e, h)
    go false e h = tt

-- where every character passes, nothing is left
pub lead-all : (t : ℕ → Bool) (cs : List ℕ) → Each t cs → lead t cs ≡ cs
unfolding lead
lead-all t [] h = refl
lead-all t (c ∷ cs) h = rw (h.0, lead-all t cs h.1)

-- a line, its newline and more lines
pub lines-one : (line more : List ℕ) → Each (inside Line) line → lines (line ++ 10 ∷ more) ≡ line ∷ lines more
unfolding lines inside
lines-one [] more h = refl
lines-one (c ∷ line) more h = rw (not-true (eqb c 10) h.0, lines-one line more h.1)

-- words before a space and behind it
words-on : (c : ℕ) (cs : List ℕ) → is_blank c ≡ false → goes_on cs ≡ true → words (c ∷ cs) ≡ onto c (words cs)
unfolding words
words-on c cs e g = rw (e, g)

words_last : (c : ℕ) (cs : List ℕ) → is_blank c ≡ false → goes_on cs ≡ false → words (c ∷ cs) ≡ (c ∷ []) ∷ words cs
unfolding words
words_last c cs e g = rw (e, g)

words-blank : (c : ℕ) (cs : List ℕ) → is_blank c ≡ true → words (c ∷ cs) ≡ words cs
unfolding words
words-blank c cs e = rw e

-- a character before the first of some pieces, of which there are any
onto-append : (c : ℕ) (cs : List ℕ) (ws : List (List ℕ)) → goes_on cs ≡ true → onto c (words cs ++ ws) ≡ onto c (words cs) ++ ws
unfolding goes_on
onto-append c [] ws g = absurd (false≢true g)
onto-append c (d ∷ cs) ws g = go (goes_on cs) refl
  where
    go : (b : Bool) → goes_on cs ≡ b → onto c (words (d ∷ cs) ++ ws) ≡ onto c (words (d ∷ cs)) ++ ws
    go true e = rw (words-on d cs (not-true (is_blank d) g) e) (two (words cs))
      where
        two : (vs : List (List ℕ)) → onto c (onto d vs ++ ws) ≡ onto c (onto d vs) ++ ws
        two [] = refl
        two (v ∷ vs) = refl
    go false e = rw (words_last d cs (not-true (is_blank d) g) e)

pub words_append : (line more : List ℕ) → words (line ++ 32 ∷ more) ≡ words line ++ words more
unfolding words is_blank goes_on
words_append [] more = refl
words_append (c ∷ line) more = go (is_blank c) (goes_on line) refl refl (words_append line more)
  where
    space : (l : List ℕ) → goes_on (l ++ 32 ∷ more) ≡ goes_on l
    space [] = refl
    space (d ∷ l) = refl

    go : (a b : Bool) → is_blank c ≡ a → goes_on line ≡ b → words (line ++ 32 ∷ more) ≡ words line ++ words more → words (c ∷ line ++ 32 ∷ more) ≡ words (c ∷ line) ++ words more
    go true b e g r = words-blank c (line ++ 32 ∷ more) e ∙ r ∙ rw (words-blank c line e)
    go false true e g r = words-on c (line ++ 32 ∷ more) e (space line ∙ g) ∙ rw (r, words-on c line e g) (onto-append c line (words more) g)
    go false false e g r = words_last c (line ++ 32 ∷ more) e (space line ∙ g) ∙ rw (r, words_last c line e g)

-- characters with no blank among them are one word
pub words-one : (c : ℕ) (cs : List ℕ) → Each (inside Word) (c ∷ cs) → words (c ∷ cs) ≡ (c ∷ cs) ∷ []
unfolding words inside goes_on
words-one c [] h = rw (not-true (is_blank c) h.0)
words-one c (d ∷ cs) h = words-on c (d ∷ cs) (not-true (is_blank c) h.0) h.1.0 ∙ rw (words-one d cs h.1)
