-- Laws of the first characters of a text that pass a test, and of the next word.
use mathlib.Core.Path.{◌≡◌, refl, sym, ap, ◌∙◌}
use mathlib.Core.Logic.{◌⊎◌}
use mathlib.Core.Logic.◌⊎◌.{inl, inr}
use mathlib.Core.List.{List, [], ◌∷◌}
use mathlib.Core.Bool.{Bool, true, false, cond, not, false≢true}
use Prim.Native.Nat.{ℕ, suc, ◌+◌, ◌-◌, ◌<◌, ◌≤◌}
use native.Mathlib.Omega.{arith}
use lib.Dec.{eqb}
use lib.ListN.{length, take, drop, length-drop}
use lib.Seq.{drop-drop}
use borrow.Author.Tests.{not-true}
use Rattle.text.specs.Hex.{is_blank}
use Rattle.script.specs.Cursor.{Next}
use Rattle.script.specs.Split.{onto, lines, goes_on, words, inside, lead, rest}
use Rattle.script.specs.declared.rules.words.Part.TheVariants.{Blanks, Word, Line}

-- the first characters and what is left are the text
module _ (t : ℕ → Bool) where
  lead-yes : (c : ℕ) (cs : List ℕ) → t c ≡ true → lead t (c ∷ cs) ≡ c ∷ lead t cs
  unfolding lead
  lead-yes c cs e = rw e

  pub take_lead : (l : List ℕ) → take (length (lead t l)) l ≡ lead t l
  unfolding lead
  take_lead [] = refl
  take_lead (c ∷ cs) = at (t c) (take_lead cs)
    where
      at : (b : Bool) → take (length (lead t cs)) cs ≡ lead t cs → take (length (cond b (c ∷ lead t cs) [])) (c ∷ cs) ≡ cond b (c ∷ lead t cs) []
      at true e = ap (λ l. c ∷ l) e
      at false e = refl

  pub drop_lead : (l : List ℕ) → drop (length (lead t l)) l ≡ rest t l
  unfolding lead rest
  drop_lead [] = refl
  drop_lead (c ∷ cs) = at (t c) (drop_lead cs)
    where
      at : (b : Bool) → drop (length (lead t cs)) cs ≡ rest t cs → drop (length (cond b (c ∷ lead t cs) [])) (c ∷ cs) ≡ cond b (rest t cs) (c ∷ cs)
      at true e = e
      at false e = refl

  pub lead-short : (l : List ℕ) → length (lead t l) ≤ length l
  unfolding lead
  lead-short [] = omega arith
  lead-short (c ∷ cs) = at (t c) (lead-short cs)
    where
      at : (b : Bool) → length (lead t cs) ≤ length cs → length (cond b (c ∷ lead t cs) []) ≤ suc (length cs)
      at true h = omega arith
      at false h = omega arith

  -- where the part ends
  pub part_within : (text : List ℕ) (from end : ℕ) → from ≤ length text → end ≡ from + length (lead t (drop from text)) → end ≤ length text
  part_within text from end h e = omega (arith, lead-short (drop from text), length-drop from text)

  pub part_text : (text : List ℕ) (from end : ℕ) → end ≡ from + length (lead t (drop from text)) → take (end - from) (drop from text) ≡ lead t (drop from text)
  part_text text from end e =
      let n : end - from ≡ length (lead t (drop from text)) = omega arith in
      ap (λ k. take k (drop from text)) n ∙ take_lead (drop from text)

  pub part_front : (text : List ℕ) (end : ℕ) → end ≡ 0 + length (lead t (drop 0 text)) → take end text ≡ lead t text
  part_front text end e =
      let n : end ≡ length (lead t text) = omega arith in
      ap (λ k. take k text) n ∙ take_lead text

  pub part_behind : (text : List ℕ) (from end : ℕ) → end ≡ from + length (lead t (drop from text)) → drop end text ≡ rest t (drop from text)
  part_behind text from end e = ap (λ k. drop k text) e ∙ sym (drop-drop (length (lead t (drop from text))) from text) ∙ drop_lead (drop from text)

-- blanks before words do not matter, and behind them is a word or the end
words-skip : (l : List ℕ) → words l ≡ words (rest (inside Blanks) l)
unfolding words rest inside
words-skip [] = refl
words-skip (c ∷ cs) = at (is_blank c) refl (words-skip cs)
  where
    at : (b : Bool) → is_blank c ≡ b → words cs ≡ words (rest (inside Blanks) cs) → words (c ∷ cs) ≡ words (cond b (rest (inside Blanks) cs) (c ∷ cs))
    at true e r = rw e r
    at false e r = refl

rest-goes_on : (l : List ℕ) → (rest (inside Blanks) l ≡ []) ⊎ (goes_on (rest (inside Blanks) l) ≡ true)
unfolding rest inside goes_on
rest-goes_on [] = inl refl
rest-goes_on (c ∷ cs) = at (is_blank c) refl (rest-goes_on cs)
  where
    at : (b : Bool) → is_blank c ≡ b → (rest (inside Blanks) cs ≡ []) ⊎ (goes_on (rest (inside Blanks) cs) ≡ true) → (cond b (rest (inside Blanks) cs) (c ∷ cs) ≡ []) ⊎ (goes_on (cond b (rest (inside Blanks) cs) (c ∷ cs)) ≡ true)
    at true e r = r
    at false e r = inr (rw e)

words_open : (c : ℕ) (cs : List ℕ) → is_blank c ≡ false → words (c ∷ cs) ≡ cond (goes_on cs) (onto c (words cs)) ((c ∷ []) ∷ words cs)
unfolding words
words_open c cs e = rw e

-- a word and what comes behind it
pub words-first : (c : ℕ) (cs : List ℕ) → is_blank c ≡ false → words (c ∷ cs) ≡ (c ∷ lead (inside Word) cs) ∷ words (rest (inside Word) cs)
unfolding lead rest inside goes_on
words-first c [] e = words_open c [] e
words-first c (d ∷ ds) e = at (is_blank d) refl (words-first d ds)
  where
    at : (b : Bool) → is_blank d ≡ b → (is_blank d ≡ false → words (d ∷ ds) ≡ (d ∷ lead (inside Word) ds) ∷ words (rest (inside Word) ds)) → words (c ∷ d ∷ ds) ≡ (c ∷ lead (inside Word) (d ∷ ds)) ∷ words (rest (inside Word) (d ∷ ds))
    at true f r = words_open c (d ∷ ds) e ∙ rw f
    at false f r = words_open c (d ∷ ds) e ∙ rw f (ap (onto c) (r f))

words-at : (l : List ℕ) → goes_on l ≡ true → (words l ≡ lead (inside Word) l ∷ words (rest (inside Word) l)) × (0 < length (lead (inside Word) l))
unfolding goes_on lead rest inside
words-at [] e = absurd (false≢true e)
words-at (c ∷ cs) e = (words-first c cs b ∙ sym (both), rw (lead-yes (inside Word) c cs i) (omega arith))
  where
    b : is_blank c ≡ false
    b = not-true (is_blank c) e

    i : inside Word c ≡ true
    i = e

    both : lead (inside Word) (c ∷ cs) ∷ words (rest (inside Word) (c ∷ cs)) ≡ (c ∷ lead (inside Word) cs) ∷ words (rest (inside Word) cs)
    both = rw b

-- the next word, from the ends of the blanks and of the word
pub next_word : (text : List ℕ) (at start end : ℕ) → at ≤ length text → start ≡ at + length (lead (inside Blanks) (drop at text)) → end ≡ start + length (lead (inside Word) (drop start text)) → Next text at start end
unfolding words lead
next_word text at start end h s e =
    record { from = omega arith; order = omega arith; within = part_within (inside Word) text start end inner e; none = λ z. at_none z (rest-goes_on (drop at text)); one = λ z. at_one z (rest-goes_on (drop at text)) }
  where
    inner : start ≤ length text
    inner = part_within (inside Blanks) text at start h s

    skipped : drop start text ≡ rest (inside Blanks) (drop at text)
    skipped = part_behind (inside Blanks) text at start s

    same : words (drop at text) ≡ words (drop start text)
    same = words-skip (drop at text) ∙ ap words (sym skipped)

    at_none : start ≡ end → (rest (inside Blanks) (drop at text) ≡ []) ⊎ (goes_on (rest (inside Blanks) (drop at text)) ≡ true) → words (drop at text) ≡ []
    at_none z (inl n) = same ∙ ap words (skipped ∙ n)
    at_none z (inr g) = let w = words-at (drop start text) (ap goes_on skipped ∙ g) in absurd (omega (arith, w.1))

    at_one : start < end → (rest (inside Blanks) (drop at text) ≡ []) ⊎ (goes_on (rest (inside Blanks) (drop at text)) ≡ true) → words (drop at text) ≡ take (end - start) (drop start text) ∷ words (drop end text)
    at_one z (inl n) = absurd (omega (arith, ap (λ l. length (lead (inside Word) l)) (skipped ∙ n)))
    at_one z (inr g) =
        let w = words-at (drop start text) (ap goes_on skipped ∙ g) in
        same ∙ w.0 ∙ rw (part_text (inside Word) text start end e, part_behind (inside Word) text start end e)

-- the first line of a text, and the others
lines-first : (c : ℕ) (cs : List ℕ) → lines (c ∷ cs) ≡ lead (inside Line) (c ∷ cs) ∷ lines (drop 1 (rest (inside Line) (c ∷ cs)))
unfolding lines lead rest inside
lines-first c [] = at (eqb c 10)
  where
    at : (b : Bool) → cond b ([] ∷ []) ((c ∷ []) ∷ []) ≡ cond (not b) (c ∷ []) [] ∷ lines (drop 1 (cond (not b) [] (c ∷ [])))
    at true = refl
    at false = refl
lines-first c (d ∷ ds) = at (eqb c 10) (lines-first d ds)
  where
    at : (b : Bool) → lines (d ∷ ds) ≡ lead (inside Line) (d ∷ ds) ∷ lines (drop 1 (rest (inside Line) (d ∷ ds))) → cond b ([] ∷ lines (d ∷ ds)) (onto c (lines (d ∷ ds))) ≡ cond (not b) (c ∷ lead (inside Line) (d ∷ ds)) [] ∷ lines (drop 1 (cond (not b) (rest (inside Line) (d ∷ ds)) (c ∷ d ∷ ds)))
    at true e = refl
    at false e = ap (onto c) e

pub lines_at : (l : List ℕ) → 0 < length l → lines l ≡ lead (inside Line) l ∷ lines (drop 1 (rest (inside Line) l))
lines_at [] h = absurd (omega arith)
lines_at (c ∷ cs) h = lines-first c cs
