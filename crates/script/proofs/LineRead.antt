-- Laws of what the words of a line mean: the entry, its numbers, the commands that they make.
use mathlib.Core.Path.{◌≡◌, refl, sym, ap, subst, ◌∙◌}
use mathlib.Core.Logic.{◌≢◌}
use mathlib.Core.List.{List, [], ◌∷◌}
use mathlib.Core.Bool.{Bool, true, false, cond, true≢false, false≢true}
use Prim.Native.Nat.{ℕ, zero, suc, ◌<◌}
use native.Mathlib.Omega.{arith}
use borrow.Author.Tests.{eq-eqb, ne_eqb, eqb-true, eqb-false}
use lib.Dec.{eqb}
use lib.ListN.{drop}
use Rattle.std.specs.Prelude.{Option, Some, None, Result, Ok, Err, get_or}
use Rattle.std.specs.Option.{is_some}
use Rattle.fit.specs.Fit.{within}
use Rattle.script.specs.Assembled.{Commands, made, of_words}
use Rattle.script.specs.Cursor.{NextWord, Chose}
use Rattle.script.specs.Decimals.{is_number, value_of, shift, numbers}
use Rattle.script.specs.Entries.{entries, entry, chosen}
use Rattle.script.specs.Meanings.{made_by, Suited, Reads}
use Rattle.script.specs.Split.{words}
use Rattle.script.specs.Tabled.{run_byte, Tabled}
use Rattle.script.specs.declared.Why.{Why}
use Rattle.script.specs.declared.Why.TheVariants.{UnknownWord, NumberRange}
use Rattle.script.specs.declared.rules.entries.Entry.{Entry}
use Rattle.script.specs.declared.rules.words.Span.{Span}
use Rattle.script.specs.declared.rules.lines.Line.{Line}
use Rattle.script.specs.declared.rules.lines.Line.TheVariants as code
use Rattle.script.proofs.Sizes.{UpTo, numbers-small}

-- the numbers that aren't asked for are 0
abbrev Zeros : ℕ → Result (List ℕ) Why → Type 0
Zeros n (Ok xs) = (n < 3 → get_or xs 2 0 ≡ 0) × (n < 2 → get_or xs 1 0 ≡ 0) × (n < 1 → get_or xs 0 0 ≡ 0)
Zeros n (Err why) = Unit {0}

zeros : (n least most : ℕ) (ws : List (List ℕ)) → Zeros n (numbers n least most ws)
unfolding numbers
zeros zero least most [] = (λ _. refl, λ _. refl, λ _. refl)
zeros zero least most (w ∷ ws) = tt
zeros (suc n) least most [] = tt
zeros (suc n) least most (w ∷ ws) = one (is_number w) (within least (value_of w) most) (zeros n least most ws)
  where
    shifted : (r : Result (List ℕ) Why) → Zeros n r → Zeros (suc n) (shift (value_of w) r)
    shifted (Ok xs) h = (λ l. h.1 (omega arith), λ l. h.2 (omega arith), λ l. absurd (omega arith))
    shifted (Err why) h = tt

    one : (a b : Bool) → Zeros n (numbers n least most ws) → Zeros (suc n) (cond a (cond b (shift (value_of w) (numbers n least most ws)) (Err NumberRange)) (Err UnknownWord))
    one true true h = shifted (numbers n least most ws) h
    one true false h = tt
    one false b h = tt

-- the entry that was found, and the numbers that were read behind its words
module _ {k : ℕ} {e : Entry} (t : Tabled k e) (ws : List (List ℕ)) {xs : List ℕ} (n : Ok xs ≡ numbers e.numbers e.least e.most ws) where
  small : UpTo e.most (Ok xs)
  small = subst (UpTo e.most) (sym n) (numbers-small e.numbers e.least e.most ws)

  pub suited : Suited e.code (get_or xs 0 0) (get_or xs 1 0) (get_or xs 2 0)
  suited =
      record {
        known = t.code.known;
        ticks = omega (arith, small.0, t.ceiling);
        bytes = λ h. let b = t.code.of_bytes h in (omega (arith, small.0, b), omega (arith, small.1, b), omega (arith, small.2, b));
      }

  pub makes : made_by e.code (get_or xs 0 0) (get_or xs 1 0) (get_or xs 2 0) ≡ Commands ((entry k).makes (get_or xs 0 0) (get_or xs 1 0) (get_or xs 2 0))
  makes = which (eqb e.code run_byte) refl
    where
      third : e.numbers < 3 → get_or xs 2 0 ≡ 0
      third = (subst (Zeros e.numbers) (sym n) (zeros e.numbers e.least e.most ws)).0

      which : (b : Bool) → eqb e.code run_byte ≡ b → made_by e.code (get_or xs 0 0) (get_or xs 1 0) (get_or xs 2 0) ≡ Commands ((entry k).makes (get_or xs 0 0) (get_or xs 1 0) (get_or xs 2 0))
      which true h = rw h (ap Commands (t.code.of_run (eqb-true e.code run_byte h) (get_or xs 0 0) (get_or xs 1 0) (get_or xs 2 0)))
      which false h = rw h (ap Commands (t.code.of_byte (eqb-false e.code run_byte h) (get_or xs 0 0) (get_or xs 1 0) (get_or xs 2 0) third))

-- whether there is a word
pub record HasWord (text : List ℕ) : Type 0 where
  pub word : List ℕ
  pub others : List (List ℕ)
  pub same : words text ≡ word ∷ others

pub has_word : {text : List ℕ} (r : Option Span) → NextWord text 0 r → is_some r ≡ true → HasWord text
has_word None n e = absurd (false≢true e)
has_word (Some w) n e = record { word = _; others = _; same = n.0.one n.1 }

pub no_word : (text : List ℕ) (r : Option Span) → NextWord text 0 r → is_some r ≡ false → words text ≡ []
no_word text None n e = n
no_word text (Some w) n e = absurd (true≢false e)

-- no words
pub reads_nothing : (text : List ℕ) → words text ≡ [] → Reads (Ok code.Nothing) (of_words (words text))
unfolding of_words
reads_nothing text e = record { is = rw e; proper = tt }

-- words that no entry begins
pub reads-unknown : {text : List ℕ} → HasWord text → chosen (words text) ≡ entries → Reads (Err UnknownWord) (of_words (words text))
unfolding of_words
reads-unknown {text} n c =
    let one = n.same in
    let e : eqb (chosen (words text)) entries ≡ true = eq-eqb (chosen (words text)) entries c in
    record { is = sym (ap of_words one ∙ rw (← one, e)); proper = tt }

-- an entry and its numbers
module _ {text : List ℕ} (w : HasWord text) {k at : ℕ} (c : Chose text k at) {e : Entry} (t : Tabled k e) {r : Result (List ℕ) Why} (n : r ≡ numbers e.numbers e.least e.most (words (drop at text))) where
  found : of_words (words text) ≡ made (entry k) r
  unfolding of_words
  found =
      let one = w.same in
      let other : eqb (chosen (words text)) entries ≡ false = ne_eqb (chosen (words text)) entries (λ z. omega (arith, c.is, c.known)) in
      ap of_words one ∙ rw (← one, other, ← c.is, ← c.behind, ← t.numbers, ← t.least, ← t.most, ← n)

  pub reads-wrong : (why : Why) → r ≡ Err why → Reads (Err why) (of_words (words text))
  reads-wrong why g = record { is = sym (found ∙ rw g); proper = tt }

  pub reads_made : (xs : List ℕ) → r ≡ Ok xs → (line : Line) → Reads (Ok line) (made_by e.code (get_or xs 0 0) (get_or xs 1 0) (get_or xs 2 0)) → Reads (Ok line) (of_words (words text))
  reads_made xs g line l = record { is = l.is ∙ makes t (words (drop at text)) (sym g ∙ n) ∙ sym (found ∙ rw g); proper = l.proper }

-- what a byte makes of numbers
pub reads-run : {b x y z : ℕ} → Suited b x y z → b ≡ run_byte → Reads (Ok (code.Run x)) (made_by b x y z)
reads-run {b} s e = record { is = rw (eq-eqb b run_byte e); proper = s.ticks }

pub reads-command : {b x y z : ℕ} → Suited b x y z → b ≢ run_byte → Reads (Ok (code.Command b x y z)) (made_by b x y z)
reads-command {b} s e = record { is = rw (ne_eqb b run_byte e); proper = s.known }
