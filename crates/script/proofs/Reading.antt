-- Laws of the numbers behind a command's words, read word by word.
use mathlib.Core.Path.{◌≡◌, refl, sym, ap, ◌∙◌}
use mathlib.Core.Logic.{◌≢◌}
use mathlib.Core.List.{List, [], ◌∷◌}
use mathlib.Core.Bool.{Bool, true, false, cond, ◌&&◌, true≢false}
use Prim.Native.Nat.{ℕ, zero, suc, ◌-◌, ◌<◌, ◌≤◌}
use native.Mathlib.Decide.{dec_lt}
use native.Mathlib.Omega.{arith}
use borrow.Author.Tests.{le-leb, lt-leb}
use lib.Dec.{leb}
use lib.ListN.{take, drop}
use Rattle.std.specs.Prelude.{Option, Some, None, Result, Ok, Err}
use Rattle.fit.specs.Fit.{within}
use Rattle.fit.proofs.Tests.{of_within}
use Rattle.script.specs.Cursor.{Next, ReadFirst, going_on}
use Rattle.script.specs.Decimals.{is_number, value_of, capped, valued, numbers}
use Rattle.script.specs.Split.{words}
use Rattle.script.specs.declared.Why.{Why}
use Rattle.script.specs.declared.Why.TheVariants.{UnknownWord, NumberMissing, TooManyWords, NumberRange}
use Rattle.script.specs.declared.rules.numbers.First.{First}
use Rattle.script.proofs.Capping.{capped_small, capped-large}

-- what a word is, from its value
not_number : (w : List ℕ) → None ≡ valued w → is_number w ≡ false
unfolding valued
not_number w = go (is_number w)
  where
    go : (b : Bool) → ◌≡◌ {A = Option ℕ} None (cond b (Some (capped (value_of w))) None) → b ≡ false
    go true e = cc
    go false e = refl

is-number : (w : List ℕ) (x : ℕ) → Some x ≡ valued w → (is_number w ≡ true) × (x ≡ capped (value_of w))
unfolding valued
is-number w x = go (is_number w)
  where
    go : (b : Bool) → ◌≡◌ {A = Option ℕ} (Some x) (cond b (Some (capped (value_of w))) None) → (b ≡ true) × (x ≡ capped (value_of w))
    go true e = (refl, cc)
    go false e = (cc, cc)

and-false : (a : Bool) {b : Bool} → b ≡ false → (a && b) ≡ false
and-false true e = e
and-false false e = refl

abbrev word_in : List ℕ → ℕ → ℕ → List ℕ
word_in text start end = take (end - start) (drop start text)

-- no word
module _ (least most : ℕ) (text : List ℕ) (at : ℕ) (none : words (drop at text) ≡ []) where
  pub none_more : Ok (0 ∷ 0 ∷ 0 ∷ []) ≡ numbers 0 least most (words (drop at text))
  unfolding numbers
  none_more = rw none

  pub first-missing : ReadFirst least most text at (Err NumberMissing)
  unfolding numbers
  first-missing = record { is = λ k. rw none; within = omega arith }

-- a word
module _ (least most : ℕ) {text : List ℕ} {at start end : ℕ} (n : Next text at start end) where
  module _ (some : start < end) where
    pub one_more : Err TooManyWords ≡ numbers 0 least most (words (drop at text))
    unfolding numbers
    one_more = rw (n.one some)

    pub first-unknown : None ≡ valued (word_in text start end) → ReadFirst least most text at (Err UnknownWord)
    unfolding numbers
    first-unknown e = record { is = λ k. rw (n.one some, not_number (word_in text start end) e); within = omega arith }

    module _ (x : ℕ) (e : Some x ≡ valued (word_in text start end)) (small : most ≤ 1000000) where
      given : is_number (word_in text start end) ≡ true
      given = (is-number (word_in text start end) x e).0

      value : x ≡ capped (value_of (word_in text start end))
      value = (is-number (word_in text start end) x e).1

      first-low : x < least → ReadFirst least most text at (Err NumberRange)
      unfolding numbers
      first-low h = record { is = λ k. rw (n.one some, given, out); within = omega arith }
        where
          out : within least (value_of (word_in text start end)) most ≡ false
          out = go (dec_lt 1000000 (value_of (word_in text start end)))
            where
              go : Dec (1000000 < value_of (word_in text start end)) → within least (value_of (word_in text start end)) most ≡ false
              go (yes b) = and-false (leb least (value_of (word_in text start end))) (lt-leb (value_of (word_in text start end)) most (omega arith))
              go (no b) = rw (lt-leb least (value_of (word_in text start end)) (omega (arith, value, capped_small (value_of (word_in text start end)) (omega arith))))

      first-high : most < x → ReadFirst least most text at (Err NumberRange)
      unfolding numbers
      first-high h = record { is = λ k. rw (n.one some, given, out); within = omega arith }
        where
          out : within least (value_of (word_in text start end)) most ≡ false
          out = go (dec_lt 1000000 (value_of (word_in text start end)))
            where
              go : Dec (1000000 < value_of (word_in text start end)) → within least (value_of (word_in text start end)) most ≡ false
              go (yes b) = and-false (leb least (value_of (word_in text start end))) (lt-leb (value_of (word_in text start end)) most (omega arith))
              go (no b) = and-false (leb least (value_of (word_in text start end))) (lt-leb (value_of (word_in text start end)) most (omega (arith, value, capped_small (value_of (word_in text start end)) (omega arith))))

      pub first-outside : within least x most ≡ false → ReadFirst least most text at (Err NumberRange)
      first-outside e = go (dec_lt x least) (dec_lt most x)
        where
          go : Dec (x < least) → Dec (most < x) → ReadFirst least most text at (Err NumberRange)
          go (yes l) h = first-low l
          go (no l) (yes h) = first-high h
          go (no l) (no h) = absurd (true≢false (sym (of_within least x most (omega arith) (omega arith)) ∙ e))

      pub first-number : least ≤ x → x ≤ most → ReadFirst least most text at (Ok (record { number = x; end = end }))
      unfolding numbers
      first-number l h = record { is = λ k. rw (n.one some, given, in_range, same); within = n.within }
        where
          same : value_of (word_in text start end) ≡ x
          same = go (dec_lt 1000000 (value_of (word_in text start end)))
            where
              go : Dec (1000000 < value_of (word_in text start end)) → value_of (word_in text start end) ≡ x
              go (yes b) = absurd (omega (arith, value, capped-large (value_of (word_in text start end)) b))
              go (no b) = sym (value ∙ capped_small (value_of (word_in text start end)) (omega arith))

          in_range : within least (value_of (word_in text start end)) most ≡ true
          in_range = rw (le-leb least (value_of (word_in text start end)) (omega (arith, same)), le-leb (value_of (word_in text start end)) most (omega (arith, same)))

-- the first of at least one number
pub numbers-next : (left : ℕ) {least most : ℕ} {text : List ℕ} {at : ℕ} {r : Result First Why} → left ≢ 0 → ReadFirst least most text at r → numbers left least most (words (drop at text)) ≡ going_on least most text (left - 1) r
numbers-next zero h f = absurd (h refl)
numbers-next (suc k) {least} {most} {text} {r = r} h f = let one : suc k - 1 ≡ k = omega arith in f.is k ∙ ap (λ j. going_on least most text j r) (sym one)
