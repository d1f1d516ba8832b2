-- Laws of what the arguments ask for, by their first word.
use mathlib.Core.Path.{◌≡◌, sym, subst, ◌∙◌}
use mathlib.Core.List.{List, [], ◌∷◌}
use mathlib.Core.Bool.{true, false}
use Prim.Native.Nat.{ℕ, ◌-◌, ◌<◌, ◌≤◌}
use native.Mathlib.Omega.{arith}
use lib.ListN.{take, drop}
use Rattle.std.specs.Prelude.{Option, Some, None, Result, Ok, Err, get_or}
use Rattle.std.specs.Result.{result_ok}
use Rattle.text.specs.Quoted.{text}
use Rattle.script.specs.Cursor.{Next}
use Rattle.script.specs.Decimals.{numbers}
use Rattle.script.specs.Entries.{same}
use Rattle.script.specs.Split.{words}
use Rattle.script.specs.declared.Why.{Why}
use Rattle.script.proofs.Sizes.{UpTo, numbers-small}
use Rattle.desk.specs.Asked.{alone, delay_of, of_words, asking}
use Rattle.desk.specs.declared.asked.Mode.{Mode}
use Rattle.desk.specs.declared.asked.Mode.TheVariants.{Rehearse, Bytes, Text}

-- a delay that was read is a byte
pub delay-small : {xs : List ℕ} (r : Result (List ℕ) Why) (ws : List (List ℕ)) → r ≡ numbers 1 1 255 ws → result_ok r ≡ Some xs → get_or xs 0 0 ≤ 255
delay-small {xs} (Ok ys) ws e f = let same : xs ≡ ys = cc in let small : UpTo 255 (Ok ys) = subst (UpTo 255) (sym e) (numbers-small 1 1 255 ws) in rw same small.0
delay-small (Err why) ws e f = let z : ◌≡◌ {A = ℕ} 0 1 = cc in absurd (omega arith)

pub asks_none : (line : List ℕ) → words line ≡ [] → Some Rehearse ≡ asking line
unfolding asking of_words
asks_none line e = rw e

module _ {line : List ℕ} {start end : ℕ} (n : Next line 0 start end) where
  module _ (some : start < end) where
    first : words line ≡ take (end - start) (drop start line) ∷ words (drop end line)
    first = n.one some

    pub asks_bytes : same (text "bytes") (take (end - start) (drop start line)) ≡ true → {r : Option Mode} → r ≡ alone (words (drop end line)) Bytes → r ≡ asking line
    unfolding asking of_words
    asks_bytes t e = e ∙ rw (first, t)

    module _ (no : same (text "bytes") (take (end - start) (drop start line)) ≡ false) where
      pub asks_text : same (text "text") (take (end - start) (drop start line)) ≡ true → {r : Option Mode} → r ≡ alone (words (drop end line)) Text → r ≡ asking line
      unfolding asking of_words
      asks_text t e = e ∙ rw (first, no, t)

      module _ (nor : same (text "text") (take (end - start) (drop start line)) ≡ false) where
        pub asks_figure : same (text "figure") (take (end - start) (drop start line)) ≡ true → {r : Option Mode} → r ≡ delay_of (numbers 1 1 255 (words (drop end line))) → r ≡ asking line
        unfolding asking of_words
        asks_figure t e = e ∙ rw (first, no, nor, t)

        pub asks_nothing : same (text "figure") (take (end - start) (drop start line)) ≡ false → None ≡ asking line
        unfolding asking of_words
        asks_nothing f = rw (first, no, nor, f)
