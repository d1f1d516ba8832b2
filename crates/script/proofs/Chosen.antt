-- Laws of the entry that the words of a line begin with, compared word by word.
use mathlib.Core.Path.{◌≡◌, refl, sym, ap, ◌∙◌}
use mathlib.Core.List.{List, [], ◌∷◌}
use mathlib.Core.Bool.{Bool, true, false}
use Prim.Native.Nat.{ℕ, suc, ◌+◌, ◌-◌, ◌<◌, ◌≤◌}
use native.Mathlib.Omega.{arith}
use lib.Dec.{eqb}
use lib.ListN.{length, take, drop}
use Rattle.script.specs.Cursor.{Next, Behind, Chose}
use Rattle.std.specs.Prelude.{nat_eq}
use lib.Pointwise.{pointwise}
use Rattle.script.specs.Entries.{entries, entry, same, begins, first_from, chosen}
use Rattle.script.specs.Split.{words}

-- the words that `==` tells apart
pub same_words : (a b : List ℕ) → pointwise nat_eq a b ≡ same a b
unfolding same
same_words [] [] = refl
same_words [] (d ∷ b) = refl
same_words (c ∷ a) [] = refl
same_words (c ∷ a) (d ∷ b) = rw (same_words a b)

-- a name and a text compared up to a place of each
pub record BegunTo (name text : List ℕ) (i at : ℕ) : Type 0 where
  pub is : begins (words name) (words text) ≡ begins (words (drop i name)) (words (drop at text))
  pub behind : drop (length (words name)) (words text) ≡ drop (length (words (drop i name))) (words (drop at text))
  pub within-name : i ≤ length name
  pub within : at ≤ length text

pub begun_none : (name text : List ℕ) → BegunTo name text 0 0
begun_none name text = record { is = refl; behind = refl; within-name = omega arith; within = omega arith }

module _ {name text : List ℕ} {i at : ℕ} (b : BegunTo name text i at) where
  pub begun_all : words (drop i name) ≡ [] → Behind name text at
  unfolding begins
  begun_all e = record { is = b.is ∙ rw e; within = b.within; behind = sym (b.behind ∙ rw e) }

  module _ {start end : ℕ} (n : Next name i start end × (start < end)) where
    pub begun_short : words (drop at text) ≡ [] → begins (words name) (words text) ≡ false
    unfolding begins
    begun_short e = b.is ∙ rw (n.0.one n.1, e)

    module _ {first last : ℕ} (w : Next text at first last × (first < last)) {r : Bool} (c : r ≡ same (take (end - start) (drop start name)) (take (last - first) (drop first text))) where
      pub begun_other : r ≡ false → begins (words name) (words text) ≡ false
      unfolding begins
      begun_other f = b.is ∙ rw (n.0.one n.1, w.0.one w.1, ← c, f)

      pub begun_next : r ≡ true → BegunTo name text end last
      unfolding begins
      begun_next t =
          record {
            is = b.is ∙ rw (n.0.one n.1, w.0.one w.1, ← c, t);
            behind = b.behind ∙ rw (n.0.one n.1, w.0.one w.1);
            within-name = n.0.within;
            within = w.0.within;
          }

-- the entries up to k were tried
pub record TriedTo (text : List ℕ) (k : ℕ) : Type 0 where
  pub is : chosen (words text) ≡ first_from (entries - k) k (words text)
  pub few : k ≤ entries

pub tried-none : (text : List ℕ) → TriedTo text 0
tried-none text = record { is = refl; few = omega arith }

one_left : (k : ℕ) → k < entries → entries - k ≡ suc (entries - (k + 1))
one_left k h = omega arith

module _ {text : List ℕ} {k : ℕ} (t : TriedTo text k) where
  module _ (h : k < entries) {name : List ℕ} (e : name ≡ (entry k).name) where
    pub tried-next : begins (words name) (words text) ≡ false → TriedTo text (k + 1)
    unfolding first_from
    tried-next b =
        let here : begins (words (entry k).name) (words text) ≡ false = ap (λ l. begins (words l) (words text)) (sym e) ∙ b in
        record { is = t.is ∙ rw (one_left k h, here); few = omega arith }

    pub tried-found : {at : ℕ} → Behind name text at → Chose text k at
    unfolding first_from
    tried-found b =
        let here : begins (words (entry k).name) (words text) ≡ true = ap (λ l. begins (words l) (words text)) (sym e) ∙ b.is in
        record {
          is = sym (t.is ∙ rw (one_left k h, here));
          known = h;
          within = b.within;
          behind = b.behind ∙ ap (λ l. drop (length (words l)) (words text)) e;
        }

  pub tried-all : entries ≤ k → chosen (words text) ≡ entries
  unfolding first_from
  tried-all h = let last : k ≡ entries = omega (arith, t.few) in t.is ∙ rw last
