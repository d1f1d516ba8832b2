-- Laws of a command as it is written: the line of it means that command.
use mathlib.Core.Path.{◌≡◌, refl, sym, ap, ◌∙◌}
use mathlib.Core.List.{List, [], ◌∷◌, ◌++◌, map, append-nil}
use mathlib.Core.Bool.{Bool, true, false, cond, ◌&&◌, false≢true, true≢false}
use Prim.Native.Nat.{ℕ, suc, ◌+◌, ◌*◌, ◌^◌, ◌<◌, ◌≤◌}
use native.Mathlib.Omega.{arith}
use lib.Dec.{eqb}
use lib.ListN.{length, get_or}
use borrow.Author.Tests.{le-leb, eqb-true, eqb-false}
use Rattle.std.specs.Prelude.{Result, Ok}
use Rattle.lists.specs.Every.{All}
use Rattle.lists.proofs.Bools.{both, cond_elim, false_unless}
use Rattle.lists.proofs.Every.{all_append, all_map, all_get}
use Rattle.station.specs.Limits.{last_tick}
use Rattle.text.specs.Hex.{is_blank}
use Rattle.text.specs.Numbers.{decimal}
use Rattle.text.specs.Quoted.{text}
use Rattle.election.specs.Commands.{Command, SetUp, Start, Crash, Link, Run, Lose, Report, Rank, Bytes, decode}
use Rattle.script.specs.Assembled.{Commands, made, of_words, of_line}
use Rattle.script.specs.Decimals.{is_number, shift, numbers}
use Rattle.script.specs.Entries.{Entry, longest_run, runs, table, none, entry, same, begins, first_from}
use Rattle.script.specs.Shown.{entry_of, numbers_of, spaced, written, is_idle}
use Rattle.script.specs.Split.{goes_on, words, inside, lead}
use Rattle.script.specs.declared.Why.{Why}
use Rattle.script.specs.declared.rules.words.Part.TheVariants.{Word, Uncommented, Line}
use Rattle.script.proofs.Splitting.{Each, lead-each, lead-all, words_append, words-one}
use Rattle.script.proofs.Values.{is_within, number_decimal, some_decimal, value_decimal, each-digit, digit-word, digit-uncommented, digit-line}

-- a command that has a line: its operands are bytes, and a run has as many ticks as two bytes count, and at least one
abbrev pub Writable : Command → Type 0
Writable (SetUp clock n period) = (n < 256) × (period < 256)
Writable (Start p) = p < 256
Writable (Crash p) = p < 256
Writable (Link p q d) = (p < 256) × (q < 256) × (d < 256)
Writable (Run t) = (1 ≤ t) × (t ≤ longest_run)
Writable (Lose p q) = (p < 256) × (q < 256)
Writable Report = Unit {0}
Writable (Rank p r) = (p < 256) × (r < 256)

-- such is every command of bytes but a run of no ticks
pub decoded_writable : (bytes : List ℕ) → Bytes bytes → is_idle (decode bytes) ≡ false → Writable (decode bytes)
unfolding decode
decoded_writable bytes o =
    cond_elim P (eqb b 1) (λ e i. (x, y))
    (λ e. cond_elim P (eqb b 2) (λ e i. x)
    (λ e. cond_elim P (eqb b 3) (λ e i. x)
    (λ e. cond_elim P (eqb b 4) (λ e i. (x, y, z))
    (λ e. cond_elim P (eqb b 5) (λ e i. (omega (arith, eqb-false (get_or bytes 1 0 + 256 * get_or bytes 2 0) 0 i), omega (arith, x, y)))
    (λ e. cond_elim P (eqb b 6) (λ e i. (x, y))
    (λ e. cond_elim P (eqb b 8) (λ e i. (x, y))
    (λ e. cond_elim P (eqb b 9) (λ e i. (x, y)) (λ e i. tt))))))))
  where
    P : Command → Type 0
    P c = is_idle c ≡ false → Writable c

    b : ℕ
    b = get_or bytes 0 0

    at : (k : ℕ) → get_or bytes k 0 < 256
    at k = all_get (λ (n : ℕ). n < 256) bytes k 0 (omega arith) o

    x : get_or bytes 1 0 < 256
    x = at 1

    y : get_or bytes 2 0 < 256
    y = at 2

    z : get_or bytes 3 0 < 256
    z = at 3

-- decimal digits are one word
words-number : (w : List ℕ) → 1 ≤ length w → is_number w ≡ true → words w ≡ w ∷ []
words-number [] h e = absurd (omega arith)
words-number (c ∷ w) h e = words-one c w (each-digit (inside Word) digit-word (c ∷ w) e)

pub words-decimal : (x : ℕ) → words (decimal x) ≡ decimal x ∷ []
words-decimal x = words-number (decimal x) (some_decimal x) (number_decimal x)

-- numbers behind words are words of their own
words-before : (line : List ℕ) (xs : List ℕ) → words (line ++ spaced xs) ≡ words line ++ words (spaced xs)
unfolding spaced text words is_blank
words-before line [] = rw (append-nil line, append-nil (words line))
words-before line (x ∷ xs) = words_append line (decimal x ++ spaced xs)

pub words-spaced : (xs : List ℕ) → words (spaced xs) ≡ map decimal xs
unfolding spaced text words is_blank
words-spaced [] = refl
words-spaced (x ∷ xs) = words-before (decimal x) xs ∙ rw (words-decimal x, words-spaced xs)

-- numbers in a range are read back
abbrev three_of : List ℕ → Result (List ℕ) Why
three_of [] = Ok (0 ∷ 0 ∷ 0 ∷ [])
three_of (x ∷ xs) = shift x (three_of xs)

numbers-read : (least most : ℕ) → most < 10 ^ 20 → (xs : List ℕ) → All (λ x. (least ≤ x) × (x ≤ most)) xs → numbers (length xs) least most (map decimal xs) ≡ three_of xs
unfolding numbers
numbers-read least most m [] h = refl
numbers-read least most m (x ∷ xs) h =
    rw (number_decimal x, value_decimal x (omega arith), is_within least x most h.0.0 h.0.1, numbers-read least most m xs h.1)

byte : (x : ℕ) → x < 256 → (0 ≤ x) × (x ≤ 255)
byte x h = (omega arith, omega arith)

one-read : (x : ℕ) → x < 256 → numbers 1 0 255 (decimal x ∷ []) ≡ Ok (x ∷ 0 ∷ 0 ∷ [])
one-read x h = numbers-read 0 255 (omega arith) (x ∷ []) (byte x h, tt)

two_read : (x y : ℕ) → (x < 256) × (y < 256) → numbers 2 0 255 (decimal x ∷ decimal y ∷ []) ≡ Ok (x ∷ y ∷ 0 ∷ [])
two_read x y h = numbers-read 0 255 (omega arith) (x ∷ y ∷ []) (byte x h.0, (byte y h.1, tt))

three-read : (x y z : ℕ) → (x < 256) × (y < 256) × (z < 256) → numbers 3 0 255 (decimal x ∷ decimal y ∷ decimal z ∷ []) ≡ Ok (x ∷ y ∷ z ∷ [])
three-read x y z h = numbers-read 0 255 (omega arith) (x ∷ y ∷ z ∷ []) (byte x h.0, (byte y h.1, (byte z h.2, tt)))

-- words that are the same
pub same-is : (v w : List ℕ) → same v w ≡ true → v ≡ w
unfolding same
same-is [] [] e = refl
same-is [] (d ∷ w) e = absurd (false≢true e)
same-is (c ∷ v) [] e = absurd (false≢true e)
same-is (c ∷ v) (d ∷ w) e = let h = both (eqb c d) (same v w) e in rw (eqb-true c d h.0, same-is v w h.1)

-- no number is the word "clocks"
no_clocks : (x : ℕ) → same (text "clocks") (decimal x) ≡ false
unfolding text is_number
no_clocks x = false_unless (same (text "clocks") (decimal x)) (λ e. true≢false (sym (number_decimal x) ∙ ap is_number (sym (same-is (text "clocks") (decimal x) e))))

-- a run of one command
pub one-run : (fuel t : ℕ) → t ≤ longest_run → runs (suc fuel) t ≡ Run t ∷ []
unfolding runs
one-run fuel t h = rw (le-leb t longest_run h)

-- the words of a command mean it
link-mean : (p q d : ℕ) → Writable (Link p q d) → (b : Bool) → eqb d 0 ≡ b → of_words (words (entry (cond b 5 4)).name ++ map decimal (p ∷ q ∷ cond b [] (d ∷ []))) ≡ Commands (Link p q d ∷ [])
unfolding of_words words text is_blank goes_on first_from begins same
link-mean p q d h true e = ap (made (entry 5)) (two_read p q (h.0, h.1)) ∙ ap (λ (x : ℕ). Commands (Link p q x ∷ [])) (sym (eqb-true d 0 e))
link-mean p q d h false e = ap (made (entry 4)) (three-read p q d h)

words-mean : (c : Command) → Writable c → of_words (words (entry (entry_of c)).name ++ map decimal (numbers_of c)) ≡ Commands (c ∷ [])
unfolding of_words words text is_blank goes_on first_from begins same entry_of numbers_of
words-mean (SetUp true n period) h = ap (made (entry 0)) (two_read n period h)
words-mean (SetUp false n period) h = rw (no_clocks n) (ap (made (entry 1)) (two_read n period h))
words-mean (Start p) h = ap (made (entry 2)) (one-read p h)
words-mean (Crash p) h = ap (made (entry 3)) (one-read p h)
words-mean (Link p q d) h = link-mean p q d h (eqb d 0) refl
words-mean (Run t) h = ap (made (entry 6)) (numbers-read 1 last_tick (omega arith) (t ∷ []) ((h.0, omega (arith, h.1)), tt)) ∙ ap Commands (one-run 15 t h.1)
words-mean (Lose p q) h = ap (made (entry 7)) (two_read p q h)
words-mean Report h = ap (made (entry 8)) (numbers-read 0 255 (omega arith) [] tt)
words-mean (Rank p r) h = ap (made (entry 9)) (two_read p r h)

-- what is written is no comment, and one line
abbrev Plain : ℕ → Bool
Plain c = inside Uncommented c && inside Line c

name-plain : (k : ℕ) → Each Plain (entry k).name
unfolding text inside lead
name-plain k = each-lead (entry k).name (all_get (λ (e : Entry). lead Plain e.name ≡ e.name) table k none refl (refl, (refl, (refl, (refl, (refl, (refl, (refl, (refl, (refl, (refl, tt)))))))))))
  where
    each-lead : (cs : List ℕ) → lead Plain cs ≡ cs → Each Plain cs
    each-lead cs e = rw e at (lead-each Plain cs)

spaced-plain : (xs : List ℕ) → Each Plain (spaced xs)
unfolding spaced text inside
spaced-plain [] = tt
spaced-plain (x ∷ xs) = (refl, all_append (λ (c : ℕ). Plain c ≡ true) (decimal x) (spaced xs) (each-digit Plain (λ c l h. rw (digit-uncommented c l h, digit-line c l h)) (decimal x) (number_decimal x)) (spaced-plain xs))

written-plain : (c : Command) → Each Plain (written c)
unfolding written
written-plain c = all_append (λ (c : ℕ). Plain c ≡ true) (entry (entry_of c)).name (spaced (numbers_of c)) (name-plain (entry_of c)) (spaced-plain (numbers_of c))

pub written-uncommented : (c : Command) → Each (inside Uncommented) (written c)
written-uncommented c = all_map (λ (x : ℕ). Plain x ≡ true) (λ (x : ℕ). inside Uncommented x ≡ true) (λ x e. (both (inside Uncommented x) (inside Line x) e).0) (written c) (written-plain c)

pub written-line : (c : Command) → Each (inside Line) (written c)
written-line c = all_map (λ (x : ℕ). Plain x ≡ true) (λ (x : ℕ). inside Line x ≡ true) (λ x e. (both (inside Uncommented x) (inside Line x) e).1) (written c) (written-plain c)

-- so the line of a command means that command
pub written-means : (c : Command) → Writable c → of_line (written c) ≡ Commands (c ∷ [])
unfolding of_line written
written-means c h =
    rw (lead-all (inside Uncommented) (written c) (written-uncommented c), words-before (entry (entry_of c)).name (numbers_of c), words-spaced (numbers_of c)) (words-mean c h)
