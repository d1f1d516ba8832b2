-- What is assembled are bytes, and no more than fit.
use mathlib.Core.Path.{◌≡◌, refl, ap, ◌∙◌}
use mathlib.Core.List.{List, [], ◌∷◌}
use mathlib.Core.Bool.{Bool, true, false, cond}
use Prim.Native.Nat.{ℕ, zero, suc, ◌+◌, ◌-◌, ◌<◌, ◌≤◌}
use native.Mathlib.Omega.{arith}
use lib.Dec.{leb, eqb}
use lib.ListN.{length, drop, length-append}
use borrow.Author.Tests.{leb-true}
use Rattle.lists.proofs.Every.{all_append, all_get}
use Rattle.std.specs.Prelude.{Result, Ok, Err, get_or}
use Rattle.fit.specs.Fit.{within}
use Rattle.election.specs.Commands.{Command, Run, Bytes}
use Rattle.election.specs.Schedule.{most_bytes}
use Rattle.script.specs.Assembled.{Meant, Commands, Wrong, made, of_words, of_line, Schedule, of_lines}
use Rattle.script.specs.Claims.{GivesBytes}
use Rattle.script.specs.Decimals.{is_number, value_of, shift, numbers}
use Rattle.script.specs.Encoded.{encode, encode_all}
use Rattle.script.specs.Entries.{Entry, longest_run, runs, most_runs, table, entries, none, entry, chosen}
use Rattle.script.specs.Split.{lines, words, inside, lead}
use Rattle.script.specs.declared.Why.{Why}
use Rattle.script.specs.declared.Why.TheVariants.{UnknownWord, NumberRange}
use Rattle.script.specs.declared.rules.words.Part.TheVariants.{Uncommented}
use Rattle.script.proofs.Taking.{Taken, taken}
use Rattle.script.proofs.Values.{within-is}

-- numbers up to a bound
abbrev pub UpTo : ℕ → Result (List ℕ) Why → Type 0
UpTo most (Ok xs) = (get_or xs 0 0 ≤ most) × (get_or xs 1 0 ≤ most) × (get_or xs 2 0 ≤ most)
UpTo most (Err why) = Unit {0}

-- what is read is in the range
pub numbers-small : (n least most : ℕ) (ws : List (List ℕ)) → UpTo most (numbers n least most ws)
unfolding numbers
numbers-small zero least most [] = (omega arith, omega arith, omega arith)
numbers-small zero least most (w ∷ ws) = tt
numbers-small (suc n) least most [] = tt
numbers-small (suc n) least most (w ∷ ws) = go (is_number w) (within least (value_of w) most) refl (numbers n least most ws) (numbers-small n least most ws)
  where
    go : (a b : Bool) → within least (value_of w) most ≡ b → (m : Result (List ℕ) Why) → UpTo most m → UpTo most (cond a (cond b (shift (value_of w) m) (Err NumberRange)) (Err UnknownWord))
    go true true e (Ok xs) h = ((within-is least (value_of w) most e).1, h.0, h.1)
    go true true e (Err why) h = tt
    go true false e m h = tt
    go false b e m h = tt

-- a run is bytes
run-bytes : (t : ℕ) → t ≤ longest_run → Bytes (encode (Run t))
unfolding encode
run-bytes t h = (omega arith, (omega arith, (omega arith, tt)))

runs-bytes : (fuel t : ℕ) → Bytes (encode_all (runs fuel t))
unfolding runs encode_all
runs-bytes zero t = tt
runs-bytes (suc fuel) t = go (leb t longest_run) refl (runs-bytes fuel (t - longest_run))
  where
    go : (b : Bool) → leb t longest_run ≡ b → Bytes (encode_all (runs fuel (t - longest_run))) → Bytes (encode_all (cond b (Run t ∷ []) (Run longest_run ∷ runs fuel (t - longest_run))))
    go true e r = all_append (λ (x : ℕ). x < 256) (encode (Run t)) [] (run-bytes t (leb-true t longest_run e)) tt
    go false e r = all_append (λ (x : ℕ). x < 256) (encode (Run longest_run)) (encode_all (runs fuel (t - longest_run))) (run-bytes longest_run (omega arith)) r

-- and so is what an entry makes of such numbers
abbrev InBytes : Entry → Type 0
InBytes e = (x y z : ℕ) → x ≤ e.most → y ≤ e.most → z ≤ e.most → Bytes (encode_all (e.makes x y z))

entry-bytes : (k : ℕ) → InBytes (entry k)
unfolding encode_all encode
entry-bytes k =
    all_get InBytes table k none (λ x y z a b c. tt) (
      λ x y z a b c. (omega arith, (omega arith, (omega arith, tt))),
      (
        λ x y z a b c. (omega arith, (omega arith, (omega arith, tt))),
        (
          λ x y z a b c. (omega arith, (omega arith, tt)),
          (
            λ x y z a b c. (omega arith, (omega arith, tt)),
            (
              λ x y z a b c. (omega arith, (omega arith, (omega arith, (omega arith, tt)))),
              (
                λ x y z a b c. (omega arith, (omega arith, (omega arith, (omega arith, tt)))),
                (
                  λ x y z a b c. runs-bytes most_runs x,
                  (
                    λ x y z a b c. (omega arith, (omega arith, (omega arith, tt))),
                    (
                      λ x y z a b c. (omega arith, tt),
                      (λ x y z a b c. (omega arith, (omega arith, (omega arith, tt))), tt),
                    ),
                  ),
                ),
              ),
            ),
          ),
        ),
      ),
    )

-- the commands of a line are bytes
abbrev Coded : Meant → Type 0
Coded (Commands cs) = Bytes (encode_all cs)
Coded (Wrong why) = Unit {0}

made_bytes : (k : ℕ) (m : Result (List ℕ) Why) → UpTo (entry k).most m → Coded (made (entry k) m)
made_bytes k (Ok xs) h = entry-bytes k (get_or xs 0 0) (get_or xs 1 0) (get_or xs 2 0) h.0 h.1 h.2
made_bytes k (Err why) h = tt

words-bytes : (ws : List (List ℕ)) → Coded (of_words ws)
unfolding of_words encode_all
words-bytes [] = tt
words-bytes (w ∷ ws) = go (chosen (w ∷ ws)) (eqb (chosen (w ∷ ws)) entries)
  where
    go : (k : ℕ) (b : Bool) → Coded (cond b (Wrong UnknownWord) (made (entry k) (numbers (entry k).numbers (entry k).least (entry k).most (drop (length (words (entry k).name)) (w ∷ ws)))))
    go k true = tt
    go k false = made_bytes k (numbers (entry k).numbers (entry k).least (entry k).most (drop (length (words (entry k).name)) (w ∷ ws))) (numbers-small (entry k).numbers (entry k).least (entry k).most (drop (length (words (entry k).name)) (w ∷ ws)))

line_bytes : (l : List ℕ) (cs : List Command) → of_line l ≡ Commands cs → Bytes (encode_all cs)
unfolding of_line
line_bytes l cs e = rw e at (words-bytes (words (lead (inside Uncommented) l)))

-- the bytes of lines, with so many before them
pub lines-small : (ls : List (List ℕ)) (k size room : ℕ) (bytes : List ℕ) → of_lines k size room ls ≡ Schedule bytes → size ≤ most_bytes → size ≤ room → Bytes bytes × (size + length bytes ≤ most_bytes) × (size + length bytes ≤ room)
unfolding of_lines
lines-small [] k size room bytes e few small = let n : bytes ≡ [] = cc in rw n (tt, omega arith, omega arith)
lines-small (l ∷ ls) k size room bytes e few small =
    let t : Taken k size room l ls bytes = taken k size room l ls bytes e in
    let r = lines-small ls (k + 1) (size + length (encode_all t.commands)) room t.more t.others t.few t.small in
    let long : length bytes ≡ length (encode_all t.commands) + length t.more = ap length t.all ∙ length-append (encode_all t.commands) t.more in
    (rw t.all (all_append (λ (x : ℕ). x < 256) (encode_all t.commands) t.more (line_bytes l t.commands t.means) r.0), omega (arith, r.1), omega (arith, r.2))

pub gives_bytes : GivesBytes
gives_bytes space text bytes e =
    let s = lines-small (lines text) 1 0 space bytes e (omega arith) (omega arith) in
    record { each = s.0; few = omega (arith, s.1); room = omega (arith, s.2) }
