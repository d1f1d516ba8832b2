-- A command's line: its entry and numbers, its pieces, and how long it can be.
use mathlib.Core.Path.{◌≡◌, refl, sym, ap, ◌∙◌}
use mathlib.Core.Logic.{◌≢◌}
use mathlib.Core.List.{List, [], ◌∷◌, ◌++◌, append_assoc, append-nil}
use mathlib.Core.Bool.{Bool, true, false, cond}
use Prim.Native.Nat.{ℕ, zero, suc, ◌*◌, ◌<◌, ◌≤◌}
use native.Mathlib.Omega.{arith}
use lib.Dec.{eqb}
use lib.ListN.{length, get_or, take, length-append}
use lib.Seq.{take-suc, take_all}
use borrow.Author.Tests.{ne_eqb}
use Rattle.lists.specs.Join.{join_to}
use Rattle.text.specs.Numbers.{decimal, named, newline}
use Rattle.text.specs.Quoted.{text}
use Rattle.text.proofs.Digits.{length-decimal}
use Rattle.election.specs.Commands.{Command, SetUp, Start, Crash, Link, Run, Lose, Report, Rank, decode}
use Rattle.script.specs.Entries.{entry, entries}
use Rattle.script.specs.Pieces.{Phrased, line_room}
use Rattle.script.specs.Shown.{entry_of, numbers_of, spaced, written, line_of, is_idle}
use Rattle.script.specs.declared.rules.written.Phrase.{Phrase}

-- four bytes say which command it is
pub phrased : (bytes : List ℕ) {b x y z : ℕ} {r : Phrase} → b ≡ get_or bytes 0 0 → x ≡ get_or bytes 1 0 → y ≡ get_or bytes 2 0 → z ≡ get_or bytes 3 0
    → Phrased (decode (b ∷ x ∷ y ∷ z ∷ [])) r → Phrased (decode bytes) r
unfolding decode
phrased bytes eb ex ey ez p = rw (← eb, ← ex, ← ey, ← ez) p

-- a byte that is none of the others is a report's
pub report-else : (b x y z : ℕ) → b ≢ 1 → b ≢ 2 → b ≢ 3 → b ≢ 4 → b ≢ 5 → b ≢ 6 → b ≢ 8 → b ≢ 9 → decode (b ∷ x ∷ y ∷ z ∷ []) ≡ Report
unfolding decode
report-else b x y z n1 n2 n3 n4 n5 n6 n8 n9 = rw (ne_eqb b 1 n1, ne_eqb b 2 n2, ne_eqb b 3 n3, ne_eqb b 4 n4, ne_eqb b 5 n5, ne_eqb b 6 n6, ne_eqb b 8 n8, ne_eqb b 9 n9)

-- a run of no ticks is a run
pub no_run : (bytes : List ℕ) → get_or bytes 0 0 ≢ 5 → false ≡ is_idle (decode bytes)
unfolding decode
no_run bytes n =
    let b : ℕ = get_or bytes 0 0 in
    rw (ne_eqb b 5 n) (go (eqb b 1) (eqb b 2) (eqb b 3) (eqb b 4) (eqb b 6) (eqb b 8) (eqb b 9) (get_or bytes 1 0) (get_or bytes 2 0) (get_or bytes 3 0))
  where
    go : (a b c d e f g : Bool) (x y z : ℕ) → false ≡ is_idle (cond a (SetUp false x y) (cond b (Start x) (cond c (Crash x) (cond d (Link x y z) (cond e (Lose x y) (cond f (Rank x y) (cond g (SetUp true x y) Report)))))))
    go true b c d e f g x y z = refl
    go false true c d e f g x y z = refl
    go false false true d e f g x y z = refl
    go false false false true e f g x y z = refl
    go false false false false true f g x y z = refl
    go false false false false false true g x y z = refl
    go false false false false false false true x y z = refl
    go false false false false false false false x y z = refl

-- every command has an entry
pub entry-of : (c : Command) → entry_of c < entries
unfolding entry_of
entry-of (SetUp true n period) = omega arith
entry-of (SetUp false n period) = omega arith
entry-of (Start p) = omega arith
entry-of (Crash p) = omega arith
entry-of (Link p q d) = go (eqb d 0)
  where
    go : (b : Bool) → cond b 5 4 < entries
    go true = omega arith
    go false = omega arith
entry-of (Run t) = omega arith
entry-of (Lose p q) = omega arith
entry-of Report = omega arith
entry-of (Rank p r) = omega arith

-- the pieces of a line, by its entry and numbers
pub pieces : {c : Command} {r : Phrase} {n : ℕ} → Phrased c r → n ≡ (entry r.entry).numbers → line_of c ≡ ((entry r.entry).name ++ spaced (take n r.numbers)) ++ newline
unfolding written line_of
pieces {c} {r} {n} p e =
    ap (λ k. ((entry k).name ++ spaced (numbers_of c)) ++ newline) (sym p.place)
    ∙ ap (λ xs. ((entry r.entry).name ++ spaced xs) ++ newline) (sym p.numbers ∙ ap (λ m. take m r.numbers) (sym e))

pub line_fits : {c : Command} {r : Phrase} {n m : ℕ} → Phrased c r → n ≡ (entry r.entry).numbers → length (line_of c) ≤ m → length (((entry r.entry).name ++ spaced (take n r.numbers)) ++ newline) ≤ m
line_fits p e h = rw (pieces p e) at h

-- numbers written one after the other
abbrev pub nth : List ℕ → ℕ → List ℕ
nth xs i = named (text " ") (get_or xs i 0)

spaced-last : (xs : List ℕ) (x : ℕ) → spaced (xs ++ (x ∷ [])) ≡ spaced xs ++ named (text " ") x
unfolding spaced
spaced-last [] x = append-nil (named (text " ") x)
spaced-last (y ∷ xs) x = rw (spaced-last xs x) (simp append_assoc)

spaced-firsts : (n : ℕ) (xs : List ℕ) → n ≤ length xs → spaced (take n xs) ≡ join_to n (nth xs)
unfolding join_to spaced
spaced-firsts zero xs h = refl
spaced-firsts (suc n) xs h = ap spaced (take-suc xs n 0 (omega arith)) ∙ spaced-last (take n xs) (get_or xs n 0) ∙ ap (λ l. l ++ nth xs n) (spaced-firsts n xs (omega arith))

pub spaced-join : (xs : List ℕ) → spaced xs ≡ join_to (length xs) (nth xs)
spaced-join xs = ap spaced (sym (take_all (length xs) xs (omega arith))) ∙ spaced-firsts (length xs) xs (omega arith)

-- how long a line can be
spaced-room : (xs : List ℕ) → length (spaced xs) ≤ 21 * length xs
unfolding spaced text
spaced-room [] = omega arith
spaced-room (x ∷ xs) = omega (arith, length-append (named (text " ") x) (spaced xs), length-append (text " ") (decimal x), length-decimal x, spaced-room xs)

few : (c : Command) → length (numbers_of c) ≤ 3
unfolding numbers_of
few (SetUp clock n period) = omega arith
few (Start p) = omega arith
few (Crash p) = omega arith
few (Link p q d) = go (eqb d 0)
  where
    go : (b : Bool) → length (p ∷ q ∷ cond b [] (d ∷ [])) ≤ 3
    go true = omega arith
    go false = omega arith
few (Run t) = omega arith
few (Lose p q) = omega arith
few Report = omega arith
few (Rank p r) = omega arith

short : (c : Command) → length (entry (entry_of c)).name ≤ 13
unfolding entry_of text
short (SetUp true n period) = omega arith
short (SetUp false n period) = omega arith
short (Start p) = omega arith
short (Crash p) = omega arith
short (Link p q d) = go (eqb d 0)
  where
    go : (b : Bool) → length (entry (cond b 5 4)).name ≤ 13
    go true = omega arith
    go false = omega arith
short (Run t) = omega arith
short (Lose p q) = omega arith
short Report = omega arith
short (Rank p r) = omega arith

pub line_room_lem : (c : Command) → length (line_of c) ≤ line_room
unfolding written line_of
line_room_lem c =
    omega (arith, length-append ((entry (entry_of c)).name ++ spaced (numbers_of c)) newline, length-append (entry (entry_of c)).name (spaced (numbers_of c)), short c, spaced-room (numbers_of c), few c)
