-- Laws of a frame's bytes.
use mathlib.Core.Path.{◌≡◌, refl, sym, ◌∙◌}
use mathlib.Core.List.{List, [], ◌∷◌, ◌++◌, append_assoc}
use Prim.Native.Nat.{ℕ, zero, suc, ◌+◌, ◌*◌, ◌/◌, ◌%◌, ◌<◌, ◌≤◌}
use native.Mathlib.Numerals.{add-one}
use native.Mathlib.Decide.{dec_lt}
use native.Mathlib.Omega.{arith}
use mathlib.Core.Bool.{cond}
use lib.Dec.{ltb}
use borrow.Author.Tests.{lt-ltb, le-ltb}
use lib.ListN.{length, get_or, take, set, replicate, length-append, get_or-replicate}
use lib.Seq.{take-suc, length-take-le, ext_get_or}
use Rattle.lists.specs.Entries.{up_to, over}
use Rattle.lists.proofs.Entries.{length-up_to, get_d_up_to, length_over, over-snoc, over-front, over-beyond, take_over}
use Rattle.frame.specs.Claims.{Octets}
use Rattle.frame.specs.Frame.{body, frame, header, frame_size}
use Rattle.frame.specs.Reading.{count_at, counts_of, sender_of, written_count}

pub length-body : (cs : List ℕ) → length (body cs) ≡ 2 * length cs
unfolding body
length-body [] = refl
length-body (c ∷ cs) = omega (arith, length-body cs)

pub length-frame : (n s : ℕ) (cs : List ℕ) → length (frame n s cs) ≡ frame_size (length cs)
unfolding frame
length-frame n s cs = omega (arith, length-body cs)

body-append : (cs ds : List ℕ) → body (cs ++ ds) ≡ body cs ++ body ds
unfolding body
body-append [] ds = refl
body-append (c ∷ cs) ds = rw (body-append cs ds)

frame-snoc : (n s : ℕ) (cs : List ℕ) (c : ℕ) → frame n s (cs ++ (c ∷ [])) ≡ (frame n s cs ++ (c % 256 ∷ [])) ++ (c / 256 ∷ [])
unfolding body frame
frame-snoc n s cs c = rw (body-append, append_assoc)

-- a turn of a loop that lays the frame over the front of old, count after count
pub frame-turn :
    (n s : ℕ) (cs old r : List ℕ) (k : ℕ) → k < length cs → frame_size (length cs) ≤ length old → r ≡ over (frame n s (take k cs)) old
    → set (set r (header + 2 * k) (get_or cs k 0 % 256)) (header + 2 * k + 1) (get_or cs k 0 / 256) ≡ over (frame n s (take (k + 1) cs)) old
frame-turn n s cs old r k h room e =
    let l : List ℕ = frame n s (take k cs) in
    let c : ℕ = get_or cs k 0 in
    let at : header + 2 * k ≡ length l = omega (arith, length-frame n s (take k cs), length-take-le k cs (omega arith)) in
    rw (add-one k, take-suc cs k 0, frame-snoc)
    (over-snoc (l ++ (c % 256 ∷ [])) old _ (header + 2 * k + 1) (c / 256) (omega (arith, length-append l (c % 256 ∷ []))) (omega arith)
    (over-snoc l old r (header + 2 * k) (c % 256) at (omega arith) e))

-- the low and the high byte of a count give it back
pair-at : (cs : List ℕ) (k : ℕ) → get_or (body cs) (2 * k) 0 + 256 * get_or (body cs) (2 * k + 1) 0 ≡ get_or cs k 0
unfolding body
pair-at [] k = refl
pair-at (c ∷ cs) zero = omega arith
pair-at (c ∷ cs) (suc k) =
    let e : 2 * suc k + 1 ≡ suc (suc (2 * k + 1)) = omega arith in
    let f : 2 * suc k ≡ suc (suc (2 * k)) = omega arith in
    rw (e, f) (pair-at cs k)

count_at-frame : (n s : ℕ) (cs : List ℕ) (k : ℕ) → count_at (frame n s cs) k ≡ get_or cs k 0
unfolding frame
count_at-frame n s cs k =
    let e : header + 2 * k + 1 ≡ suc (suc (suc (2 * k + 1))) = omega arith in
    let f : header + 2 * k ≡ suc (suc (suc (2 * k))) = omega arith in
    rw (e, f) (pair-at cs k)

pub length-counts_of : (n : ℕ) (bytes : List ℕ) → length (counts_of n bytes) ≡ n
unfolding counts_of
length-counts_of n bytes = length-up_to n (count_at bytes)

-- they stand in front of the zeros that fill them up to eight
pub padded : (n : ℕ) (bytes : List ℕ) → n ≤ 8 → up_to 8 (λ k. cond (ltb k n) (count_at bytes k) 0) ≡ over (counts_of n bytes) (replicate 8 0)
unfolding counts_of
padded n bytes h =
    ext_get_or 0 (up_to 8 each) (over (up_to n (count_at bytes)) (replicate 8 0))
    (length-up_to 8 each ∙ sym (length_over (up_to n (count_at bytes)) (replicate 8 0) (omega (arith, length-up_to n (count_at bytes)))))
    (λ i l. let below : i < 8 = omega (arith, length-up_to 8 each) in get_d_up_to 8 each i 0 below ∙ at i below (dec_lt i n))
  where
    each : ℕ → ℕ
    each k = cond (ltb k n) (count_at bytes k) 0

    at : (i : ℕ) → i < 8 → Dec (i < n) → each i ≡ get_or (over (up_to n (count_at bytes)) (replicate 8 0)) i 0
    at i l (yes b) =
        rw (lt-ltb i n b)
        (sym (over-front (up_to n (count_at bytes)) (replicate 8 0) i 0 (omega (arith, length-up_to n (count_at bytes))) ∙ get_d_up_to n (count_at bytes) i 0 b))
    at i l (no b) =
        rw (le-ltb i n (omega arith))
        (sym (over-beyond (up_to n (count_at bytes)) (replicate 8 0) i 0 (omega (arith, length-up_to n (count_at bytes))) ∙ get_or-replicate 8 i 0 0 l))

pub take_counts : (n : ℕ) (bytes : List ℕ) → take n (over (counts_of n bytes) (replicate 8 0)) ≡ counts_of n bytes
take_counts n bytes = take_over n (counts_of n bytes) (replicate 8 0) (length-counts_of n bytes)

-- the counts of a frame are those that it was made of
pub counts_of-frame : (n s : ℕ) (cs : List ℕ) → length cs ≡ n → counts_of n (frame n s cs) ≡ cs
unfolding counts_of
counts_of-frame n s cs e =
    ext_get_or 0 _ cs (length-up_to n _ ∙ sym e)
    (λ i h. get_d_up_to n _ i 0 (omega (arith, length-up_to n (count_at (frame n s cs)))) ∙ count_at-frame n s cs i)

-- bytes that begin with the mark are the frame of what is read from them
frame-none : (bytes : List ℕ) → get_or bytes 0 0 ≡ 0x10 → header ≤ length bytes → frame (written_count bytes) (sender_of bytes) [] ≡ take header bytes
unfolding body frame
frame-none [] m h = absurd (omega arith)
frame-none (x ∷ []) m h = absurd (omega arith)
frame-none (x ∷ y ∷ []) m h = absurd (omega arith)
frame-none (x ∷ y ∷ z ∷ l) m h = rw m

pub frame-front : (n : ℕ) (bytes : List ℕ) → Octets bytes → get_or bytes 0 0 ≡ 0x10 → frame_size n ≤ length bytes → frame (written_count bytes) (sender_of bytes) (counts_of n bytes) ≡ take (frame_size n) bytes
unfolding counts_of up_to
frame-front zero bytes o m h = frame-none bytes m h
frame-front (suc n) bytes o m h =
    let low : ℕ = header + 2 * n in
    let e : count_at bytes n % 256 ≡ get_or bytes low 0 = omega (arith, o low) in
    let f : count_at bytes n / 256 ≡ get_or bytes (low + 1) 0 = omega (arith, o low) in
    let i : low + 1 ≡ suc low = omega arith in
    let j : frame_size (suc n) ≡ suc (suc low) = omega arith in
    rw (frame-snoc, e, f, frame-front n bytes o m (omega arith), j, take-suc bytes (suc low) 0 (omega arith), i, take-suc bytes low 0 (omega arith))

-- the lengths of what is written and of what is read
pub ruleset lengths = (length-frame, length-counts_of)
