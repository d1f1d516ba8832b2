-- What one call more takes of a text, or brings into a buffer.
use Rattle.std.proofs.Common.{◌≡◌, ℕ, ◌+◌, ◌-◌, ◌≤◌, List, ◌++◌, length, take, drop, ap, ◌∙◌, subst, arith, length-take-le, length-drop, take_all, take-append-drop}
use Rattle.std.proofs.lemmas.List.{take-append-le}
use Rattle.std.proofs.Math.Seq.{take-append-add}
use borrow.Rule.Slice.PartMut.{put_mid, post_of}

-- the front of a text, and the front of what is left
pub take-take_drop : (xs : List ℕ) (at n : ℕ) → at ≤ length xs → n ≤ length xs - at → take at xs ++ take n (take (length xs - at) (drop at xs)) ≡ take (at + n) xs
take-take_drop xs at n inside h =
    let whole = take_all (length xs - at) (drop at xs) (omega (arith, length-drop at xs)) in
    let front : length (take at xs) ≡ at = length-take-le at xs inside in
    let split = take-append-add (take at xs) (drop at xs) n in
    rw (whole, ← split, front) (ap (take (at + n)) (take-append-drop at xs))

-- the front of a buffer, and what came behind it
pub take-put_part : (at k n : ℕ) (xs ys : List ℕ) → at ≤ length xs → n ≤ length ys → take (at + n) (put_mid at k xs ys) ≡ take at xs ++ take n ys
take-put_part at k n xs ys inside h =
    let front : length (take at xs) ≡ at = length-take-le at xs inside in
    let step = take-append-add (take at xs) (ys ++ post_of at k xs) n in
    subst (λ m. take (m + n) (put_mid at k xs ys) ≡ take at xs ++ take n ys) front (step ∙ ap (λ l. take at xs ++ l) (take-append-le n ys (post_of at k xs) h))
