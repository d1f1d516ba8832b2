-- Laws of a list laid over the front of a buffer, piece by piece.
use mathlib.Core.Path.{◌≡◌, refl, sym, ap, ◌∙◌}
use mathlib.Core.List.{List, [], ◌∷◌, ◌++◌, append_assoc, append-nil}
use Prim.Native.Nat.{ℕ, zero, suc, ◌+◌, ◌-◌, ◌^◌, ◌<◌, ◌≤◌}
use native.Mathlib.Decide.{dec_lt}
use native.Mathlib.Omega.{arith}
use native.Mathlib.Numerals.{add-one}
use lib.ListN.{length, get_or, set, take, drop, length-append, length-drop, drop_of_length-le}
use lib.Seq.{drop-drop, drop_at, take_at, take-suc, take_all}
use borrow.Rule.Slice.PartMut.{put_mid}
use Rattle.lists.specs.Entries.{over}
use Rattle.lists.proofs.Entries.{over-nil, over-snoc, length_over, take_over}
use Rattle.lists.specs.Join.{join_to}
use mathlib.Core.Bool.{Bool, true, false, cond}
use Rattle.std.specs.Bool.{then_some}
use Rattle.text.specs.Choice.{or_dash}
use Rattle.text.specs.Wrote.{Wrote}

-- an entry more at the place after what was written
pub wrote_byte : {l old new : List ℕ} {at : ℕ} (v : ℕ) → Wrote l old at new → at < length old → Wrote (l ++ (v ∷ [])) old (at + 1) (set new at v)
wrote_byte {l} {old} {new} {at} v w h =
    record { count = omega (arith, w.count, length-append l (v ∷ [])); bytes = over-snoc l old new at v w.count h w.bytes }

-- nothing written yet
pub wrote_none : (old : List ℕ) → Wrote [] old 0 old
wrote_none old = record { count = refl; bytes = over-nil old }

pub wrote_length : {l old new : List ℕ} {at : ℕ} → Wrote l old at new → length l ≤ length old → length new ≡ length old
wrote_length {l} {old} w h = rw w.bytes (length_over l old h)

-- what was written is the front of the buffer
pub wrote_front : {l old new : List ℕ} {at : ℕ} → Wrote l old at new → take at new ≡ l
wrote_front {l} {old} {at = at} w = rw w.bytes (take_over at l old (sym w.count))

pub wrote_inside : {l old new : List ℕ} {at : ℕ} → Wrote l old at new → at ≤ length new
unfolding over
wrote_inside {l} {old} w = omega (arith, w.count, ap length w.bytes, length-append l (drop (length l) old))

-- a copy: an entry more, and where it ends
pub wrote_take : {old new : List ℕ} {i : ℕ} (word : List ℕ) (d : ℕ) → Wrote (take i word) old i new → i < length word → i < length old → Wrote (take (i + 1) word) old (i + 1) (set new i (get_or word i d))
wrote_take {i = i} word d w h room = rw (add-one i, take-suc word i d h, ← add-one i) (wrote_byte (get_or word i d) w room)

pub wrote_whole : {old new : List ℕ} {i : ℕ} (word : List ℕ) → Wrote (take i word) old i new → length word ≤ i → Wrote word old i new
wrote_whole {i = i} word w h = rw (take_all i word h) at w

-- a second list written into the part from the place after the first: both stand there
pub wrote_part : {l m old b ys : List ℕ} {at r : ℕ} → Wrote l old at b → Wrote m (take (length b - at) (drop at b)) r ys → Wrote (l ++ m) old (at + r) (put_mid at (length b - at) b ys)
unfolding over
wrote_part {l} {m} {old} {b} {ys} {at} {r} w v =
    let here : length l ≡ at = sym w.count in
    let front : take at b ≡ l = rw w.bytes (take_at l (drop (length l) old) at here) in
    let rest : drop at b ≡ drop at old = rw (w.bytes, here) (drop_at l (drop at old) at here) in
    let end : drop (length b - at) (drop at b) ≡ [] = drop_of_length-le (drop at b) {i = length b - at} (omega (arith, length-drop at b)) in
    let all : take (length b - at) (drop at b) ≡ drop at old = take_all (length b - at) (drop at b) (omega (arith, length-drop at b)) ∙ rest in
    let new : ys ≡ m ++ drop (at + length m) old = v.bytes ∙ rw (all, drop-drop (length m) at old) in
    record {
      count = omega (arith, w.count, v.count, length-append l m);
      bytes = rw (front, end, append-nil, new, length-append, here) (sym (append_assoc l m (drop (at + length m) old)));
    }

-- there is room for the second where there is room for both
pub room_at : {l old b : List ℕ} {at : ℕ} (m : List ℕ) → Wrote l old at b → length (l ++ m) ≤ length old → at ≤ length b
room_at {l} {old} m w h = let k : length l ≤ length old = omega (arith, length-append l m) in omega (arith, w.count, wrote_length w k)

pub room-part : {l old b : List ℕ} {at : ℕ} (m : List ℕ) → Wrote l old at b → length (l ++ m) ≤ length old → length m ≤ length (take (length b - at) (drop at b))
room-part {l} {old} {b} {at} m w h =
    let k : length l ≤ length old = omega (arith, length-append l m) in
    rw (take_all (length b - at) (drop at b) (omega (arith, length-drop at b))) (omega (arith, w.count, wrote_length w k, length-append l m, length-drop at b))

-- and the place after both is no further than the buffer's end
pub ends-in : {l old b : List ℕ} {at : ℕ} → Wrote l old at b → length l ≤ length old → length old < 2 ^ 64 → at < 2 ^ 64
ends-in w h k = omega (arith, w.count)

-- there is room for the first of two
pub room-first : (l m : List ℕ) {n : ℕ} → length (l ++ m) ≤ n → length l ≤ n
room-first l m h = omega (arith, length-append l m)

-- there is room for two of three
pub room-two : {l old b : List ℕ} {at : ℕ} (m k : List ℕ) → Wrote l old at b → length (l ++ m ++ k) ≤ length old → length (l ++ m) ≤ length old
room-two {l} m k w h = room-first (l ++ m) k h

-- pieces written one after the other: where a loop begins, a turn of it, and the room that it has
pub join_none : (f : ℕ → List ℕ) (old : List ℕ) → Wrote (join_to 0 f) old 0 old
unfolding join_to
join_none f old = wrote_none old

pub join_turn : (f : ℕ → List ℕ) (k : ℕ) {old b ys : List ℕ} {at r : ℕ} → Wrote (join_to k f) old at b → Wrote (f k) (take (length b - at) (drop at b)) r ys → Wrote (join_to (k + 1) f) old (at + r) (put_mid at (length b - at) b ys)
unfolding join_to
join_turn f k w v = rw (add-one k) (wrote_part w v)

pub join_room : (f : ℕ → List ℕ) (k n : ℕ) {m : ℕ} → k < n → length (join_to n f) ≤ m → length (join_to k f ++ f k) ≤ m
unfolding join_to
join_room f k zero h r = absurd (omega arith)
join_room f k (suc n) {m} h r = go (dec_lt k n) (join_room f k n)
  where
    go : Dec (k < n) → (k < n → length (join_to n f) ≤ m → length (join_to k f ++ f k) ≤ m) → length (join_to k f ++ f k) ≤ m
    go (yes l) q = q l (omega (arith, length-append (join_to n f) (f n)))
    go (no l) q = let e : k ≡ n = omega arith in rw e r

-- a loop that adds up their lengths
pub join_size : (f : ℕ → List ℕ) (k : ℕ) {size r : ℕ} → size ≡ length (join_to k f) → r ≡ length (f k) → size + r ≡ length (join_to (k + 1) f)
unfolding join_to
join_size f k e h = rw (add-one k, length-append (join_to k f) (f k), e, h)

-- which stay below what all of them stay below
pub join_below : (f : ℕ → List ℕ) (k n : ℕ) {size r m : ℕ} → k < n → length (join_to n f) < m → size ≡ length (join_to k f) → r ≡ length (f k) → size + r < m
join_below f k n h b e g = omega (arith, join_room f k n {m = length (join_to n f)} h (omega arith), length-append (join_to k f) (f k), b, e, g)

-- a text that is shown or not
pub or_dash-then_some : {A : Type 0} (f : A → List ℕ) (b : Bool) (x : A) → or_dash f (then_some b x) ≡ cond b (f x) (0x2d ∷ [])
or_dash-then_some f true x = refl
or_dash-then_some f false x = refl
