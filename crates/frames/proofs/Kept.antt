-- What the program keeps of a line tells as much as the line itself.
use mathlib.Core.Path.{◌≡◌, refl, sym, ap, subst, ◌∙◌}
use mathlib.Core.Logic.{◌⊎◌}
use mathlib.Core.Logic.◌⊎◌.{inl, inr}
use mathlib.Core.List.{List, [], ◌∷◌, ◌++◌, append-nil, append_assoc}
use mathlib.Core.Bool.{Bool, true, false, cond, not, ◌&&◌, ◌||◌, true≢false, false≢true, and-false}
use Prim.Native.Nat.{ℕ, ◌+◌, ◌*◌, ◌<◌, ◌≤◌, min}
use native.Mathlib.Decide.{dec_lt}
use native.Mathlib.Omega.{arith}
use lib.ListN.{length, take, length-append}
use Rattle.std.proofs.Common.{Option, Some, None, is_some}
use Rattle.std.specs.Option.{unwrap_or}
use Rattle.std.proofs.lemmas.List.{length-take}
use lib.Seq.{take_all, take-append-le, length-take-le, get_or-take}
use lib.Dec.{eqb, ltb}
use borrow.Author.Tests.{lt-ltb, le-ltb, eqb-true, ne_eqb}
use Rattle.lists.proofs.Bools.{either, false_unless}
use Rattle.frame.specs.Frame.{frame_size, stations_in}
use Rattle.frame.specs.Reading.{reading}
use Rattle.frame.specs.Stamp.{stamp_size, stamp_reading}
use Rattle.frame.proofs.Lengths.{lengths}
use Rattle.frame.proofs.Ranges.{stations-range}
use Rattle.frames.specs.Explained.{own_count, frame_text, found, line_text}
use Rattle.text.specs.Hex.{Spelled, is_blank, digit_of, is_digit, no_hex, with_first, spelled}
use Rattle.frames.specs.Line.{kept, begin, read, told}
use Rattle.frames.specs.Line.{Line}
use Rattle.frames.proofs.Own.{own-two}
use Rattle.frames.proofs.Spelling.{spelled_from, from-left}

-- the first bytes, as many as are kept, say all of a frame
long : (n : ℕ) (b : Bool) (bytes cut : List ℕ) → stations_in n ≡ b → kept ≤ length bytes → kept ≤ length cut → reading n cut ≡ reading n bytes
unfolding reading
long n false bytes cut e h g = rw e
long n true bytes cut e h g =
    let r = (stations-range n).0 e in
    rw (e, ne_eqb (length bytes) (frame_size n) (λ i. omega arith), ne_eqb (length cut) (frame_size n) (λ i. omega arith))

no_frame : (bytes : List ℕ) → kept ≤ length bytes → own_count bytes ≡ 2
no_frame bytes h = own-two bytes (false_unless _ (λ e. let s = (lengths (length bytes)).0 e in omega (arith, s.is, s.high)))

-- nor is it a clock frame
long_stamp : (bytes cut : List ℕ) → kept ≤ length bytes → kept ≤ length cut → stamp_reading 8 cut ≡ stamp_reading 8 bytes
unfolding stations_in stamp_reading
long_stamp bytes cut h g = rw (ne_eqb (length bytes) stamp_size (λ i. omega arith), ne_eqb (length cut) stamp_size (λ i. omega arith))

pub first-kept : (bytes : List ℕ) → frame_text (take kept bytes) ≡ frame_text bytes
unfolding stations_in frame_text
first-kept bytes = go (dec_lt (length bytes) kept)
  where
    go : Dec (length bytes < kept) → frame_text (take kept bytes) ≡ frame_text bytes
    go (yes l) = rw (take_all kept bytes (omega arith))
    go (no l) =
        let all : kept ≤ length bytes = omega arith in
        let cut : kept ≤ length (take kept bytes) = omega (arith, length-take-le kept bytes all) in
        rw (
          get_or-take kept bytes 0 0 (omega arith),
          long_stamp bytes (take kept bytes) all cut,
          no_frame bytes all,
          no_frame (take kept bytes) cut,
          long 2 true bytes (take kept bytes) refl all cut,
        )

-- what a line is explained by: whether it is hex, and then its bytes
same-found : (k : ℕ) (hex : Bool) (a b : List ℕ) → (hex ≡ true → frame_text a ≡ frame_text b) → line_text k (record { hex = hex; bytes = a }) ≡ line_text k (record { hex = hex; bytes = b })
unfolding found line_text
same-found k true a b e = rw (e refl)
same-found k false a b e = refl

-- the bytes so far are B, of which the first are kept
pub record Keeps (s : Line) (B : List ℕ) : Type 0 where
  pub hex : s.hex ≡ true
  pub bytes : s.bytes ≡ take kept B

-- the characters of a line, one after the other
unfoldable pub read_all : Line → List ℕ → Line
read_all s [] = s
read_all s (c ∷ cs) = read_all (read s c) cs

-- what is no hex stays so
lost : (s : Line) (cs : List ℕ) → s.hex ≡ false → told (read_all s cs) ≡ line_text s.number no_hex
unfolding read_all read found line_text
lost s [] e = rw e
lost s (c ∷ cs) e = lost (read s c) cs (rw e)

-- the bytes so far, and what the rest spells
abbrev prefixed : List ℕ → Spelled → Spelled
prefixed B x = record { hex = x.hex; bytes = B ++ x.bytes }

no_digit : (c : ℕ) → is_blank c ≡ true → is_digit c ≡ false
unfolding is_blank digit_of
no_digit c e = go (either (eqb c 32 || eqb c 9) (eqb c 13) e)
  where
    at : (x : ℕ) → c ≡ x → is_digit x ≡ false → is_digit c ≡ false
    at x i d = rw i d

    first : (eqb c 32 ≡ true) ⊎ (eqb c 9 ≡ true) → is_digit c ≡ false
    first (inl i) = at 32 (eqb-true c 32 i) refl
    first (inr i) = at 9 (eqb-true c 9 i) refl

    go : ((eqb c 32 || eqb c 9) ≡ true) ⊎ (eqb c 13 ≡ true) → is_digit c ≡ false
    go (inl i) = first (either (eqb c 32) (eqb c 9) i)
    go (inr i) = at 13 (eqb-true c 13 i) refl

-- a character that ends no byte
keeps_same : (s : Line) (c : ℕ) (B : List ℕ) → Keeps s B → (is_digit c && is_some s.high) ≡ false → (read s c).hex ≡ true → Keeps (read s c) B
unfolding read
keeps_same s c B k e h = record { hex = h; bytes = none (is_digit c) (is_some s.high) e ∙ k.bytes }
  where
    none : (d w : Bool) → (d && w) ≡ false → cond (d && w && ltb (length s.bytes) kept) (s.bytes ++ ((16 * unwrap_or s.high 0 + digit_of c) ∷ [])) s.bytes ≡ s.bytes
    none true true e = absurd (true≢false e)
    none true false e = refl
    none false w e = refl

-- and one that ends a byte
keeps_more : (s : Line) (c : ℕ) (B : List ℕ) (h : ℕ) → Keeps s B → is_digit c ≡ true → s.high ≡ Some h → Keeps (read s c) (B ++ ((16 * h + digit_of c) ∷ []))
unfolding read
keeps_more s c B h k d w = go (dec_lt (length s.bytes) kept)
  where
    b : ℕ
    b = 16 * h + digit_of c

    B' : List ℕ
    B' = B ++ (b ∷ [])

    more : length B' ≡ length B + 1
    more = length-append B (b ∷ [])

    size : length s.bytes ≡ min kept (length B)
    size = ap length k.bytes ∙ length-take kept B

    go : Dec (length s.bytes < kept) → Keeps (read s c) B'
    go (yes l) =
        let whole : take kept B ≡ B = take_all kept B (omega (arith, size)) in
        record {
          hex = rw (d, k.hex);
          bytes = rw (d, w, lt-ltb (length s.bytes) kept l, take_all kept B' (omega (arith, more, size, l)), k.bytes, whole);
        }
    go (no l) =
        let all : kept ≤ length B = omega (arith, size) in
        record {
          hex = rw (d, k.hex);
          bytes = rw (d, w, le-ltb (length s.bytes) kept (omega arith)) (k.bytes ∙ sym (take-append-le kept B (b ∷ []) all));
        }

-- a byte more before what the rest spells
shift : (k : ℕ) (B : List ℕ) (b : ℕ) (x : Spelled) → line_text k (prefixed (B ++ (b ∷ [])) x) ≡ line_text k (prefixed B (with_first b x))
shift k B b x = go x.hex
  where
    go : (h : Bool) → line_text k (record { hex = h; bytes = (B ++ (b ∷ [])) ++ x.bytes }) ≡ line_text k (record { hex = h; bytes = B ++ cond h (b ∷ x.bytes) [] })
    go true = rw (append_assoc B (b ∷ []) x.bytes)
    go false = same-found k false _ _ (λ e. absurd (false≢true e))

-- so what is told at the end is what the line spells
goes : (s : Line) (B cs : List ℕ) → Keeps s B → told (read_all s cs) ≡ line_text s.number (prefixed B (spelled_from s.high cs))
unfolding read_all read spelled_from
goes s B [] k = end s.high
  where
    end : (w : Option ℕ) → line_text s.number (record { hex = s.hex && not (is_some w); bytes = s.bytes }) ≡ line_text s.number (prefixed B (spelled_from w []))
    end None = rw k.hex (same-found s.number true _ _ (λ e. rw (k.bytes, append-nil B) (first-kept B)))
    end (Some h) = rw k.hex (same-found s.number false _ _ (λ e. absurd (false≢true e)))
goes s B (c ∷ cs) k = go s.high (is_blank c) (is_digit c) refl refl refl (λ B' k'. goes (read s c) B' cs k')
  where
    Told : Spelled → Type 0
    Told x = told (read_all (read s c) cs) ≡ line_text s.number (prefixed B x)

    nowhere : (read s c).hex ≡ false → Told no_hex
    nowhere e = lost (read s c) cs e ∙ same-found s.number false _ _ (λ i. absurd (false≢true i))

    on : {h : Option ℕ} (B' : List ℕ) → (read s c).high ≡ h → told (read_all (read s c) cs) ≡ line_text s.number (prefixed B' (spelled_from (read s c).high cs)) → told (read_all (read s c) cs) ≡ line_text s.number (prefixed B' (spelled_from h cs))
    on {h} B' e t = subst (λ x. told (read_all (read s c) cs) ≡ line_text s.number (prefixed B' (spelled_from x cs))) e t

    go :
        (w : Option ℕ) (bl dg : Bool) → s.high ≡ w → is_blank c ≡ bl → is_digit c ≡ dg
        → ((B' : List ℕ) → Keeps (read s c) B' → told (read_all (read s c) cs) ≡ line_text s.number (prefixed B' (spelled_from (read s c).high cs)))
        → Told (cond (is_some w) (cond dg (with_first (16 * unwrap_or w 0 + digit_of c) (spelled_from None cs)) no_hex) (cond bl (spelled_from None cs) (cond dg (spelled_from (Some (digit_of c)) cs) no_hex)))
    go None true dg ew eb ed ih =
        let nd = no_digit c eb in
        on B (rw nd) (ih B (keeps_same s c B k (rw nd) (rw (k.hex, nd, eb, ew))))
    go None false true ew eb ed ih = on B (rw (ed, ew)) (ih B (keeps_same s c B k (rw (ed, ew)) (rw (k.hex, ed))))
    go None false false ew eb ed ih = nowhere (rw (k.hex, ed, eb))
    go (Some h) bl true ew eb ed ih = on (B ++ ((16 * h + digit_of c) ∷ [])) (rw (ed, ew)) (ih (B ++ ((16 * h + digit_of c) ∷ [])) (keeps_more s c B h k ed ew)) ∙ shift s.number B (16 * h + digit_of c) (spelled_from None cs)
    go (Some h) bl false ew eb ed ih = nowhere (rw (k.hex, ed, ew) (and-false (is_blank c)))

-- and a line that is read from its beginning tells what it spells
pub whole-line : (k : ℕ) (line : List ℕ) → told (read_all (begin k) line) ≡ line_text k (spelled line)
unfolding begin
whole-line k line = goes (begin k) [] line (record { hex = refl; bytes = refl }) ∙ ap (line_text k) (from-left line)
