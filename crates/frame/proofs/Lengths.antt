-- The lengths of frames, and what has none of them.
use mathlib.Core.Path.{◌≡◌, sym, ap, ◌∙◌}
use mathlib.Core.List.{List}
use mathlib.Core.Bool.{Bool, true, false, not, true≢false}
use Prim.Native.Nat.{ℕ, ◌+◌, ◌-◌, ◌<◌}
use mathlib.Core.Logic.{inl, inr}
use Rattle.std.proofs.lemmas.Bool.{cases_eq}
use native.Mathlib.Omega.{arith}
use lib.Dec.{eqb}
use lib.ListN.{length, get_or}
use borrow.Author.Tests.{eqb-true, eq-eqb, ne_eqb}
use Rattle.std.specs.List.{list_any}
use Rattle.lists.specs.Test.{all_to, some_to}
use Rattle.lists.proofs.Bools.{false_unless}
use Rattle.lists.proofs.Test.{all_at, all_same, some_at, some_is}
use Rattle.frame.specs.Claims.{FrameLength, Sized, Lengths, NoLength, OldFrames, old_frame}
use Rattle.frame.specs.Frame.{frame_size, is_length}
use Rattle.frame.specs.Reading.{reading}
use Rattle.frame.proofs.Accepted.{writable, writing-of}
use Rattle.frame.proofs.Body.{length-body, length-frame}
use Rattle.frame.proofs.Elements.{some_to-each}
use Rattle.frame.proofs.Ranges.{stations-range}

pub frame-length : FrameLength
frame-length n sender counts buffer e =
    let w = writable n sender counts buffer e in
    rw (writing-of n sender counts buffer w, length-frame, w.size)

-- a test of all seven entries of a table says what each is
pub table-rule : (table : List ℕ) (k : ℕ) → all_to 7 (λ j. eqb (get_or table j 0) (frame_size (j + 2))) ≡ true → k < 7 → get_or table k 0 ≡ frame_size (k + 2)
table-rule table k all h = eqb-true (get_or table k 0) (frame_size (k + 2)) (all_at 7 k _ all h)

eqb_comm : (a b : ℕ) → eqb a b ≡ eqb b a
eqb_comm a b =
    elim (cases_eq a b) [
      | inl e ↦ eq-eqb a b e ∙ sym (eq-eqb b a (sym e))
      | inr n ↦ ne_eqb a b (λ e. n e) ∙ sym (ne_eqb b a (λ e. n (sym e)))
    ]

-- so a look through the table says whether a number is a length
pub any_is_length :
    (size : ℕ) (table : List ℕ) (r : Bool) → r ≡ list_any (λ y. eqb y size) table
    → length table ≡ 7 → all_to 7 (λ j. eqb (get_or table j 0) (frame_size (j + 2))) ≡ true → r ≡ is_length size
unfolding is_length some_to
any_is_length size table r value long rule =
    value
    ∙ sym (rw long at (some_to-each (λ y. eqb y size) 0 table))
    ∙ ap not (all_same 7 _ _ (λ k h. rw (table-rule table k rule h) (ap not (eqb_comm (frame_size (k + 2)) size))))

-- a length, compared with that for the stations at place k
abbrev pub is_at : ℕ → ℕ → Bool
is_at size k = eqb size (frame_size (k + 2))

pub lengths : Lengths
unfolding is_length
lengths size = (
  (λ e. let (k, l, i) = some_is 7 (is_at size) e in record { n = k + 2; low = omega arith; high = omega arith; is = eqb-true size (frame_size (k + 2)) i }),
  (λ (s : Sized size). some_at 7 (s.n - 2) (is_at size) (omega (arith, s.low, s.high)) (eq-eqb size (frame_size (s.n - 2 + 2)) (omega (arith, s.is, s.low)))),
)

pub no_length : NoLength
unfolding reading
no_length n bytes e low high =
    rw (
      (stations-range n).1 (low, high),
      ne_eqb (length bytes) (frame_size n) (λ i. true≢false (sym ((lengths (length bytes)).1 (record { n = n; low = low; high = high; is = i })) ∙ e)),
    )

-- the length of an old frame is even, and that of a frame is odd
pub old-length : (sender : ℕ) (counts : List ℕ) → is_length (length (old_frame sender counts)) ≡ false
unfolding old_frame
old-length sender counts = false_unless _ (λ e. let s = (lengths (length (old_frame sender counts))).0 e in omega (arith, s.is, length-body counts))

pub old-frames : OldFrames
old-frames n sender counts = no_length n (old_frame sender counts) (old-length sender counts)
