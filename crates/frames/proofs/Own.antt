-- The number of stations that a LEADER frame has in itself, and what is read for it.
use mathlib.Core.Path.{◌≡◌, refl, sym, ap, subst, ◌∙◌}
use mathlib.Core.Logic.{◌↔◌}
use mathlib.Core.List.{List}
use mathlib.Core.Bool.{Bool, true, false, true≢false}
use Prim.Native.Nat.{ℕ, ◌+◌, ◌*◌, ◌≤◌}
use native.Mathlib.Omega.{arith}
use lib.ListN.{length, replicate}
use borrow.Author.Tests.{eq-eqb}
use Rattle.lists.specs.Entries.{over}
use Rattle.lists.proofs.Entries.{over-front}
use Rattle.lists.proofs.First.{first-is}
use Rattle.text.proofs.Same.{vector-same}
use Rattle.frame.specs.Claims.{Octets, WellFormed, old_frame}
use Rattle.frame.specs.Frame.{frame, frame_size, is_length}
use Rattle.frame.specs.Reading.{written_count, read_tests, reading}
use Rattle.frame.proofs.Accepted.{readable}
use Rattle.frame.proofs.Body.{length-frame}
use Rattle.frame.proofs.Lengths.{lengths, no_length, old-length}
use Rattle.frame.proofs.Ranges.{stations-range}
use Rattle.frame.proofs.WellFormed.{reading-formed, reads-well_formed}
use Rattle.frames.specs.Claims.{Some, OwnCount, NeverAnother, OldTold}
use Rattle.frames.specs.Explained.{own_count, counted, received, answered}

-- the third byte, where the length is that of a frame
pub own-third : (bytes : List ℕ) → is_length (length bytes) ≡ true → written_count bytes ≡ own_count bytes
unfolding own_count
own-third bytes e = rw e

pub own-two : (bytes : List ℕ) → is_length (length bytes) ≡ false → own_count bytes ≡ 2
unfolding own_count
own-two bytes e = rw e

pub own-count : OwnCount
unfolding frame
own-count n bytes w =
    let size : length bytes ≡ 3 + 2 * n = ap length w.is-frame ∙ length-frame n w.sender w.counts ∙ ap frame_size w.size in
    sym (own-third bytes ((lengths (length bytes)).1 (record { n = n; low = w.stations.0; high = w.stations.1; is = size }))) ∙ ap written_count w.is-frame

-- so bytes are read for it exactly when they are well formed for some number
pub own-formed : (bytes : List ℕ) → Octets bytes → ((reading (own_count bytes) bytes).refusal ≡ 0) ↔ Some bytes
own-formed bytes o = (
  (λ e. record { n = own_count bytes; formed = (reads-well_formed (own_count bytes) bytes o).0 e }),
  (λ s. subst (λ n. (reading n bytes).refusal ≡ 0) (sym (own-count s.n bytes s.formed)) ((reads-well_formed s.n bytes o).1 s.formed)),
)

-- and told with the sender and the counts
pub answered-formed : (n : ℕ) (bytes : List ℕ) (w : WellFormed n bytes) → answered (own_count bytes) (reading (own_count bytes) bytes) ≡ received n w.sender w.counts
unfolding answered received counted
answered-formed n bytes w =
    rw (own-count n bytes w, reading-formed n bytes w, vector-same n (over w.counts (replicate 8 0)) w.counts (λ k l. over-front w.counts (replicate 8 0) k 0 (omega (arith, w.size))))

-- what has the length of no frame is told with 17
none_told : (bytes : List ℕ) → is_length (length bytes) ≡ false → (reading (own_count bytes) bytes).refusal ≡ 17
none_told bytes e = subst (λ n. (reading n bytes).refusal ≡ 17) (sym (own-two bytes e)) (no_length 2 bytes e (omega arith) (omega arith))

pub never_another : NeverAnother
unfolding reading
never_another bytes = go (is_length (length bytes)) refl
  where
    go : (b : Bool) → is_length (length bytes) ≡ b → (reading (own_count bytes) bytes).refusal ≡ 24 → ⊥
    go true e =
        let own = eq-eqb (written_count bytes) (own_count bytes) (own-third bytes e) in
        first-is (λ r. r ≡ 24 → ⊥) (λ i. omega arith) (read_tests (own_count bytes) bytes) ((λ f i. omega arith), ((λ f i. omega arith), ((λ f i. omega arith), ((λ f i. true≢false (sym own ∙ f)), ((λ f i. omega arith), ((λ f i. omega arith), tt))))))
    go false e = λ i. omega (arith, none_told bytes e)

pub old-told : OldTold
old-told sender counts = none_told (old_frame sender counts) (old-length sender counts)

-- a frame that is read is for at most eight stations
pub at-most_eight : (n : ℕ) (bytes : List ℕ) → (reading n bytes).refusal ≡ 0 → n ≤ 8
at-most_eight n bytes e = ((stations-range n).0 (readable n bytes e).stations).1
