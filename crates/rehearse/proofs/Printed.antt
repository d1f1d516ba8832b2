-- What is printed for a schedule: above 65,536 bytes the last line is all, else it comes after the listings.
use Rattle.std.proofs.Common.{◌≡◌, refl, sym, subst, List, [], ◌++◌, Option, Err, ℕ, ◌+◌, ◌^◌, ◌<◌, ◌≤◌, length, take, arith}
use Rattle.std.proofs.KnownBytes.{Appends-nil, Appends-trans}
use borrow.Author.Tests.{lt-ltb, le-ltb}
use Rattle.std.specs.Io.KnownBytes.{Appends}
use Rattle.calls.specs.Moved.{CutAt}
use Rattle.calls.proofs.Calls.{enough}
use Rattle.calls.proofs.Taken.{cut_first, cut_rest}
use Rattle.election.specs.Listing.{end_line, output}
use Rattle.election.specs.Schedule.{most_bytes, schedule, refusal_of, offset_of}
use Rattle.election.specs.declared.Refusal.TheVariants.{ScheduleLong}
use Rattle.text.specs.Wrote.{Wrote}
use Rattle.text.proofs.Parts.{wrote_front}
use Rattle.listing.proofs.Room.{end_room}
use Rattle.printing.specs.Listings.{listings, Printed}
use Rattle.printing.specs.declared.rules.Listed.{Listed}
use Rattle.rehearse.specs.Moves.{Enough}

long_output : (bytes : List ℕ) → most_bytes < length bytes → output bytes ≡ end_line 21 0
unfolding output schedule
long_output bytes l = rw (lt-ltb most_bytes (length bytes) l)

short_output : (bytes : List ℕ) → length bytes ≤ most_bytes → output bytes ≡ listings bytes ++ end_line (schedule bytes).refusal (schedule bytes).offset
unfolding output
short_output bytes l = rw (le-ltb most_bytes (length bytes) l)

pub enough_holds : Enough
enough_holds = enough output most_bytes (end_line 21 0) long_output

-- every last line has room in the program's buffer
pub line_room_lem : (refusal offset : ℕ) → length (end_line refusal offset) ≤ 4096
line_room_lem refusal offset = omega (arith, end_room refusal offset)

-- what was printed before the last line, and that it is all but that
pub record Before (bytes : List ℕ) (listed : Listed) (old new : Option (List ℕ)) : Type 0 where
  pub first : List ℕ
  pub printed : Appends old new first
  pub others : output bytes ≡ first ++ end_line (refusal_of listed.ended) (offset_of listed.ended)
  pub size : listed.size ≡ length first
  pub few : listed.size < 2 ^ 33

pub before_long : (bytes : List ℕ) (old : Option (List ℕ)) → most_bytes < length bytes → Before bytes (record { size = 0; ended = Err (record { at = 0; refusal = ScheduleLong }) }) old old
before_long bytes old l = record { first = []; printed = Appends-nil old; others = long_output bytes l; size = refl; few = omega arith }

pub before_short : (bytes : List ℕ) (listed : Listed) (old new : Option (List ℕ)) → length bytes ≤ most_bytes → Printed listed bytes → Appends old new (listings bytes) → Before bytes listed old new
before_short bytes listed old new l e a = record { first = listings bytes; printed = a; others = rw (e.refusal, e.place) (short_output bytes l); size = e.size; few = e.few }

-- where a write of the listings failed, a front of all was printed
pub listings_part : (bytes : List ℕ) (n : ℕ) (Holds : List ℕ → Type 0) → length bytes ≤ most_bytes → CutAt n (listings bytes) Holds → CutAt n (output bytes) Holds
listings_part bytes n Holds l t =
    subst (λ x. CutAt n x Holds) (sym (short_output bytes l)) (cut_first n (listings bytes) (end_line (schedule bytes).refusal (schedule bytes).offset) Holds t)

-- the last line, or a front of it
module _ {bytes : List ℕ} {listed : Listed} {old now : Option (List ℕ)} (b : Before bytes listed old now) (new : Option (List ℕ)) {before after : List ℕ} {size : ℕ}
    (w : Wrote (end_line (refusal_of listed.ended) (offset_of listed.ended)) before size after) where
  all_printed : output bytes ≡ b.first ++ take size after
  all_printed = rw (wrote_front w) b.others

  pub last_printed : Appends now new (take size after) → Appends old new (output bytes)
  last_printed t = subst (Appends old new) (sym all_printed) (Appends-trans old now new b.first (take size after) b.printed t)

  pub last_cut : (n : ℕ) → CutAt n (take size after) (Appends now new) → CutAt (listed.size + n) (output bytes) (Appends old new)
  last_cut n t = subst (λ x. CutAt (listed.size + n) x (Appends old new)) (sym all_printed) (cut_rest old now new b.first (take size after) listed.size n b.size b.printed t)
