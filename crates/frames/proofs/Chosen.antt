-- The kind of a frame, chosen by the first byte, and what is told of each.
use mathlib.Core.Path.{◌≡◌, refl, sym, ap, ◌∙◌}
use mathlib.Core.Logic.{◌⊎◌, ⊎_elim}
use mathlib.Core.Logic.◌⊎◌.{inl, inr}
use mathlib.Core.List.{List}
use mathlib.Core.Bool.{Bool, true, false, cond, true≢false}
use Prim.Native.Nat.{ℕ}
use native.Mathlib.Omega.{arith}
use lib.Dec.{eqb}
use lib.ListN.{get_or, take}
use borrow.Author.Tests.{eqb-true, eq-eqb, ne_eqb}
use Rattle.lists.proofs.First.{first-is}
use Rattle.text.specs.Quoted.{text}
use Rattle.frame.specs.Claims.{WellFormed}
use Rattle.frame.specs.Frame.{frame, stations_in}
use Rattle.frame.specs.Reading.{reading}
use Rattle.frame.specs.Stamp.{stamp_mark, stamp_frame, stamp_read_tests, stamp_reading}
use Rattle.frame.specs.StampClaims.{StampFormed}
use Rattle.frame.proofs.ClockRestores.{stamp_reading-formed, reads-stamp_formed}
use Rattle.frames.specs.Claims.{Some, SomeStamp, Told, ToldFrames, FrameTold, StampTold, NeverStamp}
use Rattle.frames.specs.Explained.{own_count, reason, received, refused, answered, stamp_reason, stamped, stamp_answered, is_stamp, frame_text}
use Rattle.frames.proofs.Own.{own-formed, answered-formed}

pub leader_text : (bytes : List ℕ) → is_stamp bytes ≡ false → frame_text bytes ≡ answered (own_count bytes) (reading (own_count bytes) bytes)
unfolding frame_text
leader_text bytes e = rw e

pub stamp-text : (bytes : List ℕ) → is_stamp bytes ≡ true → frame_text bytes ≡ stamp_answered (stamp_reading 8 bytes)
unfolding frame_text
stamp-text bytes e = rw e

-- a well-formed frame is of its kind
no_stamp : (n : ℕ) (bytes : List ℕ) → WellFormed n bytes → is_stamp bytes ≡ false
unfolding frame
no_stamp n bytes w = ne_eqb (get_or bytes 0 0) stamp_mark (λ e. omega (arith, ap (λ l. get_or l 0 0) w.is-frame))

a_stamp : (n : ℕ) (bytes : List ℕ) → StampFormed n bytes → is_stamp bytes ≡ true
unfolding stamp_frame
a_stamp n bytes w = eq-eqb _ _ (ap (λ l. get_or l 0 0) w.is-frame)

-- a clock frame for n stations is one for 8
abbrev for_eight : (n : ℕ) (bytes : List ℕ) → StampFormed n bytes → StampFormed 8 bytes
for_eight n bytes w = record {
  sender = w.sender;
  stamp = w.stamp;
  stations = (omega arith, omega arith);
  sender-in = (w.sender-in.0, omega (arith, w.sender-in.1, w.stations.1));
  stamp-in = w.stamp-in;
  is-frame = w.is-frame;
}

pub frame-told : FrameTold
frame-told n bytes w = leader_text bytes (no_stamp n bytes w) ∙ answered-formed n bytes w

pub stamp-told : StampTold
unfolding stamp_answered
stamp-told n bytes w = stamp-text bytes (a_stamp n bytes w) ∙ rw (stamp_reading-formed 8 bytes (for_eight n bytes w))

-- a refusal is not told with the sender first
accepted : (r : ℕ) (told why : List ℕ) → take 7 (cond (eqb r 0) told (refused r why)) ≡ text "sender " → r ≡ 0
unfolding text
accepted r told why e = go (eqb r 0) refl e
  where
    go : (b : Bool) → eqb r 0 ≡ b → take 7 (cond b told (refused r why)) ≡ text "sender " → r ≡ 0
    go true i e = eqb-true r 0 i
    go false i e = absurd (omega (arith, ap (λ l. get_or l 0 0) e))

pub told-frames : ToldFrames
unfolding text received answered stamped stamp_answered
told-frames bytes o = (go (is_stamp bytes) refl, ⊎_elim leader stamp)
  where
    go : (b : Bool) → is_stamp bytes ≡ b → Told bytes → Some bytes ⊎ SomeStamp bytes
    go true e t =
        let r = stamp_reading 8 bytes in
        inr (record { n = 8; formed = (reads-stamp_formed 8 bytes o).0 (accepted r.refusal (stamped r.sender r.stamp) (stamp_reason r.refusal) (rw (stamp-text bytes e) at t)) })
    go false e t =
        let n = own_count bytes in
        let r = reading n bytes in
        inl ((own-formed bytes o).0 (accepted r.refusal (received n r.sender r.counts) (reason r.refusal) (rw (leader_text bytes e) at t)))

    leader : Some bytes → Told bytes
    leader s = rw (frame-told s.n bytes s.formed)

    stamp : SomeStamp bytes → Told bytes
    stamp s = rw (stamp-told s.n bytes s.formed)

pub never_stamp : NeverStamp
unfolding stations_in stamp_reading
never_stamp bytes e =
    first-is (λ r. (r ≡ 5 → ⊥) × (r ≡ 18 → ⊥)) ((λ i. omega arith), (λ i. omega arith)) (stamp_read_tests 8 bytes)
    ((λ f. absurd (true≢false f)), ((λ f. ((λ i. omega arith), (λ i. omega arith))), ((λ f. absurd (true≢false (sym e ∙ f))), ((λ f. ((λ i. omega arith), (λ i. omega arith))), tt))))
