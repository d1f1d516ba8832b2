-- What set up leaves, and the fresh system, laid out: which places are links, as the code tests it, and the parts put together.
use mathlib.Core.Path.{◌≡◌, refl, sym, ◌∙◌}
use mathlib.Core.List.{List, []}
use mathlib.Core.Bool.{Bool, true, false, not, ◌&&◌}
use Prim.Native.Nat.{ℕ, ◌+◌, ◌-◌, ◌*◌, ◌/◌, ◌%◌, ◌<◌}
use native.Mathlib.Decide.{ℕ_discrete}
use native.Mathlib.Omega.{arith}
use lib.ListN.{replicate, get_or-replicate}
use lib.Seq.{ext_get_or}
use lib.Dec.{ltb, eqb}
use borrow.Author.Tests.{eq-eqb, ne_eqb}
use Rattle.lists.specs.Entries.{over}
use Rattle.lists.proofs.Segment.{length-segment, get_d_segment}
use Rattle.election.specs.System.{from, to, no_message, no_link, unused, is_link, holding, unstarted, fresh, initial, places}
use Rattle.election.specs.declared.Message.{Message}
use Rattle.station.specs.declared.Station.{Station}
use Rattle.layout.specs.Layout.{links_of, system_of}
use Rattle.layout.proofs.Stores.{part, link_at, length-links, link-is}

pub is_link-at : (n k : ℕ) → is_link n (from k) (to k) ≡ (ltb (k / 8) n && ltb (k % 8) n && not (eqb (k / 8) (k % 8)))
is_link-at n k =
    let a : from k - 1 ≡ k / 8 = omega arith in
    let b : to k - 1 ≡ k % 8 = omega arith in
    rw (a, b, same (ℕ_discrete (k / 8) (k % 8))) refl
  where
    same : Dec (k / 8 ≡ k % 8) → eqb (from k) (to k) ≡ eqb (k / 8) (k % 8)
    same (yes e) = rw (eq-eqb (k / 8) (k % 8) e) (eq-eqb (from k) (to k) (omega arith))
    same (no ne) = rw (ne_eqb (k / 8) (k % 8) ne) (ne_eqb (from k) (to k) (λ e. ne (omega arith)))

-- a layout with no message has empty links
links-none : (m : Message) → m ≡ unused → links_of (replicate 64 0) (replicate (64 * places) m) ≡ replicate 64 (holding [])
unfolding holding over
links-none m e =
    ext_get_or no_link (links_of (replicate 64 0) (replicate (64 * places) m)) (replicate 64 (holding [])) (length-links (replicate 64 0) (replicate (64 * places) m))
    (λ k h.
    let b : k < 64 = omega (arith, length-links (replicate 64 0) (replicate (64 * places) m)) in
    link_at (replicate 64 0) (replicate (64 * places) m) k b
    ∙ link-is (replicate 64 0) (replicate (64 * places) m) k (holding []) (get_or-replicate 64 k 0 0 b) (all_unused k b)
    ∙ sym (get_or-replicate 64 k (holding []) no_link b))
  where
    all_unused : (k : ℕ) → k < 64 → part (replicate (64 * places) m) k ≡ replicate places unused
    all_unused k b =
        ext_get_or no_message (part (replicate (64 * places) m) k) (replicate places unused) (length-segment places no_message (replicate (64 * places) m) k)
        (λ i h.
        let c : i < places = omega (arith, length-segment places no_message (replicate (64 * places) m) k) in
        get_d_segment places no_message (replicate (64 * places) m) k i no_message c ∙ get_or-replicate (64 * places) (places * k + i) m no_message (omega arith) ∙ e
        ∙ sym (get_or-replicate places i unused no_message c))

-- what set up leaves, from its parts
pub set_up-is : (clock : Bool) (n period : ℕ) (xs : List Station) (ds : List ℕ) (m : Message) → xs ≡ (initial false n 0).stations → ds ≡ (initial false n 0).delays → m ≡ unused
    → system_of (record { ready = true; n = n; period = period; tick = 0; stations = xs; sent = replicate 8 0; delays = ds; used = replicate 64 0; messages = replicate (64 * places) m; ranks = replicate 8 0; clock = clock }) ≡ initial clock n period
unfolding initial
set_up-is clock n period xs ds m a b e = rw (a, b, links-none m e) refl

-- the fresh system, from its empty station and message
pub fresh-is : (x : Station) (m : Message) → x ≡ unstarted 0 → m ≡ unused
    → system_of (record { ready = false; n = 0; period = 0; tick = 0; stations = replicate 8 x; sent = replicate 8 0; delays = replicate 64 0; used = replicate 64 0; messages = replicate (64 * places) m; ranks = replicate 8 0; clock = false }) ≡ fresh
unfolding fresh
fresh-is x m a e = rw (a, links-none m e) refl
