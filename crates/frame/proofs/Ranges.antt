-- What the tests of a frame say of its numbers.
use mathlib.Core.Path.{◌≡◌}
use mathlib.Core.Logic.{◌↔◌}
use mathlib.Core.List.{List}
use mathlib.Core.Bool.{Bool, true, ◌&&◌, and-eq-true_iff}
use Prim.Native.Nat.{ℕ, ◌-◌, ◌≤◌, ◌<◌}
use native.Mathlib.Decide.{dec_lt}
use native.Mathlib.Omega.{arith}
use lib.Dec.{leb}
use lib.ListN.{length, get_or, get_or-eq_default}
use borrow.Author.Tests.{leb-true, le-leb}
use Rattle.lists.specs.Test.{all_to}
use Rattle.lists.proofs.Test.{all_at, all_of}
use Rattle.frame.specs.Frame.{stations_in, sender_in, counts_in}

between : (low n high : ℕ) → ((leb low n && leb n high) ≡ true) ↔ ((low ≤ n) × (n ≤ high))
between low n high = (
  (λ e. let t = (and-eq-true_iff (leb low n) (leb n high)).0 e in (leb-true low n t.0, leb-true n high t.1)),
  (λ h. rw (le-leb low n h.0, le-leb n high h.1)),
)

pub stations-range : (n : ℕ) → (stations_in n ≡ true) ↔ ((2 ≤ n) × (n ≤ 8))
unfolding stations_in
stations-range n = between 2 n 8

pub sender-range : (n sender : ℕ) → (sender_in n sender ≡ true) ↔ ((1 ≤ sender) × (sender ≤ n))
unfolding sender_in
sender-range n sender = between 1 sender n

-- and one end of a range at a time, for a search
pub stations_low : (n : ℕ) → stations_in n ≡ true → 2 ≤ n
stations_low n e = ((stations-range n).0 e).0

pub stations_high : (n : ℕ) → stations_in n ≡ true → n ≤ 8
stations_high n e = ((stations-range n).0 e).1

pub sender_low : (n sender : ℕ) → sender_in n sender ≡ true → 1 ≤ sender
sender_low n sender e = ((sender-range n sender).0 e).0

pub sender_high : (n sender : ℕ) → sender_in n sender ≡ true → sender ≤ n
sender_high n sender e = ((sender-range n sender).0 e).1

pub ruleset ranges = (stations_low, stations_high, sender_low, sender_high)

pub counts-range : (sender : ℕ) (counts : List ℕ) → (counts_in sender counts ≡ true) ↔ (((k : ℕ) → get_or counts k 0 ≤ 4095) × (1 ≤ get_or counts (sender - 1) 0))
unfolding counts_in
counts-range sender counts = (
  (λ e. let t = (and-eq-true_iff (all_to (length counts) small) (leb 1 (get_or counts (sender - 1) 0))).0 e in (λ k. below k (dec_lt k (length counts)) t.0, leb-true 1 _ t.1)),
  (λ h. rw (all_of (length counts) small (λ k l. le-leb _ _ (h.0 k)), le-leb _ _ h.1)),
)
  where
    small : ℕ → Bool
    small k = leb (get_or counts k 0) 4095

    below : (k : ℕ) → Dec (k < length counts) → all_to (length counts) small ≡ true → get_or counts k 0 ≤ 4095
    below k (yes l) t = leb-true _ _ (all_at _ k small t l)
    below k (no l) t = omega (arith, get_or-eq_default counts 0 {n = k} (omega arith))
