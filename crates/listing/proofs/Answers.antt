-- What the listing answers in each case.
use mathlib.Core.Path.{◌≡◌}
use mathlib.Core.List.{List, [], ◌∷◌}
use mathlib.Core.Bool.{Bool, true, false, cond}
use Prim.Native.Nat.{ℕ, ◌<◌, ◌≤◌}
use lib.Dec.{leb, eqb}
use lib.ListN.{length}
use borrow.Author.Tests.{le-leb, lt-leb}
use Rattle.lists.specs.Entries.{over}
use Rattle.lists.specs.First.{first_failed}
use Rattle.std.specs.Prelude.{Ok, Err}
use Rattle.election.specs.declared.Refusal.TheVariants.{NotSetUp, Unsound, BufferShort}
use Rattle.election.specs.declared.System.{System}
use Rattle.election.specs.Sound.{sound}
use Rattle.election.specs.Listing.{Listed, listing, listed, said}
use Rattle.text.specs.Wrote.{Wrote}

-- what is left where the three tests come out so
abbrev outcome : Bool → Bool → Bool → List ℕ → List ℕ → Listed
outcome a b c full old =
    let r : ℕ = first_failed ((a, 15) ∷ (b, 3) ∷ (c, 16) ∷ []) in
    record { refusal = r; written = cond (eqb r 0) (length full) 0; buffer = cond (eqb r 0) (over full old) old }

refused-short : (a b c : Bool) (full old : List ℕ) → a ≡ true → b ≡ true → c ≡ false → said (Err BufferShort) old ≡ outcome a b c full old
refused-short a b c full old e u q = rw (e, u, q)

written : (a b c : Bool) (full old : List ℕ) → a ≡ true → b ≡ true → c ≡ true → said (Ok (length full)) (over full old) ≡ outcome a b c full old
written a b c full old e u q = rw (e, u, q)

module _ (s : System) (buffer : List ℕ) where
  pub unsound : sound s ≡ false → said (Err Unsound) buffer ≡ listed s buffer
  unfolding listed
  unsound e = rw e

  module _ (e : sound s ≡ true) where
    pub not_set_up : s.ready ≡ false → said (Err NotSetUp) buffer ≡ listed s buffer
    unfolding listed
    not_set_up u = rw (e, u)

    pub short : s.ready ≡ true → length buffer < length (listing s) → said (Err BufferShort) buffer ≡ listed s buffer
    unfolding listed
    short u h = refused-short (sound s) s.ready (leb (length (listing s)) (length buffer)) (listing s) buffer e u (lt-leb _ _ h)

    pub done : s.ready ≡ true → length (listing s) ≤ length buffer → {size : ℕ} {new : List ℕ} → Wrote (listing s) buffer size new → said (Ok size) new ≡ listed s buffer
    unfolding listed
    done u h w =
        rw (w.count, w.bytes)
        (written (sound s) s.ready (leb (length (listing s)) (length buffer)) (listing s) buffer e u (le-leb _ _ h))
