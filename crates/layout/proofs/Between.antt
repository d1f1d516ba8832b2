-- From a system to its layout and back: what the arrays made place by place are.
use mathlib.Core.Path.{◌≡◌, refl, sym, ap, subst, ◌∙◌}
use mathlib.Core.List.{List}
use Prim.Native.Nat.{ℕ, zero, suc, ◌+◌, ◌*◌, ◌/◌, ◌%◌, ◌<◌, ◌≤◌}
use mathlib.Core.Logic.◌⊎◌.{inl, inr}
use native.Mathlib.Omega.{arith}
use lib.ListN.{length, get_or}
use lib.Seq.{ext_get_or}
use denote.Param.Members.{Mut}
use Rattle.std.specs.Array.{IsFromFnResult, IsFromFnResultFrom}
use Rattle.std.specs.Fn.{Called}
use Rattle.std.proofs.lemmas.Bool.{cases_eq}
use Rattle.lists.specs.Entries.{up_to}
use Rattle.lists.proofs.Entries.{get_d_up_to}
use Rattle.lists.proofs.Segment.{length-segment, get_d_segment}
use Rattle.layout.specs.Layout.{links_of}
use Rattle.layout.proofs.Stores.{part, link_at, length-links, link-is}
use Rattle.election.specs.Sound.{message_at}
use Rattle.election.specs.System.{no_message, no_link, places}
use Rattle.election.specs.declared.Link.{Link}
use Rattle.election.specs.declared.Message.{Message}

-- the count of the link at place k, and the message at place j of all links
abbrev pub count_at : List Link → ℕ → ℕ
count_at links k = (get_or links k no_link).used

abbrev pub laid_at : List Link → ℕ → Message
laid_at links j = message_at (get_or links (j / places) no_link) (j % places)

-- laid out so, the links are put together again
pub links-laid : (links : List Link) (used : List ℕ) (ms : List Message) → used ≡ up_to 64 (count_at links) → ms ≡ up_to (64 * places) (laid_at links)
    → length links ≡ 64 → ((k : ℕ) → k < 64 → length (get_or links k no_link).messages ≡ places) → links_of used ms ≡ links
links-laid links used ms a b long full =
    ext_get_or no_link (links_of used ms) links (length-links used ms ∙ sym long)
    (λ k h.
    let z : k < 64 = omega (arith, length-links used ms) in
    link_at used ms k z
    ∙ link-is used ms k (get_or links k no_link) (ap (λ l. get_or l k 0) a ∙ get_d_up_to 64 (count_at links) k 0 z) (stretch k z))
  where
    stretch : (k : ℕ) → k < 64 → part ms k ≡ (get_or links k no_link).messages
    stretch k h =
        ext_get_or no_message (part ms k) (get_or links k no_link).messages (length-segment places no_message ms k ∙ sym (full k h))
        (λ i e.
        let z : i < places = omega (arith, length-segment places no_message ms k) in
        let q : (places * k + i) / places ≡ k = omega arith in
        let r : (places * k + i) % places ≡ i = omega arith in
        get_d_segment places no_message ms k i no_message z ∙ ap (λ l. get_or l (places * k + i) no_message) b
        ∙ get_d_up_to (64 * places) (laid_at links) (places * k + i) no_message (omega arith) ∙ rw (q, r) refl)

-- what a function tells at each place of an array that it makes, where it changes nothing
module _ {F B : Type 0} (g : Mut F (ℕ × Unit {0}) B) (p : F) (P : ℕ → Type 0) (pure : (i : ℕ) (y : B) (q : F) → Called g p (i, tt) y q → (q ≡ p) × P i) where
  told : (ys : List B) (i n : ℕ) → IsFromFnResultFrom g p ys i n → (k : ℕ) → i ≤ k → k < i + n → P k
  told ys i zero w k low high = absurd (omega arith)
  told ys i (suc n) (q, y, at, call, more) k low high = elim (cases_eq i k) [
    | inl here ↦ subst P here (pure i y q call).1
    | inr there ↦ told ys (i + 1) n (subst (λ r. IsFromFnResultFrom g r ys (i + 1) n) (pure i y q call).0 more) k (omega arith) (omega arith)
  ]

  pub from_fn-tells : (ys : List B) (n : ℕ) → IsFromFnResult g p ys n → (k : ℕ) → k < n → P k
  from_fn-tells ys n made k h = told ys 0 n made.each k (omega arith) (omega arith)

-- each link has all its places, where that is told at each place of all links
abbrev pub Full : List Link → ℕ → Type 0
Full links j = length (get_or links (j / places) no_link).messages ≡ places

pub links-full : (links : List Link) → ((j : ℕ) → j < 64 * places → Full links j) → (k : ℕ) → k < 64 → length (get_or links k no_link).messages ≡ places
links-full links all k h = let q : places * k / places ≡ k = omega arith in subst (λ i. length (get_or links i no_link).messages ≡ places) q (all (places * k) (omega arith))
