-- Turns of the loops over a link's messages.
use mathlib.Core.Path.{◌≡◌, refl, sym, ap, ◌∙◌}
use mathlib.Core.List.{List, [], ◌∷◌, ◌++◌}
use mathlib.Core.Bool.{Bool, true, false, cond, not}
use Prim.Native.Nat.{ℕ, zero, suc, ◌+◌, ◌<◌, ◌≤◌}
use native.Mathlib.Numerals.{add-one}
use native.Mathlib.Omega.{arith}
use lib.Dec.{eqb}
use lib.ListN.{length, get_or, take, set, replicate, length-append}
use borrow.Author.Tests.{eq-eqb, ne_eqb}
use Rattle.election.specs.Heads.{Hearing}
use Rattle.lists.specs.Entries.{over}
use Rattle.lists.specs.Filter.{where_to}
use Rattle.lists.proofs.Entries.{over-snoc}
use lib.Seq.{take-suc}
use Rattle.station.specs.declared.Station.{Station}
use Rattle.election.specs.System.{no_message, unused, holding, places}
use Rattle.election.specs.Tick.{heard_link, later}
use Rattle.election.specs.declared.Message.{Message}
use Rattle.ticks.specs.Delivering.{staying, entry_of}

-- one message more is heard
heard_link-snoc : (hear : Hearing) (me q now : ℕ) (ms : List Message) (m : Message) (x : Station) → heard_link hear me q now (ms ++ (m ∷ [])) x ≡ cond (eqb m.due now) (hear me q m now (heard_link hear me q now ms x)) (heard_link hear me q now ms x)
unfolding heard_link
heard_link-snoc hear me q now [] m x = refl
heard_link-snoc hear me q now (a ∷ ms) m x = heard_link-snoc hear me q now ms m _

pub heard_link-turn : (hear : Hearing) (me q now : ℕ) (ms : List Message) (k : ℕ) (x r r' : Station) → k < length ms → r ≡ heard_link hear me q now (take k ms) x
    → r' ≡ cond (eqb (get_or ms k no_message).due now) (hear me q (get_or ms k no_message) now r) r → r' ≡ heard_link hear me q now (take (k + 1) ms) x
heard_link-turn hear me q now ms k x r r' h e g =
    g ∙ ap (λ (z : Station). cond (eqb (get_or ms k no_message).due now) (hear me q (get_or ms k no_message) now z) z) e
    ∙ sym (heard_link-snoc hear me q now (take k ms) (get_or ms k no_message) x) ∙ ap (λ l. heard_link hear me q now l x) (sym (take-suc ms k no_message h) ∙ ap (λ n. take n ms) (sym (add-one k)))

-- one message more is kept, or left out
later-snoc : (now : ℕ) (ms : List Message) (m : Message) → later now (ms ++ (m ∷ [])) ≡ later now ms ++ cond (eqb m.due now) [] (m ∷ [])
unfolding later
later-snoc now [] m = go (eqb m.due now)
  where
    go : (b : Bool) → cond b [] (m ∷ []) ≡ cond b [] (m ∷ [])
    go b = refl
later-snoc now (a ∷ ms) m = go (eqb a.due now) (later-snoc now ms m)
  where
    go : (b : Bool) → later now (ms ++ (m ∷ [])) ≡ later now ms ++ cond (eqb m.due now) [] (m ∷ []) → cond b (later now (ms ++ (m ∷ []))) (a ∷ later now (ms ++ (m ∷ []))) ≡ cond b (later now ms) (a ∷ later now ms) ++ cond (eqb m.due now) [] (m ∷ [])
    go true e = e
    go false e = ap (λ l. a ∷ l) e

pub later-where : (now : ℕ) (ms : List Message) (k : ℕ) → k ≤ length ms → later now (take k ms) ≡ where_to k (staying now ms) (entry_of ms)
unfolding later where_to
later-where now ms zero h = refl
later-where now ms (suc k) h =
    ap (later now) (take-suc ms k no_message (omega arith)) ∙ later-snoc now (take k ms) (get_or ms k no_message)
    ∙ rw (later-where now ms k (omega arith)) (go (eqb (get_or ms k no_message).due now))
  where
    go : (b : Bool) → where_to k (staying now ms) (entry_of ms) ++ cond b [] (get_or ms k no_message ∷ []) ≡ where_to k (staying now ms) (entry_of ms) ++ cond (not b) (get_or ms k no_message ∷ []) []
    go true = refl
    go false = refl

-- the test at a message
pub stays : (now : ℕ) (m : Message) → (m.due ≡ now → ⊥) → not (eqb m.due now) ≡ true
stays now m ne = rw (ne_eqb m.due now ne)

pub goes : (now : ℕ) (m : Message) → m.due ≡ now → not (eqb m.due now) ≡ false
goes now m e = rw (eq-eqb m.due now e)

-- a link that holds up to three messages takes one more
pub holding-more : (ms : List Message) (m : Message) → length (ms ++ (m ∷ [])) ≤ places → record { used = (holding ms).used + 1; messages = set (holding ms).messages (holding ms).used m } ≡ holding (ms ++ (m ∷ []))
unfolding holding
holding-more ms m room =
    let e : set (over ms (replicate places unused)) (length ms) m ≡ over (ms ++ (m ∷ [])) (replicate places unused) =
    over-snoc ms (replicate places unused) (over ms (replicate places unused)) (length ms) m refl (omega (arith, length-append ms (m ∷ []))) refl in
    rw (e, length-append)
