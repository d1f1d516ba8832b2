-- Links in (a) as the code goes: sender by sender, each from receiver to receiver.
use mathlib.Core.Path.{◌≡◌, refl, sym, ap, subst, ◌∙◌}
use mathlib.Core.List.{List}
use mathlib.Core.Bool.{Bool, true, false, cond}
use Prim.Native.Nat.{ℕ, ◌+◌, ◌*◌, ◌%◌, ◌<◌, ◌≤◌}
use native.Mathlib.Decide.{dec_lt, ℕ_discrete}
use native.Mathlib.Omega.{arith}
use lib.ListN.{length, get_or, set, take, length-set}
use lib.Seq.{get_or-set_same, get_or-set_other}
use Rattle.election.specs.Heads.{hearing}
use Rattle.lists.specs.Test.{all_to}
use Rattle.layout.specs.Layout.{system_of}
use Rattle.layout.specs.declared.Layout.{Layout}
use Rattle.layout.proofs.Stores.{Wide, part, length-links, with_used, with_stations, Clearing, used_read, messages-read}
use Rattle.election.specs.System.{with_links, no_station, no_link, from, to, messages, holding, is_link, places}
use Rattle.election.specs.Idle.{quiet_link, Held}
use Rattle.election.specs.Tick.{later}
use Rattle.election.specs.declared.Link.{Link}
use Rattle.election.specs.declared.System.{System}
use Rattle.election.proofs.Heads.{hearing-same}
use Rattle.ticks.specs.Sending.{Ticking, hears}
use Rattle.ticks.proofs.After.{no_sender, no_receiver, linked, self}
use Rattle.ticks.proofs.Hearing.{hearing-turn, hearing-skips}
use Rattle.election.specs.System as system
use Rattle.ticks.proofs.InPlace.{kept-stored, kept-calm}
use Rattle.ticks.proofs.Ready.{is, used_at, unused-self}
use Rattle.ticks.specs.Delivering.{Packing, Heard, Beside, Hearing, link_kept, Taken}

-- r is the system of n stations before the tick, and now is the tick.

pub taken_none : (n now : ℕ) (r : System) (until : ℕ) → Ticking r → Held r → r.n ≡ n → Taken n now r until r.links 0
taken_none n now r until ticking held size =
    record { ticking = ticking; held = held; size = size; past = λ k h i. absurd (omega arith); rest = λ k h i. refl; calm = λ t k a b h i. absurd (omega arith) }

pub kept-yes : (n now : ℕ) (r : System) (k : ℕ) → is_link n (from k) (to k) ≡ true → link_kept n now r k ≡ holding (later now (messages (get_or r.links k no_link)))
unfolding link_kept
kept-yes n now r k i = ap (λ b. cond b (holding (later now (messages (get_or r.links k no_link)))) (get_or r.links k no_link)) i

pub kept-no : (n now : ℕ) (r : System) (k : ℕ) → is_link n (from k) (to k) ≡ false → link_kept n now r k ≡ get_or r.links k no_link
unfolding link_kept
kept-no n now r k i = ap (λ b. cond b (holding (later now (messages (get_or r.links k no_link)))) (get_or r.links k no_link)) i

-- a link with no message has none due
calm_empty : (t : ℕ) (l : Link) → l.used ≡ 0 → quiet_link t l ≡ true
unfolding quiet_link all_to
calm_empty t l z = rw z refl

module _ (n now : ℕ) (r : System) (until : ℕ) (ls : List Link) (c : ℕ) (a : Taken n now r until ls c) where
  -- places without messages stay as they are
  empty_at : (k : ℕ) → k < 64 → is_link n (from k) (to k) ≡ false → (get_or r.links k no_link).used ≡ 0
  empty_at k h i = unused-self (get_or r.delays k 0) (get_or r.links k no_link) ((is r a.ticking).no_link_lem k h (subst (λ m. is_link m (from k) (to k) ≡ false) (sym a.size) i))

  empty_kept : (k : ℕ) → k < 64 → (get_or r.links k no_link).used ≡ 0 → link_kept n now r k ≡ get_or r.links k no_link
  unfolding messages later
  empty_kept k h z = go (is_link n (from k) (to k)) refl
    where
      go : (b : Bool) → is_link n (from k) (to k) ≡ b → link_kept n now r k ≡ get_or r.links k no_link
      go true i =
          kept-yes n now r k i
          ∙ ap (λ u. holding (later now (take u (get_or r.links k no_link).messages))) z ∙ ap (λ u. holding (take u (get_or r.links k no_link).messages)) (sym z)
          ∙ a.held.held k h (subst (λ m. is_link m (from k) (to k) ≡ true) (sym a.size) i)
      go false i = kept-no n now r k i

  taken-leaves : (d : ℕ) → c ≤ d → ((k : ℕ) → k < 64 → c ≤ k → k < d → (get_or r.links k no_link).used ≡ 0) → Taken n now r until ls d
  taken-leaves d le f =
      record {
        ticking = a.ticking;
        held = a.held;
        size = a.size;
        past = λ k h i. past k h i (dec_lt (k) c);
        rest = λ k h i. a.rest k h (omega arith);
        calm = λ t k b e h i. calm t k b e h i (dec_lt (k) c);
      }
    where
      past : (k : ℕ) → k < 64 → k < d → Dec (k < c) → get_or ls k no_link ≡ link_kept n now r k
      past k h i (yes j) = a.past k h j
      past k h i (no j) = a.rest k h (omega arith) ∙ sym (empty_kept k h (f k h (omega arith) i))

      calm : (t k : ℕ) → now < t → t ≤ until → k < 64 → k < d → Dec (k < c) → quiet_link t (link_kept n now r k) ≡ true
      calm t k b e h i (yes j) = a.calm t k b e h j
      calm t k b e h i (no j) = rw (empty_kept k h (f k h (omega arith) i)) (calm_empty t (get_or r.links k no_link) (f k h (omega arith) i))

  -- past the last receiver, past a sender that has no message, and past the last sender
  pub taken-row : (q : ℕ) → n ≤ 8 → c ≡ 8 * q + n → Taken n now r until ls (8 * (q + 1))
  taken-row q hn z = taken-leaves (8 * (q + 1)) (omega arith) (λ k h i j. empty_at k h (no_receiver n k (omega arith)))

  module _ (q : ℕ) (hn : n ≤ 8) (hq : q < n) (z : c ≡ 8 * q) (f : (p : ℕ) → p < n → (get_or ls (8 * q + p) no_link).used ≡ 0) where
    pub none_before : (p : ℕ) → p < n → (get_or r.links (8 * q + p) no_link).used ≡ 0
    none_before p h = ap (λ (l : Link). l.used) (sym (a.rest (8 * q + p) (omega arith) (omega arith))) ∙ f p h

    pub taken-rests : Taken n now r until ls (8 * (q + 1))
    taken-rests = taken-leaves (8 * (q + 1)) (omega arith) (λ k h i j. at k h i j (dec_lt (k % 8) n))
      where
        at : (k : ℕ) → k < 64 → c ≤ k → k < 8 * (q + 1) → Dec (k % 8 < n) → (get_or r.links k no_link).used ≡ 0
        at k h i j (yes l) = let e : 8 * q + k % 8 ≡ k = omega arith in subst (λ k. (get_or r.links k no_link).used ≡ 0) e (none_before (k % 8) l)
        at k h i j (no l) = empty_at k h (no_receiver n k (omega arith))

  module _ (hn : n ≤ 8) (z : c ≡ 8 * n) where
    taken-all : Taken n now r until ls 64
    taken-all = taken-leaves 64 (omega arith) (λ k h i j. empty_at k h (no_sender n k (omega arith)))

    pub taken-links : (k : ℕ) → k < 64 → get_or ls k no_link ≡ link_kept n now r k
    taken-links k h = taken-all.past k h (omega arith)

    pub taken-calm : (t k : ℕ) → now < t → t ≤ until → k < 64 → quiet_link t (get_or ls k no_link) ≡ true
    taken-calm t k b e h = rw (taken-links k h) (taken-all.calm t k b e h (omega arith))

module _ (n now : ℕ) (r : System) (until : ℕ) (ls : List Link) (p q : ℕ) (hn : n ≤ 8) (hp : p < n) (hq : q < n) (a : Taken n now r until ls (8 * q + p)) where
  -- what the code reads is still as it was
  taken-old : get_or ls (8 * q + p) no_link ≡ get_or r.links (8 * q + p) no_link
  taken-old = a.rest (8 * q + p) (omega arith) (omega arith)

  pub taken-few : (get_or ls (8 * q + p) no_link).used ≤ places
  taken-few = rw taken-old (used_at r a.ticking p q (rw a.size hp) (rw a.size hq))

  -- a link with no message
  pub taken-skips : (get_or ls (8 * q + p) no_link).used ≡ 0 → Taken n now r until ls (8 * q + (p + 1))
  taken-skips z =
      taken-leaves n now r until ls (8 * q + p) a (8 * q + (p + 1)) (omega arith)
      (λ k h i j. (let e : 8 * q + p ≡ k = omega arith in subst (λ k. (get_or r.links k no_link).used ≡ 0) e (ap (λ (l : Link). l.used) (sym taken-old) ∙ z)))

  -- one with messages is a link of the system
  module _ (some : (get_or ls (8 * q + p) no_link).used ≡ 0 → ⊥) where
    taken-linked : is_link n (from (8 * q + p)) (to (8 * q + p)) ≡ true
    taken-linked =
        linked n q p hn hq hp
        (λ e. some (ap (λ (l : Link). l.used) taken-old ∙ empty_at n now r until ls (8 * q + p) a (8 * q + p) (omega arith) (self n q p hn hq hp e)))

    taken-held : holding (messages (get_or ls (8 * q + p) no_link)) ≡ get_or ls (8 * q + p) no_link
    taken-held =
        subst (λ l. holding (messages l) ≡ l) (sym taken-old)
        (a.held.held (8 * q + p) (omega arith) (subst (λ m. is_link m (from (8 * q + p)) (to (8 * q + p)) ≡ true) (sym a.size) taken-linked))

    taken-stores : (until' : ℕ) → length ls ≡ 64 → until' ≤ until → ((t : ℕ) → now < t → t ≤ until' → quiet_link t (holding (later now (messages (get_or ls (8 * q + p) no_link)))) ≡ true)
        → Taken n now r until' (set ls (8 * q + p) (holding (later now (messages (get_or ls (8 * q + p) no_link))))) (8 * q + (p + 1))
    taken-stores until' size le calm =
        record {
          ticking = a.ticking;
          held = a.held;
          size = a.size;
          past = λ k h i. past k h i (ℕ_discrete k (8 * q + p));
          rest = λ k h i. get_or-set_other ls (8 * q + p) k new no_link (λ e. omega arith) ∙ a.rest k h (omega arith);
          calm = λ t k b e h i. quiet t k b e h i (ℕ_discrete k (8 * q + p));
        }
      where
        new : Link
        new = holding (later now (messages (get_or ls (8 * q + p) no_link)))

        new_is : holding (later now (messages (get_or ls (8 * q + p) no_link))) ≡ link_kept n now r (8 * q + p)
        new_is = ap (λ l. holding (later now (messages l))) taken-old ∙ sym (kept-yes n now r (8 * q + p) taken-linked)

        past : (k : ℕ) → k < 64 → k < 8 * q + (p + 1) → Dec (k ≡ 8 * q + p) → get_or (set ls (8 * q + p) (holding (later now (messages (get_or ls (8 * q + p) no_link))))) k no_link ≡ link_kept n now r k
        past k h i (yes e) =
            rw e (get_or-set_same ls (8 * q + p) (holding (later now (messages (get_or ls (8 * q + p) no_link)))) no_link (omega arith) ∙ new_is)
        past k h i (no e) = get_or-set_other ls (8 * q + p) k (holding (later now (messages (get_or ls (8 * q + p) no_link)))) no_link e ∙ a.past k h (omega arith)

        quiet : (t k : ℕ) → now < t → t ≤ until' → k < 64 → k < 8 * q + (p + 1) → Dec (k ≡ 8 * q + p) → quiet_link t (link_kept n now r k) ≡ true
        quiet t k b d h i (yes e) = rw e (subst (λ l. quiet_link t l ≡ true) new_is (calm t b d))
        quiet t k b d h i (no e) = a.calm t k b (omega arith) h (omega arith)

-- a link gone through in place
module _ (n now p q : ℕ) (hn : n ≤ 8) (hp : p < n) (hq : q < n) (x s₁ s₂ : Layout) (until₁ to u : ℕ) (pack : Packing now (8 * q + p) x s₁ until₁ to u) (clear : Clearing (8 * q + p) s₁ s₂ to u)
    (wide : Wide x) (few : u ≤ places) (e : u ≡ get_or x.used (8 * q + p) 0) (y : Layout) (f : y ≡ with_used (set s₂.used (8 * q + p) to) s₂) where
  used_is : s₂.used ≡ x.used
  used_is = ap (λ (z : Layout). z.used) clear.same ∙ ap (λ (z : Layout). z.used) pack.same

  stations-are : y.stations ≡ s₁.stations
  stations-are = ap (λ (z : Layout). z.stations) f ∙ ap (λ (z : Layout). z.stations) clear.same

  pub link-wide : Wide y
  link-wide =
      subst Wide (sym f)
      (record { used = length-set s₂.used (8 * q + p) to ∙ ap length used_is ∙ wide.used; messages = clear.size })

  module _ (some : u ≡ 0 → ⊥) (r : System) (until : ℕ) (a : Taken n now r until (system_of x).links (8 * q + p)) where
    k_low : 8 * q + p < 64
    k_low = omega arith

    read_some : (get_or (system_of x).links (8 * q + p) no_link).used ≡ 0 → ⊥
    read_some z = some (e ∙ sym (used_read x (8 * q + p) k_low) ∙ z)

    held_at : holding (messages (get_or (system_of x).links (8 * q + p) no_link)) ≡ get_or (system_of x).links (8 * q + p) no_link
    held_at = taken-held n now r until (system_of x).links p q hn hp hq a read_some

    stored : system_of y ≡ with_links (set (system_of x).links (8 * q + p) (holding (later now (messages (get_or (system_of x).links (8 * q + p) no_link))))) (system_of (with_stations s₁.stations x))
    stored = kept-stored now (8 * q + p) x s₁ s₂ until₁ to u pack clear wide k_low few e held_at to y refl f

    pub link-taken : (until' : ℕ) → until' ≡ until₁ → until₁ ≤ until → Taken n now r until' (system_of y).links (8 * q + (p + 1))
    link-taken until' t le =
        rw t
        (subst (λ ls. Taken n now r until₁ ls (8 * q + (p + 1))) (sym (ap (λ (w : System). w.links) stored))
        (taken-stores n now r until (system_of x).links p q hn hp hq a read_some until₁ (length-links x.used x.messages) le
        (kept-calm now (8 * q + p) x s₁ s₂ until₁ to u pack clear wide k_low few e held_at)))

    pub link-heard : Hearing r n p q (system_of x) → now ≡ r.tick + 1 → Heard (system_of x) (p + 1) (q + 1) now (part x.messages (8 * q + p)) (get_or x.stations p no_station) (get_or s₁.stations p no_station) u
        → Beside p x.stations s₁.stations → Hearing r n (p + 1) q (system_of y)
    link-heard b tick h side =
        hearing-turn r n p q (system_of x) b hp (system_of y) now
        (ap (with_links r.links) stored ∙ ap (λ (w : System). system.with_stations s₁.stations w) b.same ∙ ap (λ xs. system.with_stations xs r) (sym stations-are))
        (ap length stations-are ∙ side.long ∙ b.long) (λ j ne. ap (λ xs. get_or xs j no_station) stations-are ∙ side.others j ne) tick
        (ap (λ xs. get_or xs p no_station) stations-are ∙ h.is
        ∙ ap (λ hear. hears hear (p + 1) (q + 1) now (take u (part x.messages (8 * q + p))) (get_or x.stations p no_station)) (hearing-same (system_of x) r (ap (λ (w : System). w.clock) b.same) (ap (λ (w : System). w.ranks) b.same))
        ∙ ap (λ ms. hears (hearing r) (p + 1) (q + 1) now ms (get_or x.stations p no_station)) (sym (messages-read x (8 * q + p) k_low u e) ∙ ap messages (taken-old n now r until (system_of x).links p q hn hp hq a)))

-- one passed over
pub none-heard : (n now : ℕ) (r : System) (until : ℕ) (x : Layout) (p q : ℕ) → n ≤ 8 → p < n → q < n → Taken n now r until (system_of x).links (8 * q + p) → Hearing r n p q (system_of x)
    → (get_or (system_of x).links (8 * q + p) no_link).used ≡ 0 → Hearing r n (p + 1) q (system_of x)
none-heard n now r until x p q hn hp hq a b z =
    hearing-skips r n p q (system_of x) b hp (ap (λ (l : Link). l.used) (sym (taken-old n now r until (system_of x).links p q hn hp hq a)) ∙ z)
