-- A link of a layout gone through in place.
use mathlib.Core.Path.{◌≡◌, refl, sym, ap, subst, ◌∙◌}
use mathlib.Core.List.{List, [], ◌∷◌, ◌++◌}
use mathlib.Core.Bool.{Bool, true, false, cond, not, ◌&&◌, and-true, and-false}
use Prim.Native.Nat.{ℕ, ◌+◌, ◌*◌, ◌<◌, ◌≤◌}
use native.Mathlib.Decide.{dec_lt}
use native.Mathlib.Omega.{arith}
use lib.Dec.{eqb}
use lib.ListN.{length, get_or, set, take, replicate, length-set, length-append, length-take, get_or-replicate, get_or-append}
use lib.Seq.{ext_get_or, get_or-set_same, get_or-set_other, get_or_at}
use borrow.Author.Count.{below_more}
use borrow.Author.Tests.{eq-eqb, ne_eqb}
use Rattle.election.specs.declared.System.{System}
use Rattle.election.proofs.Heads.{hearing-unchanged, hearing-timeouts}
use Rattle.election.specs.Heads.{hearing}
use Rattle.lists.specs.Entries.{over}
use Rattle.lists.specs.Filter.{where_to}
use Rattle.lists.proofs.Bools.{cond_yes, cond_no, cond_elim}
use Rattle.lists.proofs.Entries.{length_over, over-beyond, over-front}
use Rattle.lists.proofs.Filter.{kept-none, kept-takes, kept_leaves}
use Rattle.lists.proofs.Test.{all_at, all_of}
use Rattle.lists.proofs.Segment.{length-segment, get_d_segment, segment-set, segment-other}
use Rattle.station.specs.declared.Station.{Station}
use Rattle.layout.specs.Layout.{link_of, system_of}
use Rattle.election.specs.Idle.{quiet_link}
use Rattle.election.specs.Sound.{message_at}
use Rattle.election.specs.System.{no_station, no_message, no_link, unused, messages, holding, with_links, places}
use Rattle.election.specs.Tick.{later, heard_link}
use Rattle.layout.specs.declared.Layout.{Layout}
use Rattle.election.specs.declared.Link.{Link}
use Rattle.election.specs.declared.Message.{Message}
use Rattle.election.proofs.Links.{holding-at, holding-rest, holding-used}
use Rattle.ticks.specs.Sending.{hears}
use Rattle.ticks.proofs.Quiet.{link-quiet}
use Rattle.ticks.proofs.Turns.{stays, goes, later-where, holding-more, heard_link-turn}
use Rattle.layout.proofs.Stores.{Wide, part, link-used, link-places, link-is, links-store, with_messages, with_used, with_stations, Clearing, used_read, places-read, messages-read}
use Rattle.ticks.specs.Delivering.{Before, staying, entry_of, Packing, Heard, Beside}

pub packing_none : (now k : ℕ) (s : Layout) (until : ℕ) → Wide s → Packing now k s s until 0 0
packing_none now k s until w = record { same = refl; size = w.messages; others = λ j ne. refl; kept = kept-none _ _ _; front = omega arith; calm = λ x h. absurd (omega arith) }

module _ (now k : ℕ) (s₀ s : Layout) (until to i : ℕ) (a : Packing now k s₀ s until to i) (hk : k < 64) (hi : i < places) where
  -- what the code reads is still as it was
  pub packing_read : get_or s.messages (places * k + i) no_message ≡ get_or (part s₀.messages k) i no_message
  packing_read =
      sym (get_d_segment places no_message s.messages k i no_message hi)
      ∙ ap (λ (l : List Message). get_or l i no_message) a.kept.list
      ∙ over-beyond (where_to i (staying now (part s₀.messages k)) (entry_of (part s₀.messages k))) (part s₀.messages k) i no_message (omega (arith, a.kept.count, a.front))

  place-within : places * k + to < length s.messages
  place-within = omega (arith, a.size, a.front)

  pub packing_keeps : (m : Message) (until' u to' : ℕ) (y : Layout) → m ≡ get_or s.messages (places * k + i) no_message → (m.due ≡ now → ⊥) → until' ≤ until → Before now m.due until'
      → y ≡ with_messages (set s.messages (places * k + to) m) s → u ≡ until' → to' ≡ to + 1 → Packing now k s₀ y u to' (i + 1)
  packing_keeps m until' u to' y e ne le f g z t =
      rw (g, z, t)
      (record {
        same = ap (λ (x : Layout). with_messages (set s.messages (places * k + to) m) x) a.same;
        size = length-set s.messages (places * k + to) m ∙ a.size;
        others = λ j d. segment-other places no_message s.messages k j to m (omega (arith, a.front)) d ∙ a.others j d;
        kept = kept-takes a.kept (omega (arith, a.front, length-segment places no_message s₀.messages k)) (subst (λ (x : Message). not (eqb x.due now) ≡ true) (e ∙ packing_read) (stays now m ne)) (e ∙ packing_read) stored refl;
        front = omega (arith, a.front);
        calm = below_more (λ x. Before now (get_or (part (set s.messages (places * k + to) m) k) x no_message).due until') to
            (λ x h b. omega (arith, a.calm x h (subst (λ (n : Message). now < n.due) (old x h) b), ap (λ (n : Message). n.due) (old x h)))
            (subst (λ (n : Message). Before now n.due until') (sym new) f);
      })
    where
      stored : part (set s.messages (places * k + to) m) k ≡ set (part s.messages k) to m
      stored = segment-set places no_message s.messages k to m (omega (arith, a.front)) place-within

      old : (x : ℕ) → x < to → get_or (part (set s.messages (places * k + to) m) k) x no_message ≡ get_or (part s.messages k) x no_message
      old x h = ap (λ (l : List Message). get_or l x no_message) stored ∙ get_or-set_other (part s.messages k) to x m no_message (λ e. omega arith)

      new : get_or (part (set s.messages (places * k + to) m) k) to no_message ≡ m
      new = ap (λ (l : List Message). get_or l to no_message) stored ∙ get_or-set_same (part s.messages k) to m no_message (omega (arith, a.front, length-segment places no_message s.messages k))

  pub packing_drops : (m : Message) (u to' : ℕ) (xs : List Station) (y : Layout) → m ≡ get_or s.messages (places * k + i) no_message → m.due ≡ now → y ≡ with_stations xs s → u ≡ until → to' ≡ to → Packing now k s₀ y u to' (i + 1)
  packing_drops m u to' xs y e d g z t =
      rw (g, z, t)
      (record {
        same = ap (with_stations xs) a.same;
        size = a.size;
        others = a.others;
        kept = kept_leaves a.kept (subst (λ (x : Message). not (eqb x.due now) ≡ false) (e ∙ packing_read) (goes now m d)) refl refl;
        front = omega (arith, a.front);
        calm = a.calm;
      })

-- a count and messages stored at the link at place k
link-stored : (s : Layout) (k : ℕ) (ms : List Message) (v : ℕ) (l : Link) → Wide s → k < 64 → v ≡ l.used → part ms k ≡ l.messages → ((j : ℕ) → (j ≡ k → ⊥) → part ms j ≡ part s.messages j)
    → system_of (with_used (set s.used k v) (with_messages ms s)) ≡ with_links (set (system_of s).links k l) (system_of s)
link-stored s k ms v l wide hk c d others =
    ap (λ ls. with_links ls (system_of s))
    (links-store s.used (set s.used k v) s.messages ms k l hk
    (λ j ne. link-is (set s.used k v) ms j (link_of s.used s.messages j) (get_or-set_other s.used k j v 0 ne ∙ sym (link-used s.used s.messages j)) (others j ne ∙ sym (link-places s.used s.messages j)))
    (link-is (set s.used k v) ms k l (get_or-set_same s.used k v 0 (omega (arith, wide.used)) ∙ c) d))

-- the link at place k is done: it holds what is not due now
module _ (now k : ℕ) (s₀ s₁ s₂ : Layout) (until to u : ℕ) (a : Packing now k s₀ s₁ until to u) (b : Clearing k s₁ s₂ to u) (wide : Wide s₀) (hk : k < 64) (few : u ≤ places)
    (e : u ≡ get_or s₀.used k 0) (held : holding (messages (get_or (system_of s₀).links k no_link)) ≡ get_or (system_of s₀).links k no_link) where
  -- its messages before, and those that stay
  abbrev old : Link
  old = get_or (system_of s₀).links k no_link

  abbrev staying_on : List Message
  staying_on = later now (messages old)

  abbrev where_is : List Message
  where_is = where_to u (staying now (part s₀.messages k)) (entry_of (part s₀.messages k))

  stay_is : staying_on ≡ where_is
  stay_is = ap (later now) (messages-read s₀ k hk u e) ∙ later-where now (part s₀.messages k) u (omega (arith, length-segment places no_message s₀.messages k))

  stay_count : to ≡ length staying_on
  stay_count = a.kept.count ∙ ap length (sym stay_is)

  stay_few : length staying_on ≤ places
  stay_few = omega (arith, stay_count, a.front)

  stay_at : (x : ℕ) → x < to → get_or (part s₁.messages k) x no_message ≡ get_or staying_on x no_message
  stay_at x h =
      ap (λ (l : List Message). get_or l x no_message) a.kept.list ∙ over-front where_is (part s₀.messages k) x no_message (omega (arith, a.kept.count))
      ∙ ap (λ (l : List Message). get_or l x no_message) (sym stay_is)

  -- past its messages places were zero
  tail : (x : ℕ) → u ≤ x → x < places → get_or (part s₀.messages k) x no_message ≡ unused
  tail x i h =
      ap (λ (l : List Message). get_or l x no_message) (sym (places-read s₀ k hk)) ∙ ap (λ (l : Link). message_at l x) (sym held)
      ∙ holding-rest (messages old) (omega (arith, size)) x h (omega (arith, size))
    where
      size : length (messages old) ≤ u
      size = omega (arith, ap length (messages-read s₀ k hk u e), length-take u (part s₀.messages k))

  stay_places : part s₂.messages k ≡ (holding staying_on).messages
  unfolding holding
  stay_places =
      ext_get_or no_message (part s₂.messages k) (over staying_on (replicate places unused)) (length-segment places no_message s₂.messages k ∙ sym (length_over staying_on (replicate places unused) stay_few))
      (λ x h. at x (let z : x < places = omega (arith, length-segment places no_message s₂.messages k) in z) (dec_lt x to) (dec_lt x u))
    where
      rest : (x : ℕ) → x < places → to ≤ x → get_or (over staying_on (replicate places unused)) x no_message ≡ unused
      rest x h i = over-beyond staying_on (replicate places unused) x no_message (omega (arith, stay_count)) ∙ get_or-replicate places x unused no_message h

      at : (x : ℕ) → x < places → Dec (x < to) → Dec (x < u) → get_or (part s₂.messages k) x no_message ≡ get_or (over staying_on (replicate places unused)) x no_message
      at x h (yes i) j = b.low x i ∙ stay_at x i ∙ sym (over-front staying_on (replicate places unused) x no_message (omega (arith, stay_count)))
      at x h (no i) (yes j) = b.zeros x (omega arith) j ∙ sym (rest x h (omega arith))
      at x h (no i) (no j) =
          b.high x (omega arith) ∙ ap (λ (l : List Message). get_or l x no_message) a.kept.list
          ∙ over-beyond where_is (part s₀.messages k) x no_message (omega (arith, a.kept.count)) ∙ tail x (omega arith) h ∙ sym (rest x h (omega arith))

  pub kept-stored : (v : ℕ) (y : Layout) → v ≡ to → y ≡ with_used (set s₂.used k v) s₂ → system_of y ≡ with_links (set (system_of s₀).links k (holding staying_on)) (system_of (with_stations s₁.stations s₀))
  unfolding holding
  kept-stored v y c g =
      ap system_of (g ∙ ap (λ (z : Layout). with_used (set z.used k v) (with_messages s₂.messages z)) (b.same ∙ ap (with_messages s₂.messages) a.same))
      ∙ link-stored (with_stations s₁.stations s₀) k s₂.messages v (holding staying_on) (record { used = wide.used; messages = wide.messages }) hk (c ∙ stay_count) stay_places (λ j ne. b.others j ne ∙ a.others j ne)

  pub kept-calm : (t : ℕ) → now < t → t ≤ until → quiet_link t (holding staying_on) ≡ true
  kept-calm =
      link-quiet now until (holding staying_on)
      (λ x h. (let i : x < length staying_on = omega (arith, holding-used staying_on stay_few) in subst (λ (m : Message). Before now m.due until) (sym (holding-at staying_on stay_few x i)) (calm_at x i)))
    where
      calm_at : (x : ℕ) → x < length staying_on → Before now (get_or staying_on x no_message).due until
      calm_at x h = subst (λ (m : Message). Before now m.due until) (stay_at x (omega (arith, stay_count))) (a.calm x (omega (arith, stay_count)))

-- a message more on the link at place k
module _ (s : Layout) (k u : ℕ) (wide : Wide s) (hk : k < 64) (e : u ≡ get_or s.used k 0) (held : holding (messages (get_or (system_of s).links k no_link)) ≡ get_or (system_of s).links k no_link)
    (m : Message) (room : length (messages (get_or (system_of s).links k no_link) ++ (m ∷ [])) ≤ places) where
  abbrev had : List Message
  had = messages (get_or (system_of s).links k no_link)

  had_few : length had < places
  had_few = omega (arith, room, length-append had (m ∷ []))

  had_count : u ≡ length had
  had_count = e ∙ sym (used_read s k hk) ∙ ap (λ (l : Link). l.used) (sym held) ∙ holding-used had (omega (arith, had_few))

  pub sent-place : u < places
  sent-place = omega (arith, had_count, had_few)

  pub sent-stored : (v : ℕ) (y : Layout) → v ≡ u + 1 → y ≡ with_used (set s.used k v) (with_messages (set s.messages (places * k + u) m) s) → system_of y ≡ with_links (set (system_of s).links k (holding (had ++ (m ∷ [])))) (system_of s)
  unfolding holding
  sent-stored v y c g =
      ap system_of g
      ∙ link-stored s k (set s.messages (places * k + u) m) v (holding (had ++ (m ∷ []))) wide hk
      (c ∙ ap (λ n. n + 1) had_count ∙ ap (λ (l : Link). l.used) (holding-more had m room))
      (segment-set places no_message s.messages k u m sent-place (omega (arith, wide.messages, sent-place))
      ∙ ap (λ (l : List Message). set l u m) (sym (places-read s k hk) ∙ ap (λ (l : Link). l.messages) (sym held)) ∙ ap (λ n. set (holding had).messages n m) had_count ∙ ap (λ (l : Link). l.messages) (holding-more had m room))
      (λ j ne. segment-other places no_message s.messages k j u m sent-place ne)

  pub sent-calm : (now until until' : ℕ) → until' ≤ until → Before now m.due until' → ((t : ℕ) → now < t → t ≤ until → quiet_link t (get_or (system_of s).links k no_link) ≡ true)
      → (t : ℕ) → now < t → t ≤ until' → quiet_link t (holding (had ++ (m ∷ []))) ≡ true
  unfolding quiet_link
  sent-calm now until until' le f calm t b c =
      all_of (holding (had ++ (m ∷ []))).used (λ x. not (eqb (message_at (holding (had ++ (m ∷ []))) x).due t))
      (λ x h. (let i : x < length had + 1 = omega (arith, holding-used (had ++ (m ∷ [])) room, length-append had (m ∷ [])) in rw (holding-at (had ++ (m ∷ [])) room x (omega (arith, length-append had (m ∷ [])))) (at x i (dec_lt x (length had)))))
    where
      before : (x : ℕ) → x < length had → not (eqb (message_at (holding had) x).due t) ≡ true
      before x h = subst (λ (l : Link). not (eqb (message_at l x).due t) ≡ true) (sym held) (all_at (get_or (system_of s).links k no_link).used x (λ x. not (eqb (message_at (get_or (system_of s).links k no_link) x).due t)) (calm t b (omega arith)) (omega (arith, used_read s k hk, e, had_count)))

      at : (x : ℕ) → x < length had + 1 → Dec (x < length had) → not (eqb (get_or (had ++ (m ∷ [])) x no_message).due t) ≡ true
      at x h (yes i) = rw (get_or-append had (m ∷ []) no_message x i, ← holding-at had (omega (arith, had_few)) x i) (before x i)
      at x h (no i) = let z : length had ≡ x = omega arith in rw (get_or_at had m [] no_message x z, ne_eqb m.due t (λ d. omega (arith, f (omega arith)))) refl

pub heard-first : (s : System) (me q now : ℕ) (ms : List Message) (x : Station) → Heard s me q now ms x x 0
unfolding hears heard_link
heard-first s me q now ms x = record { up = refl; timeouts = refl; timeout = refl; is = cond_elim (λ y. x ≡ y) x.up (λ u. refl) (λ u. refl) }

heard-next : (s : System) (me q now : ℕ) (ms : List Message) (x₀ x y : Station) (i : ℕ) (m : Message) → Heard s me q now ms x₀ x i → i < length ms → m ≡ get_or ms i no_message
    → y ≡ cond (eqb m.due now && x.up) (hearing s me q m now x) x → Heard s me q now ms x₀ y (i + 1)
unfolding hears
heard-next s me q now ms x₀ x y i m a h e g = go x₀.up refl
  where
    kept : (b : Bool) → ((cond b (hearing s me q m now x) x).up ≡ x.up) × ((cond b (hearing s me q m now x) x).timeouts ≡ x.timeouts) × ((cond b (hearing s me q m now x) x).timeout ≡ x.timeout)
    kept true = let (more, one) = hearing-timeouts s me q m now x in ((hearing-unchanged s me q m now x).up, more, one)
    kept false = (refl, refl, refl)

    go : (b : Bool) → x₀.up ≡ b → Heard s me q now ms x₀ y (i + 1)
    go b u =
        record {
          up = ap (λ (z : Station). z.up) g ∙ (kept (eqb m.due now && x.up)).0 ∙ a.up;
          timeouts = ap (λ (z : Station). z.timeouts) g ∙ (kept (eqb m.due now && x.up)).1 ∙ a.timeouts;
          timeout = ap (λ (z : Station). z.timeout) g ∙ (kept (eqb m.due now && x.up)).2 ∙ a.timeout;
          is = at b u;
        }
      where
        at : (b : Bool) → x₀.up ≡ b → y ≡ cond x₀.up (heard_link (hearing s) me q now (take (i + 1) ms) x₀) x₀
        at true u =
            heard_link-turn (hearing s) me q now ms i x₀ x y h (a.is ∙ cond_yes _ _ u)
            (g ∙ ap (λ b. cond (eqb m.due now && b) (hearing s me q m now x) x) (a.up ∙ u) ∙ ap (λ b. cond b (hearing s me q m now x) x) (and-true (eqb m.due now)) ∙ ap (λ (n : Message). cond (eqb n.due now) (hearing s me q n now x) x) e)
            ∙ sym (cond_yes _ _ u)
        at false u =
            g ∙ ap (λ b. cond (eqb m.due now && b) (hearing s me q m now x) x) (a.up ∙ u) ∙ ap (λ b. cond b (hearing s me q m now x) x) (and-false (eqb m.due now))
            ∙ a.is ∙ cond_no _ _ u ∙ sym (cond_no _ _ u)

-- a message that is not due, one that is heard, and one that is due where the station is down
module _ (s : System) (me q now : ℕ) (ms : List Message) (x₀ x y : Station) (i : ℕ) (m : Message) (a : Heard s me q now ms x₀ x i) (h : i < length ms) (e : m ≡ get_or ms i no_message) where
  pub heard-waits : (m.due ≡ now → ⊥) → y ≡ x → Heard s me q now ms x₀ y (i + 1)
  heard-waits ne g = heard-next s me q now ms x₀ x y i m a h e (g ∙ sym (cond_no _ _ (ap (λ b. b && x.up) (ne_eqb m.due now ne))))

  pub heard-due : m.due ≡ now → x.up ≡ true → y ≡ hearing s me q m now x → Heard s me q now ms x₀ y (i + 1)
  heard-due d u g = heard-next s me q now ms x₀ x y i m a h e (g ∙ sym (cond_yes _ _ (ap (λ b. b && x.up) (eq-eqb m.due now d) ∙ u)))

  pub heard-down : m.due ≡ now → x.up ≡ false → y ≡ x → Heard s me q now ms x₀ y (i + 1)
  heard-down d u g = heard-next s me q now ms x₀ x y i m a h e (g ∙ sym (cond_no _ _ (ap (λ b. b && x.up) (eq-eqb m.due now d) ∙ u)))

pub beside_none : (p : ℕ) (xs : List Station) → Beside p xs xs
beside_none p xs = record { long = refl; others = λ j ne. refl }

pub beside_stores : (p : ℕ) (xs ys : List Station) (v : Station) → Beside p xs ys → Beside p xs (set ys p v)
beside_stores p xs ys v a = record { long = length-set ys p v ∙ a.long; others = λ j ne. get_or-set_other ys p j v no_station ne ∙ a.others j ne }
