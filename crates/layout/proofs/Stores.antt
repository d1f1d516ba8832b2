-- What stores into a layout do to the system that it stands for.
use mathlib.Core.Path.{◌≡◌, refl, sym, ap, ◌∙◌}
use mathlib.Core.List.{List, []}
use Prim.Native.Nat.{ℕ, ◌+◌, ◌*◌, ◌<◌, ◌≤◌}
use native.Mathlib.Decide.{ℕ_discrete}
use native.Mathlib.Omega.{arith}
use lib.ListN.{length, get_or, set, take, replicate, length-set, get_or-replicate}
use lib.Seq.{ext_get_or, get_or-set_same, get_or-set_other}
use Rattle.lists.specs.Entries.{over}
use Rattle.lists.specs.Segment.{segment}
use Rattle.lists.proofs.Entries.{length-up_to, get_d_up_to}
use Rattle.lists.proofs.Segment.{length-segment, segment-set, segment-other}
use Rattle.station.specs.declared.Station.{Station}
use Rattle.layout.specs.Layout.{link_of, links_of, system_of}
use Rattle.election.specs.System.{no_message, no_link, unused, messages, holding, with_links, places}
use Rattle.layout.specs.declared.Layout.{Layout}
use Rattle.election.specs.declared.Link.{Link}
use Rattle.election.specs.declared.Message.{Message}

-- the arrays are full
pub record Wide (s : Layout) : Type 0 where
  pub used : length s.used ≡ 64
  pub messages : length s.messages ≡ (64 * places)

-- stretch k of an array of messages
abbrev pub part : List Message → ℕ → List Message
part ms k = segment places no_message ms k

-- the link at a place
pub link_at : (used : List ℕ) (ms : List Message) (k : ℕ) → k < 64 → get_or (links_of used ms) k no_link ≡ link_of used ms k
unfolding links_of
link_at used ms k h = get_d_up_to 64 (link_of used ms) k no_link h

pub length-links : (used : List ℕ) (ms : List Message) → length (links_of used ms) ≡ 64
unfolding links_of
length-links used ms = length-up_to 64 (link_of used ms)

pub link-used : (used : List ℕ) (ms : List Message) (k : ℕ) → (link_of used ms k).used ≡ get_or used k 0
unfolding link_of
link-used used ms k = refl

pub link-places : (used : List ℕ) (ms : List Message) (k : ℕ) → (link_of used ms k).messages ≡ part ms k
unfolding link_of
link-places used ms k = refl

pub link-is : (used : List ℕ) (ms : List Message) (k : ℕ) (l : Link) → get_or used k 0 ≡ l.used → part ms k ≡ l.messages → link_of used ms k ≡ l
unfolding link_of
link-is used ms k l a b = λ i. record { used = a i; messages = b i }

-- stores into one link leave the others
pub links-store : (used used' : List ℕ) (ms ms' : List Message) (k : ℕ) (l : Link) → k < 64 → ((j : ℕ) → (j ≡ k → ⊥) → link_of used' ms' j ≡ link_of used ms j) → link_of used' ms' k ≡ l
    → links_of used' ms' ≡ set (links_of used ms) k l
links-store used used' ms ms' k l h others e =
    ext_get_or no_link (links_of used' ms') (set (links_of used ms) k l) (length-links used' ms' ∙ sym (length-set (links_of used ms) k l ∙ length-links used ms))
    (λ j b. at j (let z : j < 64 = omega (arith, length-links used' ms') in z) (ℕ_discrete j k))
  where
    at : (j : ℕ) → j < 64 → Dec (j ≡ k) → get_or (links_of used' ms') j no_link ≡ get_or (set (links_of used ms) k l) j no_link
    at j b (yes i) =
        ap (λ j. get_or (links_of used' ms') j no_link) i ∙ link_at used' ms' k h ∙ e
        ∙ sym (ap (λ j. get_or (set (links_of used ms) k l) j no_link) i ∙ get_or-set_same (links_of used ms) k l no_link (omega (arith, length-links used ms)))
    at j b (no i) = link_at used' ms' j b ∙ others j i ∙ sym (get_or-set_other (links_of used ms) k j l no_link i ∙ link_at used ms j b)

-- the layout with other stations, sent counts, delays, counts of messages, messages and ranks; all else stays
abbrev pub relaid : List Station → List ℕ → List ℕ → List ℕ → List Message → List ℕ → Layout → Layout
relaid stations sent delays used messages ranks s =
    record {
      ready = s.ready;
      n = s.n;
      period = s.period;
      tick = s.tick;
      stations = stations;
      sent = sent;
      delays = delays;
      used = used;
      messages = messages;
      ranks = ranks;
      clock = s.clock;
    }

-- .. with one of these alone
abbrev pub with_stations : List Station → Layout → Layout
with_stations xs s = relaid xs s.sent s.delays s.used s.messages s.ranks s

abbrev pub with_sent : List ℕ → Layout → Layout
with_sent cs s = relaid s.stations cs s.delays s.used s.messages s.ranks s

abbrev pub with_delays : List ℕ → Layout → Layout
with_delays ds s = relaid s.stations s.sent ds s.used s.messages s.ranks s

abbrev pub with_used : List ℕ → Layout → Layout
with_used us s = relaid s.stations s.sent s.delays us s.messages s.ranks s

abbrev pub with_messages : List Message → Layout → Layout
with_messages ms s = relaid s.stations s.sent s.delays s.used ms s.ranks s

abbrev pub with_ranks : List ℕ → Layout → Layout
with_ranks rs s = relaid s.stations s.sent s.delays s.used s.messages rs s

-- the places from `to` up to j are zero, and the others as they were
pub record Clearing (k : ℕ) (s₀ s : Layout) (to j : ℕ) : Type 0 where
  pub same : s ≡ with_messages s.messages s₀
  pub size : length s.messages ≡ (64 * places)
  pub others : (i : ℕ) → (i ≡ k → ⊥) → part s.messages i ≡ part s₀.messages i
  pub low : (x : ℕ) → x < to → get_or (part s.messages k) x no_message ≡ get_or (part s₀.messages k) x no_message
  pub zeros : (x : ℕ) → to ≤ x → x < j → get_or (part s.messages k) x no_message ≡ unused
  pub high : (x : ℕ) → j ≤ x → get_or (part s.messages k) x no_message ≡ get_or (part s₀.messages k) x no_message

pub clearing_none : (k : ℕ) (s : Layout) (to : ℕ) → length s.messages ≡ (64 * places) → Clearing k s s to to
clearing_none k s to h = record { same = refl; size = h; others = λ i ne. refl; low = λ x h. refl; zeros = λ x a b. absurd (omega arith); high = λ x h. refl }

pub clearing_turn : (k : ℕ) (s₀ s : Layout) (to j : ℕ) → Clearing k s₀ s to j → k < 64 → j < places → to ≤ j → (m : Message) (y : Layout) → m ≡ unused → y ≡ with_messages (set s.messages (places * k + j) m) s → Clearing k s₀ y to (j + 1)
clearing_turn k s₀ s to j a hk hj le m y e g =
    rw g
    (record {
      same = ap (λ (x : Layout). with_messages (set s.messages (places * k + j) m) x) a.same;
      size = length-set s.messages (places * k + j) m ∙ a.size;
      others = λ i ne. segment-other places no_message s.messages k i j m hj ne ∙ a.others i ne;
      low = λ x h. old x (λ i. omega arith) ∙ a.low x h;
      zeros = λ x b c. at x b c (ℕ_discrete x j);
      high = λ x h. old x (λ i. omega arith) ∙ a.high x (omega arith);
    })
  where
    stored : part (set s.messages (places * k + j) m) k ≡ set (part s.messages k) j m
    stored = segment-set places no_message s.messages k j m hj (omega (arith, a.size))

    old : (x : ℕ) → (x ≡ j → ⊥) → get_or (part (set s.messages (places * k + j) m) k) x no_message ≡ get_or (part s.messages k) x no_message
    old x ne = ap (λ (l : List Message). get_or l x no_message) stored ∙ get_or-set_other (part s.messages k) j x m no_message ne

    at : (x : ℕ) → to ≤ x → x < j + 1 → Dec (x ≡ j) → get_or (part (set s.messages (places * k + j) m) k) x no_message ≡ unused
    at x b c (yes i) =
        ap (λ (l : List Message). get_or l x no_message) stored ∙ ap (λ x. get_or (set (part s.messages k) j m) x no_message) i
        ∙ get_or-set_same (part s.messages k) j m no_message (omega (arith, length-segment places no_message s.messages k)) ∙ e
    at x b c (no i) = old x i ∙ a.zeros x b (omega arith)

-- what is read of a link is what the link has
module _ (s : Layout) (k : ℕ) (hk : k < 64) where
  pub used_read : (get_or (system_of s).links k no_link).used ≡ get_or s.used k 0
  used_read = ap (λ (l : Link). l.used) (link_at s.used s.messages k hk) ∙ link-used s.used s.messages k

  pub places-read : (get_or (system_of s).links k no_link).messages ≡ part s.messages k
  places-read = ap (λ (l : Link). l.messages) (link_at s.used s.messages k hk) ∙ link-places s.used s.messages k

  pub messages-read : (u : ℕ) → u ≡ get_or s.used k 0 → messages (get_or (system_of s).links k no_link) ≡ take u (part s.messages k)
  unfolding messages
  messages-read u e = ap (λ (n : ℕ). take n (get_or (system_of s).links k no_link).messages) (used_read ∙ sym e) ∙ ap (take u) places-read

-- a link whose messages are lost: its places are zero, and so is its count
pub lost-read : (k : ℕ) (s₀ s y : Layout) → Clearing k s₀ s 0 places → Wide s₀ → k < 64 → y ≡ with_used (set s.used k 0) s → system_of y ≡ with_links (set (system_of s₀).links k (holding [])) (system_of s₀)
unfolding holding over
lost-read k s₀ s y b wide hk g =
    ap system_of (g ∙ ap (λ (z : Layout). with_used (set z.used k 0) z) b.same)
    ∙ ap (λ ls. with_links ls (system_of s₀))
    (links-store s₀.used (set s₀.used k 0) s₀.messages s.messages k (holding []) hk
    (λ j ne. link-is (set s₀.used k 0) s.messages j (link_of s₀.used s₀.messages j) (get_or-set_other s₀.used k j 0 0 ne ∙ sym (link-used s₀.used s₀.messages j)) (b.others j ne ∙ sym (link-places s₀.used s₀.messages j)))
    (link-is (set s₀.used k 0) s.messages k (holding []) (get_or-set_same s₀.used k 0 0 (omega (arith, wide.used))) zeros))
  where
    zeros : part s.messages k ≡ replicate places unused
    zeros =
        ext_get_or no_message (part s.messages k) (replicate places unused) (length-segment places no_message s.messages k)
        (λ x h. (let z : x < places = omega (arith, length-segment places no_message s.messages k) in b.zeros x (omega arith) z ∙ sym (get_or-replicate places x unused no_message z)))
