-- What is delivered in a tick, as the code goes: sender by sender, each from receiver to receiver, and link by link in place.
use Rattle.std.specs.Prelude.{◌≡◌, List, Bool, true, false, cond, not, ℕ, ◌+◌, ◌*◌, ◌<◌, ◌≤◌, length, take, get_or, eqb}
use Rattle.lists.specs.Fold.{each}
use Rattle.lists.proofs.Filter.{Kept}
use Rattle.station.specs.Limits.{last_tick}
use Rattle.station.specs.declared.Station.{Station}
use Rattle.election.specs.Heads.{hearing}
use Rattle.election.specs.Idle.{quiet_link, Held}
use Rattle.election.specs.System.{no_station, no_message, no_link, from, to, messages, underway, holding, is_link, with_links, with_stations, places}
use Rattle.election.specs.Tick.{later}
use Rattle.election.specs.declared.Link.{Link}
use Rattle.election.specs.declared.Message.{Message}
use Rattle.election.specs.declared.System.{System}
use Rattle.layout.specs.Layout.{system_of}
use Rattle.layout.specs.declared.Layout.{Layout}
use Rattle.layout.proofs.Stores.{Wide, part}
use Rattle.layout.proofs.Stores as stores
use Rattle.ticks.specs.Sending.{Ticking, hears}

-- a tick that is not before now is before due if due is after now
abbrev pub Before : ℕ → ℕ → ℕ → Type 0
Before now due r = now < due → r < due

-- what is not due now are the entries at which a test holds
abbrev pub staying : ℕ → List Message → ℕ → Bool
staying now ms i = not (eqb (get_or ms i no_message).due now)

abbrev pub entry_of : List Message → ℕ → Message
entry_of ms i = get_or ms i no_message

-- a link in which the first i messages are gone through: those that are not due now stand at the front, `to` of them, and none of them is
-- due after now and up to a tick
pub record Packing (now k : ℕ) (s₀ : Layout) (s : Layout) (until to i : ℕ) : Type 0 where
  pub same : s ≡ stores.with_messages s.messages (stores.with_stations s.stations s₀)
  pub size : length s.messages ≡ (64 * places)
  pub others : (j : ℕ) → (j ≡ k → ⊥) → part s.messages j ≡ part s₀.messages j
  pub kept : Kept i (staying now (part s₀.messages k)) (entry_of (part s₀.messages k)) (part s₀.messages k) to (part s.messages k)
  pub front : to ≤ i
  pub calm : (x : ℕ) → x < to → Before now (get_or (part s.messages k) x no_message).due until

-- a station that hears the first i messages of a link
pub record Heard (s : System) (me q now : ℕ) (ms : List Message) (x₀ x : Station) (i : ℕ) : Type 0 where
  pub up : x.up ≡ x₀.up
  pub timeouts : x.timeouts ≡ x₀.timeouts
  pub timeout : x.timeout ≡ x₀.timeout
  pub is : x ≡ hears (hearing s) me q now (take i ms) x₀

-- stations that are as they were but for the one at place p
pub record Beside (p : ℕ) (xs ys : List Station) : Type 0 where
  pub long : length ys ≡ length xs
  pub others : (j : ℕ) → (j ≡ p → ⊥) → get_or ys j no_station ≡ get_or xs j no_station

-- the link k of s₀ in which the first i messages are gone through, `to` of which stay
pub record Reading (q p k now : ℕ) (s₀ s : Layout) (until to i : ℕ) : Type 0 where
  pub packing : Packing now k s₀ s until to i
  pub heard : Heard (system_of s₀) (p + 1) (q + 1) now (part s₀.messages k) (get_or s₀.stations p no_station) (get_or s.stations p no_station) i
  pub beside : Beside p s₀.stations s.stations

-- the station at place p after the first q senders
unfoldable pub heard_from : System → ℕ → ℕ → Station
heard_from s p q = each q (λ k. hears (hearing s) (p + 1) (k + 1) (s.tick + 1) (underway s (k + 1) (p + 1))) (get_or s.stations p no_station)

-- in s the first p of n stations have heard one sender more than the first q senders of r, the others just those
pub record Hearing (r : System) (n p q : ℕ) (s : System) : Type 0 where
  pub same : with_links r.links s ≡ with_stations s.stations r
  pub long : length s.stations ≡ 8
  pub heard : (j : ℕ) → j < p → j < n → get_or s.stations j no_station ≡ heard_from r j (q + 1)
  pub waits : (j : ℕ) → p ≤ j → j < n → get_or s.stations j no_station ≡ heard_from r j q
  pub others : (j : ℕ) → n ≤ j → get_or s.stations j no_station ≡ get_or r.stations j no_station

-- the link at place k without what is due now
unfoldable pub link_kept : ℕ → ℕ → System → ℕ → Link
link_kept n now r k = cond (is_link n (from k) (to k)) (holding (later now (messages (get_or r.links k no_link)))) (get_or r.links k no_link)

-- the first c links are so, and none of their messages is due after now and up to a tick
pub record Taken (n now : ℕ) (r : System) (until : ℕ) (ls : List Link) (c : ℕ) : Type 0 where
  pub ticking : Ticking r
  pub held : Held r
  pub size : r.n ≡ n
  pub past : (k : ℕ) → k < 64 → k < c → get_or ls k no_link ≡ link_kept n now r k
  pub rest : (k : ℕ) → k < 64 → c ≤ k → get_or ls k no_link ≡ get_or r.links k no_link
  pub calm : (t k : ℕ) → now < t → t ≤ until → k < 64 → k < c → quiet_link t (link_kept n now r k) ≡ true

-- of the first c links, those of a sender that is not marked have no message
pub record Silent (n : ℕ) (used : List ℕ) (busy : List Bool) (c : ℕ) : Type 0 where
  pub long : length busy ≡ 8
  pub none : (q p : ℕ) → q < n → p < n → 8 * q + p < c → get_or busy q false ≡ false → get_or used (8 * q + p) 0 ≡ 0

-- the first p links of a sender hold no message, if no more is said to stay
abbrev pub Gone : List ℕ → ℕ → ℕ → Bool → Type 0
Gone used q p more = more ≡ false → (j : ℕ) → j < p → get_or used (8 * q + j) 0 ≡ 0

-- in s, of what is due now in the system r: all of the first q senders is heard and taken off, and of the sender at q to the first p receivers.
-- None of what is left there is due up to a tick
pub record Delivered (r : System) (now until : ℕ) (s : Layout) (q p : ℕ) : Type 0 where
  pub now-is : now ≡ r.tick + 1
  pub n-high : r.n ≤ 8
  pub low : now ≤ until
  pub high : until ≤ last_tick
  pub wide : Wide s
  pub taken : Taken r.n now r until (system_of s).links (8 * q + p)
  pub hearing : Hearing r r.n p q (system_of s)
