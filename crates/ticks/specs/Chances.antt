-- The timers and send chances of a tick, as the code goes: station by station, its timer, then its chance, then its links.
use Rattle.std.specs.Prelude.{◌≡◌, List, ◌++◌, Bool, true, cond, ℕ, ◌+◌, ◌-◌, ◌*◌, ◌/◌, ◌<◌, ◌≤◌, length, get_or, set}
use Rattle.lists.specs.Entries.{firsts}
use Rattle.station.specs.Limits.{last_tick, longest}
use Rattle.station.specs.Order.{entry}
use Rattle.station.specs.declared.Station.{Station}
use Rattle.election.specs.Heads.{expiring_of, slotting}
use Rattle.election.specs.Idle.{quiet_station, quiet_link}
use Rattle.election.specs.System.{no_station, no_link, from, to, messages, holding, is_link, with_stations, renewed, places}
use Rattle.election.specs.Tick.{slotted_now}
use Rattle.election.specs.declared.Link.{Link}
use Rattle.election.specs.declared.System.{System}
use Rattle.layout.specs.Layout.{system_of}
use Rattle.layout.specs.declared.Layout.{Layout}
use Rattle.layout.proofs.Stores.{Wide}
use Rattle.layout.proofs.Stores as stores
use Rattle.ticks.specs.Delivering.{Silent}
use Rattle.ticks.specs.Sending.{timer_ends, sends_now, sent_over}

-- m is the system of n stations where (c) begins: after (a) and (b), its links without what was due now. now is the tick.

-- the station at place k sends LEADER
abbrev pub sends_at : ℕ → System → ℕ → Bool
sends_at now m k = sends_now m.clock (k + 1) now (get_or m.stations k no_station)

-- what stands at place k after the tick: station, sent count, link
unfoldable pub station_after : ℕ → System → ℕ → Station
station_after now m k = slotted_now (slotting m (k + 1) now) now (get_or m.stations k no_station)

unfoldable pub sent_after : ℕ → System → ℕ → ℕ
sent_after now m k = cond (sends_at now m k) (get_or m.sent k 0 + (m.n - 1)) (get_or m.sent k 0)

abbrev pub new_link : ℕ → System → ℕ → ℕ → Link
new_link now m p k = holding (messages (get_or m.links k no_link) ++ sent_over now (sends_at now m p) (get_or m.delays k 0) (get_or m.stations p no_station))

unfoldable pub link_after : ℕ → ℕ → System → ℕ → Link
link_after n now m k = cond (is_link n (from k) (to k)) (new_link now m (k / 8) k) (get_or m.links k no_link)

-- the system in which the first p stations, c sent counts and k links are after the tick
unfoldable pub sent_to : ℕ → ℕ → System → ℕ → ℕ → ℕ → System
sent_to n now m p c k =
    renewed m.tick (firsts p (station_after now m) m.stations) (firsts c (sent_after now m) m.sent) m.delays (firsts k (link_after n now m) m.links) m.ranks m

-- what the sending is given
pub record Mid (n now : ℕ) (m : System) : Type 0 where
  pub size : m.n ≡ n
  pub n-low : 2 ≤ n
  pub n-high : n ≤ 8
  pub early : now ≤ last_tick
  pub period-high : m.period ≤ 255
  pub stations-long : length m.stations ≡ 8
  pub sent-long : length m.sent ≡ 8
  pub links-long : length m.links ≡ 64
  pub sent-low : (p : ℕ) → p < n → get_or m.sent p 0 ≤ 7000000
  pub safe : (p : ℕ) → p < n → (get_or m.stations p no_station).slot ≡ now → (get_or m.stations p no_station).timeout ≤ longest last_tick
  pub room : (p q : ℕ) → p < n → q < n → (p ≡ q → ⊥) → length (messages (get_or m.links (8 * p + q) no_link) ++ sent_over now (sends_at now m p) (get_or m.delays (8 * p + q) 0) (get_or m.stations p no_station)) ≤ places
  pub held : (k : ℕ) → k < 64 → is_link n (from k) (to k) ≡ true → holding (messages (get_or m.links k no_link)) ≡ get_or m.links k no_link

-- so far, and nothing of what is done, or was on a link before, is due after now and up to a tick
pub record Part (n now : ℕ) (m : System) (until : ℕ) (s : System) (p c k : ℕ) : Type 0 where
  pub mid : Mid n now m
  pub same : s ≡ sent_to n now m p c k
  pub calm_stations : (t j : ℕ) → now < t → t ≤ until → j < p → quiet_station t (station_after now m j) ≡ true
  pub calm_links : (t j : ℕ) → now < t → t ≤ until → j < k → quiet_link t (link_after n now m j) ≡ true
  pub calm_kept : (t j : ℕ) → now < t → t ≤ until → j < 64 → quiet_link t (get_or m.links j no_link) ≡ true

-- the station at place p after (b), if x is it after (a)
abbrev pub ended_at : Bool → ℕ → ℕ → Station → Station
ended_at clock now p x = cond (timer_ends now x) (expiring_of clock (p + 1) x) x

-- the system whose n stations are after (b)
abbrev pub ended_to : ℕ → ℕ → System → System
ended_to n now s = with_stations (firsts n (λ k. ended_at s.clock now k (get_or s.stations k no_station)) s.stations) s

-- s₀ is the system after (a). In s the timers of the first e stations have ended if they were due; the rest is part of (c) where all have.
pub record Chances (n now : ℕ) (s₀ : System) (until : ℕ) (s : Layout) (e p c k : ℕ) : Type 0 where
  pub stations : List Station
  pub part : Part n now (ended_to n now s₀) until (system_of (stores.with_stations stations s)) p c k
  pub done : (j : ℕ) → j < p → get_or s.stations j no_station ≡ get_or stations j no_station
  pub ended : (j : ℕ) → p ≤ j → j < e → get_or s.stations j no_station ≡ get_or (ended_to n now s₀).stations j no_station
  pub rest : (j : ℕ) → e ≤ j → get_or s.stations j no_station ≡ get_or s₀.stations j no_station
  pub long : length s.stations ≡ 8

-- the same with what the code keeps beside: a bound, full arrays and the marks
pub record Turn (n now : ℕ) (s₀ : System) (end until : ℕ) (s : Layout) (busy : List Bool) (e p c k : ℕ) : Type 0 where
  pub high : until ≤ end
  pub wide : Wide s
  pub silent : Silent n s.used busy (8 * n)
  pub chances : Chances n now s₀ until s e p c k

-- where the timer of a station ends now, it can
abbrev pub CanEnd : ℕ → Station → Type 0
CanEnd now x = timer_ends now x ≡ true → (1 ≤ x.leader) × (x.leader ≤ 8) × (entry x.timeouts x.leader ≤ longest last_tick) × (x.timeout ≤ longest last_tick)

-- the stations of s where the timer of the one at place p has ended, if it is due now
abbrev pub ended_in : ℕ → ℕ → Layout → Layout
ended_in now p s = stores.with_stations (set s.stations p (ended_at s.clock now p (get_or s.stations p no_station))) s
