-- Ticks in which nothing is due: they only raise the counter.
use Rattle.std.specs.Prelude.{◌≡◌, Bool, true, not, ◌&&◌, ℕ, ◌+◌, ◌<◌, ◌≤◌, length, get_or, eqb}
use Rattle.lists.specs.Test.{all_to}
use Rattle.station.specs.declared.Station.{Station}
use Rattle.election.specs.Sound.{message_at}
use Rattle.election.specs.System.{no_link, station, place, from, to, messages, holding, is_link, at_tick}
use Rattle.election.specs.Tick.{next, tick, ticks}
use Rattle.election.specs.declared.Link.{Link}
use Rattle.election.specs.declared.System.{System}

-- no timer of an up station and no send chance is due now
unfoldable pub quiet_station : ℕ → Station → Bool
quiet_station now x = not (x.up && eqb x.timer now) && not (eqb x.slot now)

-- no message of the link is due now
unfoldable pub quiet_link : ℕ → Link → Bool
quiet_link now l = all_to l.used (λ i. not (eqb (message_at l i).due now))

-- nothing of the system is due at a tick, at any station and on any link
unfoldable pub quiet_at : ℕ → System → Bool
quiet_at now s =
    all_to s.n (λ k. quiet_station now (station s (k + 1)))
    && all_to s.n (λ j. all_to s.n (λ k. quiet_link now (get_or s.links (place (j + 1) (k + 1)) no_link)))

-- nothing is due in the next tick
abbrev pub idle : System → Bool
idle s = quiet_at (next s) s

-- the tables are full, and each link of the system holds its messages with unused places after them
pub record Held (s : System) : Type 0 where
  pub stations : length s.stations ≡ 8
  pub sent : length s.sent ≡ 8
  pub links : length s.links ≡ 64
  pub held : (k : ℕ) → k < 64 → is_link s.n (from k) (to k) ≡ true → holding (messages (get_or s.links k no_link)) ≡ get_or s.links k no_link

-- an idle tick of such a system only raises the counter
abbrev pub IdleHeld : Type 0
IdleHeld = (s : System) → Held s → idle s ≡ true → tick s ≡ at_tick (next s) s

-- and so do several ticks in which nothing is due
abbrev pub IdleTicks : Type 0
IdleTicks = (k : ℕ) (s : System) → Held s → ((now : ℕ) → s.tick < now → now ≤ s.tick + k → quiet_at now s ≡ true) → ticks k s ≡ at_tick (s.tick + k) s

-- up to a tick, ticks only raise the counter
abbrev pub Still : ℕ → System → Type 0
Still until s = (k : ℕ) → s.tick + k ≤ until → ticks k s ≡ at_tick (s.tick + k) s

-- a tick leaves a system whose tables are full and whose links hold their messages so
abbrev pub TickHeld : Type 0
TickHeld = (s : System) → Held (tick s)
