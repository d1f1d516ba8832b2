-- What a sound system hands to a station operation, by its next command or in its next tick.
use Rattle.std.specs.Prelude.{◌≡◌, ◌≢◌, List, ◌∷◌, ◌++◌, Bool, true, false, ℕ, ◌+◌, ◌-◌, ◌<◌, ◌≤◌, length, get_or}
use Rattle.lists.specs.Fold.{each}
use Rattle.fit.specs.Fit.{fit_start, fit_crash, fit_hear, fit_expire, fit_slot}
use Rattle.station.specs.Limits.{last_tick}
use Rattle.station.specs.declared.Station.{Station}
use Rattle.election.specs.Heads.{hearing}
use Rattle.election.specs.Sound.{sound}
use Rattle.election.specs.System.{no_link, station, underway, places}
use Rattle.election.specs.Tick.{heard_link, heard_all, settled}
use Rattle.election.specs.declared.Message.{Message}
use Rattle.election.specs.declared.System.{System}

-- a sound system of the kind of head, set up, with station me among its stations
pub record Holds (clock : Bool) (me n period tick : ℕ) (s : System) : Type 0 where
  pub is-sound : sound s ≡ true
  pub is-ready : s.ready ≡ true
  pub same_kind : s.clock ≡ clock
  pub same-n : s.n ≡ n
  pub same-period : s.period ≡ period
  pub same-tick : s.tick ≡ tick
  pub low : 1 ≤ me
  pub high : me ≤ n

-- a command on station me finds x there
pub record Finds (clock : Bool) (me n period tick : ℕ) (x : Station) : Type 0 where
  pub system : System
  pub holds : Holds clock me n period tick system
  pub is-station : station system me ≡ x

-- the tick now comes, and station me is up
pub record Runs (clock : Bool) (me n period now : ℕ) (s : System) : Type 0 where
  pub low : 1 ≤ now
  pub high : now ≤ last_tick
  pub holds : Holds clock me n period (now - 1) s
  pub is_up : (station s me).up ≡ true

-- in (a) of the tick now, by the ranks, station me is x when a message of q with the counts v and the stamp z comes up
pub record Hears (clock : Bool) (ranks : List ℕ) (me n period now q : ℕ) (v : List ℕ) (z : ℕ) (x : Station) : Type 0 where
  pub system : System
  pub runs : Runs clock me n period now system
  pub same-ranks : system.ranks ≡ ranks
  pub sender-low : 1 ≤ q
  pub sender-high : q ≤ n
  pub other : q ≢ me
  pub older : List Message
  pub message : Message
  pub younger : List Message
  pub is-mail : underway system q me ≡ older ++ (message ∷ younger)
  pub is-due : message.due ≡ now
  pub is-counts : message.counts ≡ v
  pub is-stamp : message.stamp ≡ z
  pub is-station : heard_link (hearing system) me q now older (each (q - 1) (λ k. heard_link (hearing system) me (k + 1) now (underway system (k + 1) me)) (station system me)) ≡ x

-- in (b) station me is x, and its timer is due
pub record Expires (clock : Bool) (me n period now : ℕ) (x : Station) : Type 0 where
  pub system : System
  pub runs : Runs clock me n period now system
  pub is-station : heard_all (hearing system) n me now (λ q. underway system q me) (station system me) ≡ x
  pub is-due : x.timer ≡ now

-- in (c), by the ranks, station me is x, and its send chance is due
pub record Slots (clock : Bool) (ranks : List ℕ) (me n period now : ℕ) (x : Station) : Type 0 where
  pub system : System
  pub runs : Runs clock me n period now system
  pub same-ranks : system.ranks ≡ ranks
  pub is-station : settled system me ≡ x
  pub is-due : x.slot ≡ now

-- the vectors of a station have eight entries
pub record Eight (x : Station) : Type 0 where
  pub counts : length x.recovered ≡ 8
  pub timeouts : length x.timeouts ≡ 8

-- the tables of a system are full, as the code's are, and so is each link
pub record Full (s : System) : Type 0 where
  pub stations : length s.stations ≡ 8
  pub sent : length s.sent ≡ 8
  pub delays : length s.delays ≡ 64
  pub links : length s.links ≡ 64
  pub ranks : length s.ranks ≡ 8
  pub each-link : (k : ℕ) → k < 64 → length (get_or s.links k no_link).messages ≡ places

-- handed over by a system of full tables
abbrev pub ByFull : (H : Type 0) → (H → System) → Type 0
ByFull H of = (h : H) × Full (of h)

-- exactly: what fits is handed over by a sound system of full tables, and whatever a sound system hands over fits
abbrev pub Exactly : Type 0 → (H : Type 0) → (H → System) → Type 0
Exactly fits H of = (fits → ByFull H of) × (H → fits)

-- an operation of a flash head takes exactly what some sound system hands to it; its messages have no stamp
abbrev pub StartExact : Type 0
StartExact =
    (me n period tick : ℕ) (x : Station) → Exactly (fit_start me n period tick x ≡ true) (Finds false me n period tick x) (λ h. h.system)

abbrev pub CrashExact : Type 0
CrashExact =
    (me n period tick : ℕ) (x : Station) → Exactly (fit_crash me n period tick x ≡ true) (Finds false me n period tick x × (x.up ≡ true)) (λ h. h.0.system)

abbrev pub HearExact : Type 0
HearExact =
    (ranks : List ℕ) (me n period now q : ℕ) (v : List ℕ) (x : Station) → length ranks ≡ 8 → Eight x
    → Exactly (fit_hear ranks me n period now q v x ≡ true) (Hears false ranks me n period now q v 0 x) (λ h. h.system)

abbrev pub ExpireExact : Type 0
ExpireExact =
    (me n period now : ℕ) (x : Station) → Exactly (fit_expire me n period now x ≡ true) (Expires false me n period now x) (λ h. h.system)

abbrev pub SlotExact : Type 0
SlotExact =
    (ranks : List ℕ) (me n period now : ℕ) (x : Station) → length ranks ≡ 8 → Eight x
    → Exactly (fit_slot ranks me n period now x ≡ true) (Slots false ranks me n period now x) (λ h. h.system)
