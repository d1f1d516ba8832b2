-- One tick ("One tick of the desk" of document 01). Deliveries to one station never touch another, so a tick is defined station by
-- station and link by link from the system before it; specs/Order.antt says in what sense this is the paper's order.
use Rattle.std.specs.Prelude.{List, [], ◌∷◌, ◌++◌, Bool, cond, not, ◌&&◌, ℕ, zero, suc, ◌+◌, ◌-◌, get_or, ltb, eqb}
use Rattle.lists.specs.Entries.{up_to}
use Rattle.lists.specs.Fold.{each}
use Rattle.clock.specs.Rules.{carried}
use Rattle.station.specs.declared.Station.{Station}
use Rattle.election.specs.Heads.{Hearing, hearing, expiring, slotting, announces}
use Rattle.election.specs.System.{no_station, no_link, station, from, to, delay, underway, is_link, holding, renewed}
use Rattle.election.specs.declared.Link.{Link}
use Rattle.election.specs.declared.Message.{Message}
use Rattle.election.specs.declared.System.{System}

-- the tick that is running
abbrev pub next : System → ℕ
next s = s.tick + 1

-- (a) the messages of one sender that are due now, oldest first
unfoldable pub heard_link : Hearing → ℕ → ℕ → ℕ → List Message → Station → Station
heard_link hear me q now [] x = x
heard_link hear me q now (m ∷ ms) x = heard_link hear me q now ms (cond (eqb m.due now) (hear me q m now x) x)

-- (a) from every sender, ascending
unfoldable pub heard_all : Hearing → ℕ → ℕ → ℕ → (ℕ → List Message) → Station → Station
heard_all hear n me now inbox x = each n (λ k. heard_link hear me (k + 1) now (inbox (k + 1))) x

-- (b) a timer due now ends
unfoldable pub expired_now : (Station → Station) → ℕ → Station → Station
expired_now expire now x = cond (eqb x.timer now) (expire x) x

-- (c) a send chance due now
unfoldable pub slotted_now : (Station → Station) → ℕ → Station → Station
slotted_now slot now x = cond (eqb x.slot now) (slot x) x

-- station p, as it is, after (a)
abbrev pub heard_by : System → ℕ → Station → Station
heard_by s p x = heard_all (hearing s) s.n p (next s) (λ q. underway s q p) x

-- station p after (a) and (b); a message to a station that is down vanishes
unfoldable pub settled : System → ℕ → Station
settled s p = cond (station s p).up (expired_now (expiring s p) (next s) (heard_by s p (station s p))) (station s p)

-- station p sends LEADER in (c)
unfoldable pub sending : System → ℕ → Bool
sending s p = (settled s p).up && eqb (settled s p).slot (next s) && announces s p (settled s p)

-- station p after (c)
abbrev pub station_next : System → ℕ → Station
station_next s p = slotted_now (slotting s p (next s)) (next s) (settled s p)

-- the messages that are not due now
unfoldable pub later : ℕ → List Message → List Message
later now [] = []
later now (m ∷ ms) = cond (eqb m.due now) (later now ms) (m ∷ later now ms)

-- the LEADER of a station, as it is, sent and due at these ticks: a flash head's stamp is zero, and so are a clock head's counts
abbrev pub announced : ℕ → ℕ → Station → Message
announced sent due x = record { sent = sent; due = due; counts = x.recovered; stamp = carried x }

-- the delay is read at sending; at delay 0 the message vanishes
unfoldable pub sent : System → ℕ → ℕ → List Message
sent s p q =
    cond (sending s p && not (eqb (delay s p q) 0)) (announced (next s) (next s + delay s p q) (settled s p) ∷ []) []

-- the messages from p to q after the tick
abbrev pub underway_after : System → ℕ → ℕ → List Message
underway_after s p q = later (next s) (underway s p q) ++ sent s p q

-- what stands after the tick at place k of the stations, of the sent counts and of the links
abbrev pub seat_next : System → ℕ → Station
seat_next s k = cond (ltb k s.n) (station_next s (k + 1)) (get_or s.stations k no_station)

abbrev pub sent_next : System → ℕ → ℕ
sent_next s k = cond (ltb k s.n && sending s (k + 1)) (get_or s.sent k 0 + (s.n - 1)) (get_or s.sent k 0)

abbrev pub link_next : System → ℕ → Link
link_next s k = cond (is_link s.n (from k) (to k)) (holding (underway_after s (from k) (to k))) (get_or s.links k no_link)

unfoldable pub tick : System → System
tick s = renewed (next s) (up_to 8 (seat_next s)) (up_to 8 (sent_next s)) s.delays (up_to 64 (link_next s)) s.ranks s

-- a run of t ticks
unfoldable pub ticks : ℕ → System → System
ticks zero s = s
ticks (suc t) s = ticks t (tick s)
