-- The system ("One tick of the desk" of document 01): what stands where, the fresh one, and what set up leaves.
use Rattle.std.specs.Prelude.{List, [], Bool, true, false, cond, not, ◌&&◌, ℕ, ◌+◌, ◌-◌, ◌*◌, ◌/◌, ◌%◌, length, get_or, take, set, replicate, ltb, eqb}
use Rattle.lists.specs.Entries.{up_to, over}
use Rattle.station.specs.Rules.{down_with}
use Rattle.station.specs.declared.Station.{Station}
use Rattle.election.specs.declared.Link.{Link}
use Rattle.election.specs.declared.Message.{Message}
use Rattle.election.specs.declared.System.{System}

-- the places of a link: the most messages on it
abbrev pub places : ℕ
places = 16

-- what lies past the end of an array
abbrev pub no_station : Station
no_station =
    record {
      incarnation = 0;
      stable = 0;
      up = false;
      leader = 0;
      timer = 0;
      slot = 0;
      recovering = false;
      recovered = [];
      timeouts = [];
      stamp = 0;
      lowest = 0;
      timeout = 0;
    }

abbrev pub no_message : Message
no_message = record { sent = 0; due = 0; counts = []; stamp = 0 }

abbrev pub no_link : Link
no_link = record { used = 0; messages = [] }

-- station p of a list of stations
abbrev pub station_of : List Station → ℕ → Station
station_of stations p = get_or stations (p - 1) no_station

-- station p, the delay from p to q, and how many messages p has sent
abbrev pub station : System → ℕ → Station
station s p = station_of s.stations p

-- where the link from p to q stands, and which link stands at a place
abbrev pub place : ℕ → ℕ → ℕ
place p q = 8 * (p - 1) + (q - 1)

abbrev pub from : ℕ → ℕ
from k = k / 8 + 1

abbrev pub to : ℕ → ℕ
to k = k % 8 + 1

abbrev pub delay : System → ℕ → ℕ → ℕ
delay s p q = get_or s.delays (place p q) 0

abbrev pub sent_by : System → ℕ → ℕ
sent_by s p = get_or s.sent (p - 1) 0

-- the messages of a link, oldest sending first; and a link that holds them, with unused places after them
unfoldable pub messages : Link → List Message
messages l = take l.used l.messages

abbrev pub unused : Message
unused = record { sent = 0; due = 0; counts = replicate 8 0; stamp = 0 }

unfoldable pub holding : List Message → Link
holding ms = record { used = length ms; messages = over ms (replicate places unused) }

-- the messages under way from p to q
abbrev pub underway : System → ℕ → ℕ → List Message
underway s p q = messages (get_or s.links (place p q) no_link)

-- a link of the system: between two of its stations, and not from one to itself
abbrev pub is_link : ℕ → ℕ → ℕ → Bool
is_link n p q = ltb (p - 1) n && ltb (q - 1) n && not (eqb p q)

-- a station that keeps a leader, down and never started
abbrev pub unstarted : ℕ → Station
unstarted leader = down_with 0 leader

-- The fresh system is not set up and all its numbers are zero.
unfoldable pub fresh : System
fresh =
    record {
      ready = false;
      n = 0;
      period = 0;
      tick = 0;
      stations = replicate 8 (unstarted 0);
      sent = replicate 8 0;
      delays = replicate 64 0;
      links = replicate 64 (holding []);
      ranks = replicate 8 0;
      clock = false;
    }

-- Set up leaves the tick at 0, every station down and never started, no message under way, sent counts and ranks at 0, every delay at 1;
-- and heads of the kind that was asked for.
unfoldable pub initial : Bool → ℕ → ℕ → System
initial clock n period =
    record {
      ready = true;
      n = n;
      period = period;
      tick = 0;
      stations = up_to 8 (λ k. unstarted (cond (ltb k n) (k + 1) 0));
      sent = replicate 8 0;
      delays = up_to 64 (λ k. cond (is_link n (from k) (to k)) 1 0);
      links = replicate 64 (holding []);
      ranks = replicate 8 0;
      clock = clock;
    }

-- the system with another tick, and other stations, sent counts, delays, links and ranks; all else stays
abbrev pub renewed : ℕ → List Station → List ℕ → List ℕ → List Link → List ℕ → System → System
renewed tick stations sent delays links ranks s =
    record {
      ready = s.ready;
      n = s.n;
      period = s.period;
      tick = tick;
      stations = stations;
      sent = sent;
      delays = delays;
      links = links;
      ranks = ranks;
      clock = s.clock;
    }

-- .. with one of these alone
unfoldable pub at_tick : ℕ → System → System
at_tick t s = renewed t s.stations s.sent s.delays s.links s.ranks s

abbrev pub with_stations : List Station → System → System
with_stations xs s = renewed s.tick xs s.sent s.delays s.links s.ranks s

abbrev pub with_sent : List ℕ → System → System
with_sent counts s = renewed s.tick s.stations counts s.delays s.links s.ranks s

abbrev pub with_delays : List ℕ → System → System
with_delays ds s = renewed s.tick s.stations s.sent ds s.links s.ranks s

abbrev pub with_links : List Link → System → System
with_links ls s = renewed s.tick s.stations s.sent s.delays ls s.ranks s

abbrev pub with_ranks : List ℕ → System → System
with_ranks rs s = renewed s.tick s.stations s.sent s.delays s.links rs s

-- .. with another station p, delay from p to q, link from p to q, or rank of station p
abbrev pub with_station : ℕ → Station → System → System
with_station p x s = with_stations (set s.stations (p - 1) x) s

abbrev pub with_delay : ℕ → ℕ → ℕ → System → System
with_delay p q d s = with_delays (set s.delays (place p q) d) s

abbrev pub with_link : ℕ → ℕ → Link → System → System
with_link p q l s = with_links (set s.links (place p q) l) s

abbrev pub with_rank : ℕ → ℕ → System → System
with_rank p r s = with_ranks (set s.ranks (p - 1) r) s

-- .. without the messages under way from p to q
abbrev pub without_messages : ℕ → ℕ → System → System
without_messages p q s = with_link p q (holding []) s
