-- Soundness, clause by clause (the last paragraph of "What is turned down", and of document 02 Paper 3 for the ranks, Paper 6 for clock heads). All sums are over the natural numbers.
use Rattle.std.specs.Prelude.{Bool, true, cond, not, ◌&&◌, ◌||◌, ℕ, ◌+◌, ◌*◌, get_or, leb, ltb, eqb}
use Rattle.lists.specs.Test.{all_to}
use Rattle.fit.specs.Fit.{within, counts_in, ranks_in, cleared, longest_delay}
use Rattle.station.specs.Limits.{last_tick}
use Rattle.station.specs.declared.Station.{Station}
use Rattle.election.specs.Heads.{fits, content_in, ranked_of}
use Rattle.election.specs.System.{places, no_station, no_message, no_link, station, from, to, is_link}
use Rattle.election.specs.declared.Link.{Link}
use Rattle.election.specs.declared.Message.{Message}
use Rattle.election.specs.declared.System.{System}

-- a place beyond the stations is zero, kept leader and count too
unfoldable pub empty_station : Station → Bool
empty_station x = eqb x.incarnation 0 && eqb x.stable 0 && not x.up && cleared x

-- an unused place of a link is zero
unfoldable pub empty_message : Message → Bool
empty_message m = eqb m.sent 0 && eqb m.due 0 && (counts_in 0 m.counts && eqb m.stamp 0)

-- a message was sent at or before the tick, is due after it and at most the longest delay after sending, with counts or a stamp in range
unfoldable pub message_in : Bool → ℕ → ℕ → ℕ → Message → Bool
message_in clock n period tick m =
    leb m.sent tick && ltb tick m.due && leb m.due (m.sent + longest_delay) && content_in clock n period tick m

-- an up sender's next send chance is at least a period after the sending
unfoldable pub before_slot : ℕ → Station → Message → Bool
before_slot period sender m = cond sender.up (leb (m.sent + period) sender.slot) true

abbrev pub message_at : Link → ℕ → Message
message_at l k = get_or l.messages k no_message

-- a place of a link: a message if it is used, else zero
abbrev pub message_place : Bool → ℕ → ℕ → ℕ → Station → Bool → Message → Bool
message_place clock n period tick sender used m = cond used (message_in clock n period tick m && before_slot period sender m) (empty_message m)

-- the used places hold messages, and the others are zero
abbrev pub places_in : Bool → ℕ → ℕ → ℕ → Station → Link → Bool
places_in clock n period tick sender l = all_to places (λ k. message_place clock n period tick sender (ltb k l.used) (message_at l k))

-- two sendings are at least a period apart
abbrev pub apart : ℕ → Message → Message → Bool
apart period older younger = leb (older.sent + period) younger.sent

-- so are the messages at place k and at the next, if both are used
abbrev pub spaced : ℕ → Link → ℕ → Bool
spaced period l k = cond (ltb (k + 1) l.used) (apart period (message_at l k) (message_at l (k + 1))) true

-- the messages stand oldest first, with sendings at least a period apart
abbrev pub ordered : ℕ → Link → Bool
ordered period l = all_to places (spaced period l)

-- a link between two stations, of at most so many messages as it has places
unfoldable pub link_in : Bool → ℕ → ℕ → ℕ → Station → Link → Bool
link_in clock n period tick sender l = leb l.used places && places_in clock n period tick sender l && ordered period l

-- all places of a link are zero
abbrev pub empty_places : Link → Bool
empty_places l = all_to places (λ k. empty_message (message_at l k))

-- a place of no link is zero, and so is a place of no station
unfoldable pub empty_place : ℕ → Link → Bool
empty_place delay l = eqb delay 0 && eqb l.used 0 && empty_places l

unfoldable pub empty_seat : Station → ℕ → Bool
empty_seat x sent = empty_station x && eqb sent 0

-- the place of the link from p to q: its delay and messages, or zero if that is no link between two stations
abbrev pub link_place : Bool → ℕ → ℕ → ℕ → ℕ → ℕ → ℕ → Station → Link → Bool
link_place clock n period tick p q delay sender l =
    cond (is_link n p q) (leb delay longest_delay && link_in clock n period tick sender l) (empty_place delay l)

-- place k of the stations: a station and its sent count, or zero beyond the stations
abbrev pub station_place : Bool → ℕ → ℕ → ℕ → ℕ → Station → ℕ → Bool
station_place clock n period tick k x sent =
    cond (ltb k n) (fits clock (k + 1) n period tick x && leb sent (7 * tick)) (empty_seat x sent)

-- the places of a system's links and stations
unfoldable pub place_in : System → ℕ → Bool
place_in s k = link_place s.clock s.n s.period s.tick (from k) (to k) (get_or s.delays k 0) (station s (from k)) (get_or s.links k no_link)

unfoldable pub station_in : System → ℕ → Bool
station_in s k = station_place s.clock s.n s.period s.tick k (get_or s.stations k no_station) (get_or s.sent k 0)

-- a system that is not set up is sound; otherwise every clause holds
unfoldable pub sound : System → Bool
sound s =
    not s.ready
    || (within 2 s.n 8 && within 16 s.period 255 && leb s.tick last_tick && all_to 8 (station_in s) && all_to 64 (place_in s)
    && ranks_in (ranked_of s.clock s.n) s.ranks)
