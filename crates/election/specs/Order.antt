-- The order of a tick, as "One tick of the desk" of document 01 tells it: the counter rises by one, and then one thing after another is done
-- to the desk. Tick goes station by station and link by link instead; proofs/Order.antt and proofs/OrderLinks.antt show that both leave the same.
use Rattle.std.specs.Prelude.{◌≡◌, List, [], ◌∷◌, ◌++◌, map, Bool, true, cond, not, ◌&&◌, ℕ, zero, suc, ◌+◌, ◌-◌, ◌≤◌, length, get_or, set, eqb}
use Rattle.lists.specs.Entries.{up_to}
use Rattle.lists.specs.Fold.{each}
use Rattle.station.specs.declared.Station.{Station}
use Rattle.election.specs.Heads.{hearing, expiring, slotting, announces}
use Rattle.election.specs.Sound.{sound}
use Rattle.election.specs.System.{no_link, station_of, place, from, to, delay, messages, holding, underway, is_link}
use Rattle.election.specs.Tick.{next, announced, tick}
use Rattle.election.specs.declared.Link.{Link}
use Rattle.election.specs.declared.Message.{Message}
use Rattle.election.specs.declared.System.{System}

-- the messages under way at each place of the links, oldest first
abbrev pub Mail : Type 0
Mail = List (List Message)

-- the desk: the stations, how many messages each has sent, and the messages under way
pub record Desk : Type 0 where
  pub stations : List Station
  pub sent : List ℕ
  pub mail : Mail

abbrev pub desk_of : System → Desk
desk_of s = record { stations = s.stations; sent = s.sent; mail = map messages s.links }

-- the messages under way from p to q
abbrev pub mail_of : Mail → ℕ → ℕ → List Message
mail_of mail p q = get_or mail (place p q) []

-- the entries of f 1, then those of f 2, .., then those of f n
unfoldable pub ascending : {A : Type 0} → ℕ → (ℕ → List A) → List A
ascending zero f = []
ascending (suc n) f = ascending n f ++ f (n + 1)

-- the messages that are due now, in their order
unfoldable pub due_now : ℕ → List Message → List Message
due_now now [] = []
due_now now (m ∷ ms) = cond (eqb m.due now) (m ∷ due_now now ms) (due_now now ms)

-- the messages without the first that is due now
unfoldable pub one_less : ℕ → List Message → List Message
one_less now [] = []
one_less now (m ∷ ms) = cond (eqb m.due now) ms (m ∷ one_less now ms)

-- a message that is delivered
pub record Delivery : Type 0 where
  pub receiver : ℕ
  pub sender : ℕ
  pub message : Message

abbrev pub delivery : ℕ → ℕ → Message → Delivery
delivery p q m = record { receiver = p; sender = q; message = m }

-- (a) messages due are delivered, by receiver, then sender, then oldest sending, all ascending
unfoldable pub deliveries : System → List Delivery
deliveries s = ascending s.n (λ p. ascending s.n (λ q. map (delivery p q) (due_now (next s) (underway s q p))))

-- (a) one delivery: the receiver hears it; one to a station that is down vanishes; either way it is no longer under way
unfoldable pub delivered : System → Delivery → Desk → Desk
delivered s e d =
    let p : ℕ = e.receiver in
    let q : ℕ = e.sender in
    let x : Station = station_of d.stations p in
    record {
      stations = cond x.up (set d.stations (p - 1) (hearing s p q e.message (next s) x)) d.stations;
      sent = d.sent;
      mail = set d.mail (place q p) (one_less (next s) (mail_of d.mail q p));
    }

unfoldable pub delivered_all : System → List Delivery → Desk → Desk
delivered_all s [] d = d
delivered_all s (e ∷ es) d = delivered_all s es (delivered s e d)

-- (b) the timer of station p ends if the station is up and it is due now
unfoldable pub timer_ends : System → ℕ → Desk → Desk
timer_ends s p d =
    let x : Station = station_of d.stations p in
    record {
      stations = cond (x.up && eqb x.timer (next s)) (set d.stations (p - 1) (expiring s p x)) d.stations;
      sent = d.sent;
      mail = d.mail;
    }

-- (c) x, station p as it is, sends LEADER with its vector or its stamp to q, behind what is under way: the delay is read at sending, and the message is
-- due that many ticks later; at delay 0 it vanishes
unfoldable pub sent_to : System → ℕ → Station → ℕ → Mail → Mail
sent_to s p x q mail =
    let m : Message = announced (next s) (next s + delay s p q) x in
    set mail (place p q) (mail_of mail p q ++ cond (eqb (delay s p q) 0) [] (m ∷ []))

-- (c) to all others, ascending
unfoldable pub sent_to_all : System → ℕ → Station → Mail → Mail
sent_to_all s p x mail = each s.n (λ k ms. cond (not (eqb p (k + 1))) (sent_to s p x (k + 1) ms) ms) mail

-- (c) station p, as it is, sends if it is up, its send chance is due now and LEADER is sent at it: it trusts itself, or does so from this chance on
abbrev pub sends_now : System → ℕ → Station → Bool
sends_now s p x = x.up && eqb x.slot (next s) && announces s p x

-- (c) the send chance of station p if it is due now; a sending counts n - 1, one for each of the others.
-- In a sound system a station that is down has none: its slot is 0, and now is at least 1.
unfoldable pub chance : System → ℕ → Desk → Desk
chance s p d =
    let x : Station = station_of d.stations p in
    record {
      stations = cond (eqb x.slot (next s)) (set d.stations (p - 1) (slotting s p (next s) x)) d.stations;
      sent = cond (sends_now s p x) (set d.sent (p - 1) (get_or d.sent (p - 1) 0 + (s.n - 1))) d.sent;
      mail = cond (sends_now s p x) (sent_to_all s p x d.mail) d.mail;
    }

-- after (a), after (b), and after (c)
unfoldable pub after_deliveries : System → Desk
after_deliveries s = delivered_all s (deliveries s) (desk_of s)

unfoldable pub after_timers : System → Desk
after_timers s = each s.n (λ k. timer_ends s (k + 1)) (after_deliveries s)

unfoldable pub after_chances : System → Desk
after_chances s = each s.n (λ k. chance s (k + 1)) (after_timers s)

-- the links that hold the mail; a place of no link is as it was
unfoldable pub laid : System → Mail → List Link
laid s mail = up_to 64 (λ k. cond (is_link s.n (from k) (to k)) (holding (get_or mail k [])) (get_or s.links k no_link))

-- the paper's order leaves the stations that a tick has, in every system of full tables, sound or not
abbrev pub PaperOrder : Type 0
PaperOrder = (s : System) → s.n ≤ 8 → length s.stations ≡ 8 → (after_chances s).stations ≡ (tick s).stations

-- and the sent counts
abbrev pub PaperSent : Type 0
PaperSent = (s : System) → s.n ≤ 8 → length s.stations ≡ 8 → length s.sent ≡ 8 → (after_chances s).sent ≡ (tick s).sent

-- and the links
abbrev pub PaperLinks : Type 0
PaperLinks = (s : System) → s.n ≤ 8 → length s.stations ≡ 8 → length s.links ≡ 64 → laid s (after_chances s).mail ≡ (tick s).links

-- in a sound system the mail is what the links of a tick hold, at every place
abbrev pub PaperMail : Type 0
PaperMail =
    (s : System) → sound s ≡ true → s.ready ≡ true → length s.stations ≡ 8 → length s.links ≡ 64
    → (after_chances s).mail ≡ map messages (tick s).links
