-- What a tick is required to be given, and its parts as the code goes.
use Rattle.std.specs.Prelude.{◌≡◌, List, [], ◌∷◌, Bool, true, cond, not, ◌&&◌, ℕ, ◌+◌, ◌*◌, ◌<◌, length, get_or, eqb}
use Rattle.station.specs.Limits.{last_tick}
use Rattle.station.specs.declared.Station.{Station}
use Rattle.election.specs.Heads.{Hearing, announces_of}
use Rattle.election.specs.Sound.{sound}
use Rattle.election.specs.System.{places, no_message}
use Rattle.election.specs.Tick.{announced, heard_link}
use Rattle.election.specs.declared.Message.{Message}
use Rattle.election.specs.declared.System.{System}
use Rattle.layout.specs.declared.Layout.{Layout}

-- a sound system that is set up, before its last tick
pub record Ticking (s : System) : Type 0 where
  pub is-sound : sound s ≡ true
  pub is-ready : s.ready ≡ true
  pub room : s.tick < last_tick

-- the arrays of a layout hold as many as their types say
pub record Full (s : Layout) : Type 0 where
  pub stations : length s.stations ≡ 8
  pub sent : length s.sent ≡ 8
  pub used : length s.used ≡ 64
  pub messages : length s.messages ≡ 64 * places
  pub counts : (j : ℕ) → j < 64 * places → length (get_or s.messages j no_message).counts ≡ 8

-- a station that is up hears the messages of a link that are due now
unfoldable pub hears : Hearing → ℕ → ℕ → ℕ → List Message → Station → Station
hears hear me q now ms x = cond x.up (heard_link hear me q now ms x) x

-- the timer of a station that is up is due now
abbrev pub timer_ends : ℕ → Station → Bool
timer_ends now x = x.up && eqb x.timer now

-- a message of x, due a delay from now; none if nothing is sent, or the link is cut
abbrev pub sent_over : ℕ → Bool → ℕ → Station → List Message
sent_over now sends delay x =
    cond (sends && not (eqb delay 0)) (announced now (now + delay) x ∷ []) []

-- a station that has settled sends LEADER
abbrev pub sends_now : Bool → ℕ → ℕ → Station → Bool
sends_now clock me now x = x.up && eqb x.slot now && announces_of clock me x
