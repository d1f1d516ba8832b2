-- Rows of computed tables: a schedule's bytes, what is looked at, and what must be seen.
use Rattle.std.specs.Prelude.{◌≡◌, List, [], ◌∷◌, ◌++◌, ℕ, ◌+◌, length, take}
use Rattle.lists.specs.Entries.{up_to}
use Rattle.election.specs.Listing.{output}
use Rattle.election.specs.Schedule.{End, schedule}
use Rattle.election.specs.System.{station, delay, sent_by, underway}
use Rattle.station.specs.declared.Station.{Station}
use Rattle.election.specs.declared.System.{System}

-- what is looked at: all that is printed; or something in the last system, with the refusal before it
pub data View : Type 0 where
  Printed : View
  InLast : (System → List ℕ) → View

abbrev pub viewed : View → List ℕ → List ℕ
viewed Printed bytes = output bytes
viewed (InLast f) bytes = let e : End = schedule bytes in e.refusal ∷ f e.system

pub record Row : Type 0 where
  pub bytes : List ℕ
  pub view : View
  pub seen : List ℕ

-- every row of a table is seen as it stands there
abbrev pub Hold : List Row → Type 0
Hold [] = Unit {0}
Hold (r ∷ rows) = (viewed r.view r.bytes ≡ r.seen) × Hold rows

-- whom the stations trust, from 1 to n
abbrev pub leaders : System → List ℕ
leaders s = up_to s.n (λ k. (station s (k + 1)).leader)

-- whom a station trusts; with its timeouts, with its start count, with the leader that it keeps, with the counts that it knows
abbrev pub trusted : ℕ → System → List ℕ
trusted p s = (station s p).leader ∷ []

abbrev pub timeouts : ℕ → System → List ℕ
timeouts p s = (station s p).leader ∷ take s.n (station s p).timeouts

abbrev pub count : ℕ → System → List ℕ
count p s = (station s p).leader ∷ (station s p).incarnation ∷ []

abbrev pub kept : ℕ → System → List ℕ
kept p s = (station s p).leader ∷ (station s p).stable ∷ []

abbrev pub known : ℕ → System → List ℕ
known p s = (station s p).leader ∷ take s.n (station s p).recovered

-- of a clock head: whom it trusts, its timer, its stamp, the lowest that it knows, its timeout
abbrev pub clocked : ℕ → System → List ℕ
clocked p s = let x : Station = station s p in x.leader ∷ x.timer ∷ x.stamp ∷ x.lowest ∷ x.timeout ∷ []

-- the ranks
abbrev pub ranks : System → List ℕ
ranks s = s.ranks

-- how many messages a station has sent; the delay of a link; how many messages are under way on it and on the way back
abbrev pub sent_count : ℕ → System → List ℕ
sent_count p s = sent_by s p ∷ []

abbrev pub delay_of : ℕ → ℕ → System → List ℕ
delay_of p q s = delay s p q ∷ []

abbrev pub on_the_way : ℕ → ℕ → System → List ℕ
on_the_way p q s = length (underway s p q) ∷ length (underway s q p) ∷ []

-- the bytes of each command; a run of at most 255 ticks
abbrev pub set_up : ℕ → ℕ → List ℕ
set_up n period = 0x01 ∷ n ∷ period ∷ []

abbrev pub set_up_clocks : ℕ → ℕ → List ℕ
set_up_clocks n period = 0x09 ∷ n ∷ period ∷ []

abbrev pub start : ℕ → List ℕ
start p = 0x02 ∷ p ∷ []

abbrev pub crash : ℕ → List ℕ
crash p = 0x03 ∷ p ∷ []

abbrev pub link : ℕ → ℕ → ℕ → List ℕ
link p q d = 0x04 ∷ p ∷ q ∷ d ∷ []

abbrev pub run : ℕ → List ℕ
run t = 0x05 ∷ t ∷ 0x00 ∷ []

abbrev pub lose : ℕ → ℕ → List ℕ
lose p q = 0x06 ∷ p ∷ q ∷ []

abbrev pub report : List ℕ
report = 0x07 ∷ []

abbrev pub rank : ℕ → ℕ → List ℕ
rank p r = 0x08 ∷ p ∷ r ∷ []

-- η 16, two stations, both started; the same run to tick 20
abbrev pub started : List ℕ
started = set_up 2 16 ++ start 1 ++ start 2

abbrev pub at20 : List ℕ
at20 = started ++ run 20

-- the same start with every delay 255
abbrev pub started_slow : List ℕ
started_slow = set_up 2 16 ++ link 1 2 255 ++ link 2 1 255 ++ start 1 ++ start 2
