-- The listing, and what the rehearsal program prints ("Frame and listing" of document 01, with Papers 2 and 6 of document 02), as bytes.
use Rattle.std.specs.Prelude as std
use Rattle.std.specs.Prelude.{List, [], ◌∷◌, ◌++◌, Bool, true, false, cond, not, ◌&&◌, ℕ, zero, suc, ◌+◌, length, get_or, drop, leb, ltb, eqb}
use Rattle.lists.specs.Entries.{over}
use Rattle.lists.specs.First.{first_failed}
use Rattle.lists.specs.Fold.{each}
use Rattle.lists.specs.Join.{join_to}
use Rattle.lists.specs.Test.{all_to}
use Rattle.text.specs.Numbers.{decimal, newline, named, vector}
use Rattle.fit.specs.Fit.{within}
use Rattle.station.specs.declared.Station.{Station}
use Rattle.election.specs.Commands.{Result, command, refusal_of, length_of}
use Rattle.election.specs.Schedule.{End, most_bytes, schedule}
use Rattle.election.specs.Sound.{sound}
use Rattle.election.specs.System.{no_station, station_of, fresh}
use Rattle.election.specs.declared.Refusal.{Refusal}
use Rattle.election.specs.declared.System.{System}
use Rattle.election.specs.declared.Verdict.{Verdict}
use Rattle.election.specs.declared.Verdict.TheVariants.{Dark, Agreed, AgreedDark, Split}

-- "tick ", " up", " down", " leader ", " inc ", " rec ", " stamp ", " sent ", " kept ", "-", "dark", "agreed ", "agreed dark ", "split", "end ", "refused ", " at "
abbrev pub tick_word : List ℕ
tick_word = 116 ∷ 105 ∷ 99 ∷ 107 ∷ 32 ∷ []

abbrev pub up_word : List ℕ
up_word = 32 ∷ 117 ∷ 112 ∷ []

abbrev pub down_word : List ℕ
down_word = 32 ∷ 100 ∷ 111 ∷ 119 ∷ 110 ∷ []

abbrev pub leader_word : List ℕ
leader_word = 32 ∷ 108 ∷ 101 ∷ 97 ∷ 100 ∷ 101 ∷ 114 ∷ 32 ∷ []

abbrev pub inc_word : List ℕ
inc_word = 32 ∷ 105 ∷ 110 ∷ 99 ∷ 32 ∷ []

abbrev pub rec_word : List ℕ
rec_word = 32 ∷ 114 ∷ 101 ∷ 99 ∷ 32 ∷ []

abbrev pub stamp_word : List ℕ
stamp_word = 32 ∷ 115 ∷ 116 ∷ 97 ∷ 109 ∷ 112 ∷ 32 ∷ []

abbrev pub sent_word : List ℕ
sent_word = 32 ∷ 115 ∷ 101 ∷ 110 ∷ 116 ∷ 32 ∷ []

abbrev pub kept_word : List ℕ
kept_word = 32 ∷ 107 ∷ 101 ∷ 112 ∷ 116 ∷ 32 ∷ []

abbrev pub none_word : List ℕ
none_word = 45 ∷ []

abbrev pub dark_word : List ℕ
dark_word = 100 ∷ 97 ∷ 114 ∷ 107 ∷ []

abbrev pub agreed_word : List ℕ
agreed_word = 97 ∷ 103 ∷ 114 ∷ 101 ∷ 101 ∷ 100 ∷ 32 ∷ []

abbrev pub agreed_dark_word : List ℕ
agreed_dark_word = agreed_word ++ dark_word ++ (32 ∷ [])

abbrev pub split_word : List ℕ
split_word = 115 ∷ 112 ∷ 108 ∷ 105 ∷ 116 ∷ []

abbrev pub end_word : List ℕ
end_word = 101 ∷ 110 ∷ 100 ∷ 32 ∷ []

abbrev pub refused_word : List ℕ
refused_word = 114 ∷ 101 ∷ 102 ∷ 117 ∷ 115 ∷ 101 ∷ 100 ∷ 32 ∷ []

abbrev pub at_word : List ℕ
at_word = 32 ∷ 97 ∷ 116 ∷ 32 ∷ []

-- the number of a station, and up or down
unfoldable pub status : ℕ → Bool → List ℕ
status p up = decimal p ++ cond up up_word down_word

-- its trusted leader, and its vector or its stamp; a down one shows - for them, and one that trusts nobody shows - for its leader
unfoldable pub leader_of : Bool → ℕ → List ℕ
leader_of up l = leader_word ++ cond (up && ltb 0 l) (decimal l) none_word

unfoldable pub vector_of : ℕ → Bool → List ℕ → List ℕ
vector_of n up v = rec_word ++ cond up (vector n v) none_word

unfoldable pub stamp_of : Bool → ℕ → List ℕ
stamp_of up z = stamp_word ++ cond up (decimal z) none_word

-- what it knows: kept count and vector, or the stamp of a clock head, which shows - for its count
unfoldable pub known_of : Bool → ℕ → Station → List ℕ
known_of clock n x =
    cond clock (inc_word ++ none_word ++ stamp_of x.up x.stamp) (named inc_word x.incarnation ++ vector_of n x.up x.recovered)

-- its kept leader; a clock head shows -
unfoldable pub kept_of : Bool → ℕ → List ℕ
kept_of clock l = kept_word ++ cond clock none_word (decimal l)

-- the line of a station: its number, up or down, trusted leader, what it knows, sent, kept leader
unfoldable pub station_line : Bool → ℕ → ℕ → Station → ℕ → List ℕ
station_line clock n p x sent =
    status p x.up ++ leader_of x.up x.leader ++ known_of clock n x ++ named sent_word sent ++ kept_of clock x.stable ++ newline

-- the lines of the first n stations
unfoldable pub station_lines : Bool → ℕ → List Station → List ℕ → List ℕ
station_lines clock n stations sent = join_to n (λ k. station_line clock n (k + 1) (get_or stations k no_station) (get_or sent k 0))

-- none of the first n stations is up
unfoldable pub dark : ℕ → List Station → Bool
dark n stations = all_to n (λ k. not (get_or stations k no_station).up)

-- if it is up, a station trusts l; so do all of the first n
abbrev pub trusts : ℕ → Station → Bool
trusts l x = cond x.up (eqb x.leader l) true

unfoldable pub all_trust : ℕ → List Station → ℕ → Bool
all_trust n stations l = all_to n (λ k. trusts l (get_or stations k no_station))

-- the leader of a station that is up, else l; and of the last one up among the first n, 0 if none is
abbrev pub leader_after : Station → ℕ → ℕ
leader_after x l = cond x.up x.leader l

unfoldable pub a_leader : ℕ → List Station → ℕ
a_leader n stations = each n (λ k l. leader_after (get_or stations k no_station) l) 0

-- station l is one of the first n, and up
unfoldable pub up_among : ℕ → List Station → ℕ → Bool
up_among n stations l = within 1 l n && (station_of stations l).up

-- dark if none is up; if all up stations trust the same L, agreed L if L is up and agreed dark L if not; else split, as it is where one has no leader
unfoldable pub verdict : ℕ → List Station → Verdict
verdict n stations =
    let l : ℕ = a_leader n stations in
    cond (dark n stations) Dark
    (cond (ltb 0 l && all_trust n stations l) (cond (up_among n stations l) (Agreed l) (AgreedDark l)) Split)

unfoldable pub verdict_line : Verdict → List ℕ
verdict_line Dark = dark_word ++ newline
verdict_line (Agreed l) = agreed_word ++ decimal l ++ newline
verdict_line (AgreedDark l) = agreed_dark_word ++ decimal l ++ newline
verdict_line Split = split_word ++ newline

-- the tick, a line for each station, and the verdict
unfoldable pub listing_of : Bool → ℕ → ℕ → List Station → List ℕ → List ℕ
listing_of clock n tick stations sent = tick_word ++ decimal tick ++ newline ++ station_lines clock n stations sent ++ verdict_line (verdict n stations)

abbrev pub listing : System → List ℕ
listing s = listing_of s.clock s.n s.tick s.stations s.sent

-- room that is enough for every listing of at most eight stations
abbrev pub longest_listing : ℕ
longest_listing = 2700

-- what Listing leaves: the refusal, the length written, and the buffer
pub record Listed : Type 0 where
  pub refusal : ℕ
  pub written : ℕ
  pub buffer : List ℕ

unfoldable pub listed : System → List ℕ → Listed
listed s buffer =
    let r : ℕ = first_failed ((sound s, 15) ∷ (s.ready, 3) ∷ (leb (length (listing s)) (length buffer), 16) ∷ []) in
    record {
      refusal = r;
      written = cond (eqb r 0) (length (listing s)) 0;
      buffer = cond (eqb r 0) (over (listing s) buffer) buffer;
    }

-- an answer, with the buffer as it is then
abbrev pub said : std.Result ℕ Refusal → List ℕ → Listed
said answer buffer = record { refusal = refusal_of answer; written = length_of answer; buffer = buffer }

-- the listing of an accepted report, and nothing for another command
unfoldable pub reported : System → List ℕ → List ℕ
reported s bytes = cond (eqb (get_or bytes 0 0) 7) (listing s) []

-- the last line: end and the schedule's length, or the refusal and its offset
unfoldable pub end_line : ℕ → ℕ → List ℕ
end_line refusal offset =
    cond (eqb refusal 0) (end_word ++ decimal offset) (refused_word ++ decimal refusal ++ at_word ++ decimal offset) ++ newline

abbrev pub last_line : End → List ℕ
last_line e = end_line e.refusal e.offset

-- the listings of the accepted reports of the bytes, in order
unfoldable pub reports : ℕ → System → List ℕ → List ℕ
reports zero s bytes = []
reports (suc fuel) s [] = []
reports (suc fuel) s (b ∷ bytes) =
    let r : Result = command s (b ∷ bytes) in
    elim (eqb r.refusal 0) [
      | true ↦ reported s (b ∷ bytes) ++ reports fuel r.system (drop r.length (b ∷ bytes))
      | false ↦ []
    ]

-- all that the rehearsal program prints for a schedule
unfoldable pub output : List ℕ → List ℕ
output bytes =
    let all : List ℕ = reports (length bytes) fresh bytes in
    cond (ltb most_bytes (length bytes)) [] all ++ last_line (schedule bytes)
