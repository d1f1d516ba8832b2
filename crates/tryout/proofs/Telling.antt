-- What a try-out tells, from what the operations answered.
use mathlib.Core.Path.{◌≡◌, refl, sym, ap, ◌∙◌}
use Rattle.std.specs.Prelude as std
use mathlib.Core.List.{List, [], ◌++◌}
use mathlib.Core.Bool.{Bool, true, false, cond}
use Prim.Native.Nat.{ℕ, ◌+◌, ◌<◌, ◌≤◌}
use native.Mathlib.Decide.{dec_le}
use native.Mathlib.Omega.{arith}
use lib.Dec.{eqb}
use lib.ListN.{length, take, length-take}
use lib.Seq.{take_all, length-take-le}
use borrow.Author.Tests.{eq-eqb, ne_eqb, lt-ltb}
use Rattle.text.specs.Quoted.{text}
use Rattle.election.specs.Commands.{decode, operands, ruling, command, number_of}
use Rattle.election.specs.Listing.{listing, listing_of, longest_listing}
use Rattle.election.specs.Schedule.{End, most_bytes, schedule, offset_of}
use Rattle.election.specs.Schedule.{refusal_of as refusalIn}
use Rattle.election.specs.Schedule.{said as saidSchedule}
use Rattle.election.specs.Sound.{sound}
use Rattle.election.specs.declared.Refusal.{Refusal}
use Rattle.election.specs.declared.Scheduled.{Scheduled}
use Rattle.election.specs.declared.Stopped.{Stopped}
use Rattle.election.specs.declared.System.{System}
use Rattle.election.proofs.Followed.{accepted-schedule}
use Rattle.decision.specs.Decided.{Turned, Taken, command_of, decided}
use Rattle.decision.specs.declared.Command as declared
use Rattle.decision.proofs.Decisions.{numbered, refused-number, taken-command, accepted}
use Rattle.dryrun.specs.DryRun.{Tried, tried}
use Rattle.dryrun.specs.DryRun.{said as saidTried}
use Rattle.dryrun.specs.declared.Tried as dry
use Rattle.dryrun.proofs.Showing.{with_room, written-inside}
use Rattle.words.specs.Doings.{doing_of}
use Rattle.words.specs.Reasons.{refused}
use Rattle.calls.proofs.Calls.{enough}
use Rattle.tryout.specs.Moves.{Enough}
use Rattle.tryout.specs.Pieces.{shown_or, after_shown}
use Rattle.tryout.specs.Told.{no_table, table, after, first, would, answered, told, turned_down}
use Rattle.tryout.specs.Told.{said as said_of}

-- a listing has at least one byte
listing-some : (s : System) → 1 ≤ length (listing s)
unfolding listing_of
listing-some s = omega arith

-- what was shown of a system, or that there is none, is its table
shown-table : (x : System) (shown : List ℕ) → shown ≡ cond x.ready (listing x) [] → shown_or shown ≡ table x
unfolding table
shown-table x shown e = rw e (go x.ready)
  where
    go : (b : Bool) → shown_or (cond b (listing x) []) ≡ cond b (listing x) no_table
    go true = rw (ne_eqb (length (listing x)) 0 (omega (arith, listing-some x)))
    go false = refl

-- a try-out with room for every listing: the listing after the command
module _ (s : System) (bytes old new : List ℕ) (r : dry.Tried) (ok : sound s ≡ true) (room : longest_listing ≤ length old) (e : saidTried r s new ≡ tried s bytes old) where
  pub shown-inside : r.written ≤ length new
  shown-inside = omega (arith, ap (λ (t : Tried). t.written) e, ap (λ (t : Tried). length t.buffer) e, written-inside s bytes old)

  pub shown-after : after_shown (take r.written new) ≡ after (command s bytes).system
  unfolding after_shown after
  shown-after = ap (λ l. text "after:\n" ++ l) (shown-table (command s bytes).system (take r.written new) (ap (λ (t : Tried). take t.written t.buffer) e ∙ (with_room s bytes old ok room).1))

-- what is decided of a command, in words
module _ (s : System) (bytes : List ℕ) (ok : sound s ≡ true) where
  pub answered_taken : (c : declared.Command) → Taken (command_of c) ≡ decided (ruling s bytes) (decode bytes) → text "would " ++ doing_of c ≡ answered (command s bytes).refusal bytes
  unfolding answered would
  answered_taken c m = rw (accepted s bytes ok (command_of c) m, (taken-command s bytes ok (command_of c) m).0) refl

  pub answered_turned : (why : Refusal) → Turned (number_of why) ≡ decided (ruling s bytes) (decode bytes) → refused (number_of why) ≡ answered (command s bytes).refusal bytes
  unfolding answered
  answered_turned why m = rw (refused-number s bytes ok why m, ne_eqb (number_of why) 0 (numbered why)) refl

-- the bytes of the command, taken by their number
pub first_taken : (bytes : List ℕ) (size : ℕ) → size ≡ length (first bytes) → take size bytes ≡ first bytes
first_taken bytes size e = go (dec_le (1 + operands (decode bytes)) (length bytes))
  where
    go : Dec (1 + operands (decode bytes) ≤ length bytes) → take size bytes ≡ first bytes
    go (yes h) = ap (λ n. take n bytes) (e ∙ length-take-le (1 + operands (decode bytes)) bytes h)
    go (no h) =
        let all : first bytes ≡ bytes = take_all (1 + operands (decode bytes)) bytes (omega (arith, h)) in
        take_all size bytes (omega (arith, e, ap length all)) ∙ sym all

pub first-inside : (bytes : List ℕ) (size : ℕ) → size ≡ length (first bytes) → size ≤ length bytes
first-inside bytes size e = omega (arith, e, length-take (1 + operands (decode bytes)) bytes)

-- what is said once a schedule has run, by how it ended
module _ (given bytes : List ℕ) (r : Scheduled) (e : saidSchedule r ≡ schedule given) where
  same-refusal : (schedule given).refusal ≡ refusalIn r.ended
  same-refusal = ap (λ (x : End). x.refusal) (sym e)

  same-offset : (schedule given).offset ≡ offset_of r.ended
  same-offset = ap (λ (x : End). x.offset) (sym e)

  same-system : (schedule given).system ≡ r.system
  same-system = ap (λ (x : End). x.system) (sym e)

  module _ (size : ℕ) (w : r.ended ≡ std.Ok size) where
    none-refused : (schedule given).refusal ≡ 0
    none-refused = same-refusal ∙ ap refusalIn w

    pub accepted-so : true ≡ eqb (schedule given).refusal 0
    accepted-so = sym (eq-eqb _ _ none-refused)

    pub accepted-sound : sound r.system ≡ true
    accepted-sound = ap sound (sym same-system) ∙ (accepted-schedule given none-refused).is-sound

    pub accepted-said : told r.system bytes ≡ said_of given bytes
    unfolding said_of
    accepted-said = rw (← accepted-so, same-system)

  module _ (stopped : Stopped) (w : r.ended ≡ std.Err stopped) where
    pub refused-so : false ≡ eqb (schedule given).refusal 0
    refused-so = sym (ne_eqb _ _ (λ z. numbered stopped.refusal (sym (ap refusalIn w) ∙ sym same-refusal ∙ z)))

    pub refused-said : turned_down (number_of stopped.refusal) stopped.at ≡ said_of given bytes
    unfolding said_of
    refused-said = rw (← refused-so, same-refusal, same-offset, w)

-- above 65,536 bytes it is always the same
long_said : (bytes given : List ℕ) → most_bytes < length given → said_of given bytes ≡ turned_down 21 0
unfolding said_of schedule
long_said bytes given l = rw (lt-ltb most_bytes (length given) l)

pub enough_holds : Enough
enough_holds bytes = enough (λ given. said_of given bytes) most_bytes (turned_down 21 0) (long_said bytes)
