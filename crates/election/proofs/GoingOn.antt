-- Going on with a schedule: each stop, what it says of the rest of the schedule, and that going on again and again prints all.
use mathlib.Core.Path.{◌≡◌, refl, sym, ap, fun_ext, ◌∙◌}
use mathlib.Core.Logic.{◌≢◌}
use mathlib.Core.List.{List, [], ◌∷◌, ◌++◌, append_assoc}
use mathlib.Core.Bool.{Bool, true, false, cond, ◌&&◌, true≢false}
use Prim.Native.Nat.{ℕ, zero, suc, ◌+◌, ◌-◌, ◌<◌, ◌≤◌}
use native.Mathlib.Decide.{ℕ_discrete, dec_lt}
use native.Mathlib.Omega.{arith}
use lib.Dec.{ltb, eqb}
use lib.ListN.{length, get_or, drop}
use borrow.Author.Tests.{eq-eqb, ne_eqb, lt-ltb, le-ltb}
use Rattle.lists.proofs.Bools.{both, cond_yes, cond_no}
use Rattle.election.specs.Commands.{command}
use Rattle.election.specs.Listing.{listing, longest_listing, reported, last_line, reports, output}
use Rattle.election.specs.Onward.{Halt, after, to_list, onward, go_on, ending, repeated, Repeats}
use Rattle.election.specs.Schedule.{End, follow, most_bytes, schedule}
use Rattle.election.specs.Sound.{sound}
use Rattle.election.specs.System.{fresh}
use Rattle.election.specs.declared.System.{System}
use Rattle.election.proofs.Follow.{follow-yes, follow-stops, reports-yes, reports-stops}
use Rattle.election.proofs.FromOffset.{Walks, command-inside, from_end, from-refused, from-accepted}
use Rattle.election.proofs.KeepsSound.{keeps_sound}

-- the stops
abbrev halted : System → ℕ → Halt
halted s at = record { full = false; refusal = 0; offset = at; system = s; listed = [] }

abbrev refused_at : System → ℕ → List ℕ → Halt
refused_at s at bytes = record { full = false; refusal = (command s bytes).refusal; offset = at; system = s; listed = [] }

abbrev full_at : System → ℕ → Halt
full_at s at = record { full = true; refusal = 0; offset = at; system = s; listed = [] }

-- what an accepted command lists
abbrev text_of : Bool → System → List ℕ → List ℕ
text_of list s bytes = cond (to_list list bytes) (listing s) []

abbrev further : Bool → System → ℕ → List ℕ → (ℕ → Halt) → ℕ → Halt
further list s at bytes h room = cond (to_list list bytes && ltb room longest_listing) (full_at s at) (after (text_of list s bytes) (h (room - length (text_of list s bytes))))

chosen : {A : Type 0} (b : Bool) (x y : A) → elim b [ true ↦ x | false ↦ y ] ≡ cond b x y
chosen true x y = refl
chosen false x y = refl

onward-walks : (list : Bool) → Walks (λ s at room. halted s at) (λ s at bytes room. refused_at s at bytes) (further list) (λ fuel s at bytes room. onward list fuel room s at bytes)
unfolding onward
onward-walks list =
    record {
      spent = λ s at bytes. refl;
      ended = λ fuel s at. refl;
      refused = λ fuel s at b bytes ne. fun_ext (λ room. rw (ne_eqb (command s (b ∷ bytes)).refusal 0 ne, onward));
      accepted = λ fuel s at b bytes t. fun_ext (λ room. rw (eq-eqb (command s (b ∷ bytes)).refusal 0 t, onward) (chosen (to_list list (b ∷ bytes) && ltb room longest_listing) _ _));
    }

module _ (list : Bool) (room : ℕ) (s : System) (at : ℕ) (bytes : List ℕ) where
  pub go_end : length bytes ≤ at → go_on list room s at bytes ≡ halted s at
  go_end h = ap (λ (f : ℕ → Halt). f room) (from_end _ _ _ _ (onward-walks list) s at bytes h)

  pub go_refused : at < length bytes → (command s (drop at bytes)).refusal ≢ 0 → go_on list room s at bytes ≡ refused_at s at (drop at bytes)
  go_refused h ne = ap (λ (f : ℕ → Halt). f room) (from-refused _ _ _ _ (onward-walks list) s at bytes h ne)

  module _ (t : (command s (drop at bytes)).refusal ≡ 0) where
    go_accepted : go_on list room s at bytes ≡ further list s at (drop at bytes) (λ room. go_on list room (command s (drop at bytes)).system (at + (command s (drop at bytes)).length) bytes) room
    go_accepted = ap (λ (f : ℕ → Halt). f room) (from-accepted _ _ _ _ (onward-walks list) s at bytes t)

    pub go_full : to_list list (drop at bytes) ≡ true → room < longest_listing → go_on list room s at bytes ≡ full_at s at
    go_full a h = go_accepted ∙ cond_yes {b = to_list list (drop at bytes) && ltb room longest_listing} _ _ (rw (a, lt-ltb room longest_listing h) refl)

    -- otherwise it goes on, with what the command lists before the rest
    pub go_after : (to_list list (drop at bytes) ≡ true → longest_listing ≤ room)
        → go_on list room s at bytes ≡ after (text_of list s (drop at bytes)) (go_on list (room - length (text_of list s (drop at bytes))) (command s (drop at bytes)).system (at + (command s (drop at bytes)).length) bytes)
    go_after f = go_accepted ∙ cond_no _ _ (enough (to_list list (drop at bytes)) refl)
      where
        enough : (b : Bool) → to_list list (drop at bytes) ≡ b → (b && ltb room longest_listing) ≡ false
        enough true a = le-ltb room longest_listing (f a)
        enough false a = refl

-- what holds at each stop, and before a command if it does after it, holds wherever going on begins
module _ (list : Bool) (bytes : List ℕ) (P : ℕ → System → ℕ → Halt → Type 0)
    (at-end : (room : ℕ) (s : System) (at : ℕ) → length bytes ≤ at → P room s at (halted s at))
    (at-refusal : (room : ℕ) (s : System) (at : ℕ) → at < length bytes → (command s (drop at bytes)).refusal ≢ 0 → P room s at (refused_at s at (drop at bytes)))
    (at-full : (room : ℕ) (s : System) (at : ℕ) → at < length bytes → to_list list (drop at bytes) ≡ true → room < longest_listing → P room s at (full_at s at))
    (before : (room : ℕ) (s : System) (at : ℕ) (h : Halt) → (command s (drop at bytes)).refusal ≡ 0
    → P (room - length (text_of list s (drop at bytes))) (command s (drop at bytes)).system (at + (command s (drop at bytes)).length) h → P room s at (after (text_of list s (drop at bytes)) h)) where
  go_by : (fuel room : ℕ) (s : System) (at : ℕ) → length bytes ≤ at + fuel → P room s at (go_on list room s at bytes)
  go_by zero room s at l = rw (go_end list room s at bytes (omega arith)) (at-end room s at (omega arith))
  go_by (suc fuel) room s at l = here (dec_lt at (length bytes)) (go_by fuel)
    where
      here : Dec (at < length bytes) → ((room : ℕ) (s : System) (at : ℕ) → length bytes ≤ at + fuel → P room s at (go_on list room s at bytes)) → P room s at (go_on list room s at bytes)
      here (no out) rest = rw (go_end list room s at bytes (omega arith)) (at-end room s at (omega arith))
      here (yes inside) rest = run (ℕ_discrete (command s (drop at bytes)).refusal 0) (to_list list (drop at bytes)) refl (dec_lt room longest_listing)
        where
          on : (command s (drop at bytes)).refusal ≡ 0 → (to_list list (drop at bytes) ≡ true → longest_listing ≤ room) → P room s at (go_on list room s at bytes)
          on t f = rw (go_after list room s at bytes t f) (before room s at _ t (rest _ _ _ (omega (arith, (command-inside s at bytes t).0))))

          run : Dec ((command s (drop at bytes)).refusal ≡ 0) → (b : Bool) → to_list list (drop at bytes) ≡ b → Dec (room < longest_listing) → P room s at (go_on list room s at bytes)
          run (no ne) b a d = rw (go_refused list room s at bytes inside ne) (at-refusal room s at inside ne)
          run (yes t) true a (yes h) = rw (go_full list room s at bytes t a h) (at-full room s at inside a h)
          run (yes t) true a (no h) = on t (λ e. omega arith)
          run (yes t) false a d = on t (λ e. absurd (true≢false (sym e ∙ a)))

  pub go_all : (room : ℕ) (s : System) (at : ℕ) → P room s at (go_on list room s at bytes)
  go_all room s at = go_by (length bytes) room s at (omega arith)

pub go_sound : (list : Bool) (room : ℕ) (s : System) (at : ℕ) (bytes : List ℕ) → sound s ≡ true → sound (go_on list room s at bytes).system ≡ true
go_sound list room s at bytes =
    go_all list bytes (λ room s at h. sound s ≡ true → sound h.system ≡ true)
    (λ room s at l e. e) (λ room s at l ne e. e) (λ room s at l a h e. e) (λ room s at h t later e. later (keeps_sound s (drop at bytes) e))
    room s at

-- the rest of a schedule from an offset, and the listings of its accepted reports
abbrev pub rest : System → ℕ → List ℕ → End
rest s at bytes = follow (length bytes) s at (drop at bytes)

abbrev pub listings : System → ℕ → List ℕ → List ℕ
listings s at bytes = reports (length bytes) s (drop at bytes)

abbrev whole : System → ℕ → End
whole s at = record { refusal = 0; offset = at; system = s }

abbrev stopped : System → ℕ → List ℕ → End
stopped s at bytes = record { refusal = (command s bytes).refusal; offset = at; system = s }

follow-walks : Walks whole stopped (λ s at bytes e. e) follow
unfolding follow
follow-walks =
    record {
      spent = λ s at bytes. refl;
      ended = λ fuel s at. refl;
      refused = follow-stops;
      accepted = follow-yes;
    }

reports-walks : Walks (λ s at. []) (λ s at bytes. []) (λ s at bytes rs. reported s bytes ++ rs) (λ fuel s at bytes. reports fuel s bytes)
unfolding reports
reports-walks =
    record {
      spent = λ s at bytes. refl;
      ended = λ fuel s at. refl;
      refused = λ fuel s at. reports-stops fuel s;
      accepted = λ fuel s at. reports-yes fuel s;
    }

module _ (s : System) (at : ℕ) (bytes : List ℕ) where
  rest_end : length bytes ≤ at → rest s at bytes ≡ whole s at
  rest_end = from_end whole stopped _ follow follow-walks s at bytes

  rest-refused : at < length bytes → (command s (drop at bytes)).refusal ≢ 0 → rest s at bytes ≡ stopped s at (drop at bytes)
  rest-refused = from-refused whole stopped _ follow follow-walks s at bytes

  rest-accepted : (command s (drop at bytes)).refusal ≡ 0 → rest s at bytes ≡ rest (command s (drop at bytes)).system (at + (command s (drop at bytes)).length) bytes
  rest-accepted = from-accepted whole stopped _ follow follow-walks s at bytes

  list_end : length bytes ≤ at → listings s at bytes ≡ []
  list_end = from_end _ _ _ _ reports-walks s at bytes

  list_refused : at < length bytes → (command s (drop at bytes)).refusal ≢ 0 → listings s at bytes ≡ []
  list_refused = from-refused _ _ _ _ reports-walks s at bytes

  list_accepted : (command s (drop at bytes)).refusal ≡ 0 → listings s at bytes ≡ reported s (drop at bytes) ++ listings (command s (drop at bytes)).system (at + (command s (drop at bytes)).length) bytes
  list_accepted = from-accepted _ _ _ _ reports-walks s at bytes

-- what a stop for want of room says of the rest of the schedule, and what another stop says
pub record AtFull (bytes : List ℕ) (s : System) (at : ℕ) (h : Halt) : Type 0 where
  pub goes_on : rest s at bytes ≡ rest h.system h.offset bytes
  pub lists_more : listings s at bytes ≡ h.listed ++ listings h.system h.offset bytes
  pub within : h.offset < length bytes

pub record AtEnd (list : Bool) (bytes : List ℕ) (s : System) (at : ℕ) (h : Halt) : Type 0 where
  pub ends : rest s at bytes ≡ ending h
  pub lists_all : list ≡ true → listings s at bytes ≡ h.listed

pub record Stops (list : Bool) (bytes : List ℕ) (room : ℕ) (s : System) (at : ℕ) (h : Halt) : Type 0 where
  pub at-full : h.full ≡ true → AtFull bytes s at h
  pub at-end : h.full ≡ false → AtEnd list bytes s at h
  pub listing-on : h.full ≡ true → list ≡ true
  pub not_below : at ≤ h.offset
  pub above : h.full ≡ true → longest_listing ≤ room → at < h.offset

-- what is listed for an accepted report
text-is : (list : Bool) (s : System) (bytes : List ℕ) → list ≡ true → text_of list s bytes ≡ reported s bytes
unfolding reported
text-is list s bytes e = rw e

-- nothing of both
not_both : {A : Type 0} {b : Bool} → b ≡ false → b ≡ true → A
not_both f t = absurd (true≢false (sym t ∙ f))

pub stops : (list : Bool) (bytes : List ℕ) (room : ℕ) (s : System) (at : ℕ) → Stops list bytes room s at (go_on list room s at bytes)
stops list bytes =
    go_all list bytes (Stops list bytes)
    (λ room s at l.
    record {
      at-full = not_both refl;
      at-end = λ e. record { ends = rest_end s at bytes l; lists_all = λ o. list_end s at bytes l };
      listing-on = not_both refl;
      not_below = omega arith;
      above = not_both refl;
    })
    (λ room s at l ne.
    record {
      at-full = not_both refl;
      at-end = λ e. record { ends = rest-refused s at bytes l ne; lists_all = λ o. list_refused s at bytes l ne };
      listing-on = not_both refl;
      not_below = omega arith;
      above = not_both refl;
    })
    (λ room s at l a h.
    record {
      at-full = λ e. record { goes_on = refl; lists_more = refl; within = l };
      at-end = λ e. not_both e refl;
      listing-on = λ e. (both list (eqb (get_or (drop at bytes) 0 0) 7) a).0;
      not_below = omega arith;
      above = λ e r. absurd (omega arith);
    })
    (λ room s at h t later.
    let (low, high) = command-inside s at bytes t in
    let listed-first : list ≡ true → listings s at bytes ≡ text_of list s (drop at bytes) ++ listings (command s (drop at bytes)).system (at + (command s (drop at bytes)).length) bytes =
    λ o. list_accepted s at bytes t ∙ ap (λ x. x ++ listings (command s (drop at bytes)).system (at + (command s (drop at bytes)).length) bytes) (sym (text-is list s (drop at bytes) o)) in
    record {
      at-full = λ e. let f = later.at-full e in
          record {
            goes_on = rest-accepted s at bytes t ∙ f.goes_on;
            lists_more = listed-first (later.listing-on e) ∙ ap (λ x. text_of list s (drop at bytes) ++ x) f.lists_more ∙ sym (append_assoc (text_of list s (drop at bytes)) h.listed (listings h.system h.offset bytes));
            within = f.within;
          };
      at-end = λ e. let f = later.at-end e in
          record {
            ends = rest-accepted s at bytes t ∙ f.ends;
            lists_all = λ o. listed-first o ∙ ap (λ x. text_of list s (drop at bytes) ++ x) (f.lists_all o);
          };
      listing-on = later.listing-on;
      not_below = omega (arith, low, later.not_below);
      above = λ e r. omega (arith, low, later.not_below);
    })

module _ (room : ℕ) (s : System) (at : ℕ) (bytes : List ℕ) where
  -- asked for no listings, it comes to the end of the schedule
  pub unlisted_end : ending (go_on false room s at bytes) ≡ rest s at bytes
  unlisted_end = sym ((stops false bytes room s at).at-end (not_full (go_on false room s at bytes).full refl)).ends
    where
      not_full : (b : Bool) → (go_on false room s at bytes).full ≡ b → (go_on false room s at bytes).full ≡ false
      not_full true e = not_both refl ((stops false bytes room s at).listing-on e)
      not_full false e = e

  -- where it stops for want of room, it has come further in the schedule
  pub full-further : longest_listing ≤ room → (go_on true room s at bytes).full ≡ true → (at < (go_on true room s at bytes).offset) × ((go_on true room s at bytes).offset < length bytes)
  full-further r e = ((stops true bytes room s at).above e r, ((stops true bytes room s at).at-full e).within)

-- a schedule is the rest of it from the start
pub rest-schedule : (bytes : List ℕ) → length bytes ≤ most_bytes → rest fresh 0 bytes ≡ schedule bytes
unfolding schedule
rest-schedule bytes l = rw (le-ltb most_bytes (length bytes) l)

-- what is to be printed from an offset on: the listings of the rest, and its last line
unfoldable to_print : System → ℕ → List ℕ → List ℕ
to_print s at bytes = listings s at bytes ++ last_line (rest s at bytes)

prints-all : (bytes : List ℕ) → length bytes ≤ most_bytes → to_print fresh 0 bytes ≡ output bytes
unfolding to_print output
prints-all bytes l = rw (le-ltb most_bytes (length bytes) l, rest-schedule bytes l)

module _ (room : ℕ) (s : System) (at : ℕ) (bytes : List ℕ) where
  -- at a stop for want of room it is what was listed, and what is to be printed from there on; at another, what was listed and the last line
  prints-more : (go_on true room s at bytes).full ≡ true
      → to_print s at bytes ≡ (go_on true room s at bytes).listed ++ to_print (go_on true room s at bytes).system (go_on true room s at bytes).offset bytes
  unfolding to_print
  prints-more e =
      let f = (stops true bytes room s at).at-full e in
      let h : Halt = go_on true room s at bytes in
      ap (λ x. x ++ last_line (rest s at bytes)) f.lists_more
      ∙ append_assoc h.listed (listings h.system h.offset bytes) (last_line (rest s at bytes))
      ∙ ap (λ x. h.listed ++ (listings h.system h.offset bytes ++ last_line x)) f.goes_on

  prints-last : (go_on true room s at bytes).full ≡ false → to_print s at bytes ≡ (go_on true room s at bytes).listed ++ last_line (ending (go_on true room s at bytes))
  unfolding to_print
  prints-last e = let r = (stops true bytes room s at).at-end e in rw (r.lists_all refl, r.ends)

  module _ (fuel : ℕ) where
    repeated-full : (go_on true room s at bytes).full ≡ true
        → repeated (suc fuel) room s at bytes ≡ (go_on true room s at bytes).listed ++ repeated fuel room (go_on true room s at bytes).system (go_on true room s at bytes).offset bytes
    unfolding repeated
    repeated-full e = rw (e, repeated)

    repeated-end : (go_on true room s at bytes).full ≡ false → repeated (suc fuel) room s at bytes ≡ to_print s at bytes
    unfolding repeated
    repeated-end e = rw (e, repeated) (sym (prints-last e))

-- going on again and again prints this from every offset
repeated-rest : (fuel room : ℕ) (s : System) (at : ℕ) (bytes : List ℕ) → longest_listing ≤ room → length bytes ≤ at + fuel → repeated (suc fuel) room s at bytes ≡ to_print s at bytes
repeated-rest zero room s at bytes r l = stop (go_on true room s at bytes).full refl
  where
    stop : (b : Bool) → (go_on true room s at bytes).full ≡ b → repeated 1 room s at bytes ≡ to_print s at bytes
    stop true e = absurd (omega (arith, full-further room s at bytes r e))
    stop false e = repeated-end room s at bytes zero e
repeated-rest (suc fuel) room s at bytes r l = stop (go_on true room s at bytes).full refl (repeated-rest fuel room)
  where
    stop : (b : Bool) → (go_on true room s at bytes).full ≡ b
        → ((s : System) (at : ℕ) (bytes : List ℕ) → longest_listing ≤ room → length bytes ≤ at + fuel → repeated (suc fuel) room s at bytes ≡ to_print s at bytes)
        → repeated (suc (suc fuel)) room s at bytes ≡ to_print s at bytes
    stop true e next =
        let h : Halt = go_on true room s at bytes in
        repeated-full room s at bytes (suc fuel) e
        ∙ ap (λ x. h.listed ++ x) (next h.system h.offset bytes r (omega (arith, full-further room s at bytes r e)))
        ∙ sym (prints-more room s at bytes e)
    stop false e next = repeated-end room s at bytes (suc fuel) e

pub repeats_holds : Repeats
repeats_holds room bytes r l = repeated-rest (length bytes) room fresh 0 bytes r (omega arith) ∙ prints-all bytes l
