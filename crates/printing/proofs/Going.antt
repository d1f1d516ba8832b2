-- What was printed of the listings of a schedule, and what is left of them, each time that going on with it stops.
use Rattle.std.proofs.Common.{◌≡◌, refl, sym, ap, subst, ◌∙◌, List, [], ◌++◌, append-nil, append_assoc, Bool, true, false, cond, Option, Result, ℕ, ◌+◌, ◌*◌, ◌<◌, ◌≤◌, length, take, length-append, length-take-le, arith}
use Rattle.std.proofs.KnownBytes.{Appends-nil, Appends-trans}
use Rattle.std.specs.Io.KnownBytes.{Appends}
use Rattle.lists.proofs.Bools.{cond_yes, cond_no}
use Rattle.calls.specs.Moved.{CutAt}
use Rattle.calls.proofs.Taken.{cut_first, cut_rest}
use Rattle.text.specs.Wrote.{Wrote}
use Rattle.text.proofs.Parts.{wrote_front, wrote_inside}
use Rattle.election.specs.Onward.{go_on, ending}
use Rattle.election.specs.Schedule.{End, most_bytes, schedule, offset_of}
use Rattle.election.specs.Schedule.{refusal_of as refusal_in}
use Rattle.election.specs.declared.Stopped.{Stopped}
use Rattle.election.specs.Sound.{sound}
use Rattle.election.specs.System.{fresh}
use Rattle.election.specs.declared.System.{System}
use Rattle.election.proofs.GoingOn.{go_sound, full-further, rest, rest-schedule, stops}
use Rattle.election.proofs.GoingOn.{listings as listingsFrom}
use Rattle.election.proofs.InitialSound.{fresh-sound}
use Rattle.layout.specs.Layout.{system_of}
use Rattle.layout.specs.declared.Layout.{Layout}
use Rattle.simulator.specs.Gone.{Gone, gone, full_of, refusal_of, said}
use Rattle.simulator.specs.declared.rules.Onward.{Onward}
use Rattle.printing.specs.Listings.{listings, Printed}

-- where the loop goes on with a schedule: a sound system, from which the schedule ends as it does from the start; what was printed, and that the
-- listings from there on are the others
pub record Standing (bytes buffer : List ℕ) (s : Layout) (at size : ℕ) (before now : Option (List ℕ)) : Type 0 where
  pub ok : sound (system_of s) ≡ true
  pub room : length buffer ≡ 65536
  pub within : at ≤ length bytes
  pub leads : rest (system_of s) at bytes ≡ schedule bytes
  pub printed : List ℕ
  pub writes : Appends before now printed
  pub others : listings bytes ≡ printed ++ listingsFrom (system_of s) at bytes
  pub size_is : size ≡ length printed
  pub few : size ≤ 65536 * at

pub stands_first : (bytes buffer : List ℕ) (s : Layout) (before : Option (List ℕ)) → length bytes ≤ most_bytes → length buffer ≡ 65536 → system_of s ≡ fresh → Standing bytes buffer s 0 0 before before
stands_first bytes buffer s before short room e =
    record {
      ok = rw e fresh-sound;
      room = room;
      within = omega arith;
      leads = rw e (rest-schedule bytes short);
      printed = [];
      writes = Appends-nil before;
      others = rw e refl;
      size_is = refl;
      few = omega arith;
    }

-- what is left after the listings that going on wrote: those from its stop on, or none
unfoldable onwards : Gone → List ℕ → List ℕ
onwards g bytes = cond g.full (listingsFrom g.system g.offset bytes) []

lists : (s : System) (at : ℕ) (bytes old : List ℕ) → listingsFrom s at bytes ≡ (go_on true (length old) s at bytes).listed ++ onwards (gone true s at bytes old) bytes
unfolding onwards
lists s at bytes old = which (go_on true (length old) s at bytes).full refl
  where
    which : (b : Bool) → (go_on true (length old) s at bytes).full ≡ b → listingsFrom s at bytes ≡ (go_on true (length old) s at bytes).listed ++ onwards (gone true s at bytes old) bytes
    which true t = ((stops true bytes (length old) s at).at-full t).lists_more ∙ ap (λ x. (go_on true (length old) s at bytes).listed ++ x) (sym (cond_yes _ _ t))
    which false f = ((stops true bytes (length old) s at).at-end f).lists_all refl ∙ sym (append-nil _) ∙ ap (λ x. (go_on true (length old) s at bytes).listed ++ x) (sym (cond_no _ _ f))

-- one time that the loop goes on
module _ {bytes old : List ℕ} {s : Layout} {at size : ℕ} {before now : Option (List ℕ)} (st : Standing bytes old s at size before now)
    (new : List ℕ) (next : Layout) (r : Onward) (e : said r next new ≡ gone true (system_of s) at bytes old) where
  -- its listings were written, and come next
  abbrev listed : List ℕ
  listed = (go_on true (length old) (system_of s) at bytes).listed

  pub wrote : Wrote listed old r.size new
  wrote = record { count = ap (λ (g : Gone). g.written) e; bytes = ap (λ (g : Gone). g.buffer) e }

  come_next : listings bytes ≡ (st.printed ++ take r.size new) ++ onwards (said r next new) bytes
  come_next =
      rw (wrote_front wrote)
      (subst (λ (g : Gone). listings bytes ≡ (st.printed ++ listed) ++ onwards g bytes) (sym e)
      (st.others ∙ ap (λ x. st.printed ++ x) (lists (system_of s) at bytes old) ∙ sym (append_assoc st.printed listed (onwards (gone true (system_of s) at bytes old) bytes))))

  -- they are few enough bytes to be counted
  pub counted : length bytes ≤ most_bytes → length new ≡ length old → size + r.size ≤ 65536 * 65537
  counted short same = omega (arith, st.few, st.within, st.room, wrote_inside wrote)

  -- where a write of them failed, the bytes before them and those that were taken of them are a front of all
  pub part_printed : (then : Option (List ℕ)) (n : ℕ) → CutAt n (take r.size new) (Appends now then) → CutAt (size + n) (listings bytes) (Appends before then)
  part_printed then n t =
      subst (λ l. CutAt (size + n) l (Appends before then)) (sym come_next)
      (cut_first (size + n) (st.printed ++ take r.size new) (onwards (said r next new) bytes) (Appends before then) (cut_rest before now then st.printed (take r.size new) size n st.size_is st.writes t))

  -- where it stopped for want of room, it came further
  pub leads-on : full_of r.stop ≡ true → (at < r.at) × (r.at < length bytes)
  leads-on t =
      rw (sym (ap (λ (g : Gone). g.offset) e)) at
      (full-further (length old) (system_of s) at bytes (omega (arith, st.room)) (sym (ap (λ (g : Gone). g.full) e) ∙ t))

  all_listed : full_of r.stop ≡ false → listings bytes ≡ st.printed ++ take r.size new
  unfolding onwards
  all_listed f = come_next ∙ ap (λ x. (st.printed ++ take r.size new) ++ x) (cond_no _ _ f) ∙ append-nil _

  grown : size + r.size ≡ length (st.printed ++ take r.size new)
  grown = omega (arith, st.size_is, length-append st.printed (take r.size new), length-take-le r.size new (wrote_inside wrote))

  -- once they were taken, the loop goes on from such a stop, and at another all is printed
  module _ (then : Option (List ℕ)) (w : Appends now then (take r.size new)) where
    pub stands : length new ≡ length old → full_of r.stop ≡ true → Standing bytes new next r.at (size + r.size) before then
    unfolding onwards
    stands same t =
        record {
          ok = rw (sym (ap (λ (g : Gone). g.system) e)) at (go_sound true (length old) (system_of s) at bytes st.ok);
          room = same ∙ st.room;
          within = omega (arith, (leads-on t).1);
          leads = subst (λ (g : Gone). rest g.system g.offset bytes ≡ schedule bytes) (sym e) (sym ((stops true bytes (length old) (system_of s) at).at-full (sym (ap (λ (g : Gone). g.full) e) ∙ t)).goes_on ∙ st.leads);
          printed = st.printed ++ take r.size new;
          writes = Appends-trans before now then st.printed (take r.size new) st.writes w;
          others = come_next ∙ ap (λ x. (st.printed ++ take r.size new) ++ x) (cond_yes _ _ t);
          size_is = grown;
          few = omega (arith, st.few, st.room, wrote_inside wrote, (leads-on t).0);
        }

    pub all_printed : full_of r.stop ≡ false → Appends before then (listings bytes)
    all_printed f = subst (Appends before then) (sym (all_listed f)) (Appends-trans before now then st.printed (take r.size new) st.writes w)

  module _ (f : full_of r.stop ≡ false) where
    at-end : ending (go_on true (length old) (system_of s) at bytes) ≡ schedule bytes
    at-end = sym ((stops true bytes (length old) (system_of s) at).at-end (sym (ap (λ (g : Gone). g.full) e) ∙ f)).ends ∙ st.leads

    -- at its end, its stop is that of the schedule
    pub ends : (ended : Result ℕ Stopped) → refusal_in ended ≡ refusal_of r.stop → offset_of ended ≡ r.at → length bytes ≤ most_bytes → length new ≡ length old
        → Printed (record { size = size + r.size; ended = ended }) bytes
    ends ended refusal place short same =
        record {
          size = grown ∙ ap length (sym (all_listed f));
          few = omega (arith, counted short same);
          refusal = refusal ∙ ap (λ (g : Gone). g.refusal) e ∙ ap (λ (x : End). x.refusal) at-end;
          place = place ∙ ap (λ (g : Gone). g.offset) e ∙ ap (λ (x : End). x.offset) at-end;
        }
