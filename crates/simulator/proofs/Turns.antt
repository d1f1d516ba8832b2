-- A turn of going on with a schedule: where it stands, that each taken command leads on, and that each stop is the definition's.
use mathlib.Core.Path.{◌≡◌, refl, sym, ap, ◌∙◌}
use mathlib.Core.Logic.{◌≢◌}
use mathlib.Core.List.{List, [], ◌∷◌, ◌++◌, append_assoc, append-nil}
use mathlib.Core.Bool.{Bool, true, false, cond, ◌&&◌, true≢false, and-false}
use Prim.Native.Nat.{ℕ, ◌+◌, ◌*◌, ◌-◌, ◌<◌, ◌≤◌}
use native.Mathlib.Decide.{ℕ_discrete, dec_lt}
use native.Mathlib.Nat.{add-zero}
use native.Mathlib.Omega.{arith}
use lib.Dec.{eqb, ltb}
use lib.ListN.{length, get_or, take, drop, length-drop}
use lib.Seq.{get_or-drop, take_all}
use borrow.Author.Tests.{eq-eqb, ne_eqb, eqb-false, le-leb, lt-leb}
use borrow.Rule.Slice.PartMut.{put_mid}
use Rattle.lists.specs.Entries.{over}
use Rattle.lists.specs.First.{first_failed}
use Rattle.lists.proofs.First.{passed}
use Rattle.fit.specs.Fit.{within}
use Rattle.election.specs.Commands.{Command, SetUp, Start, Crash, Link, Run, Lose, Report, Rank, Result, decode, operands, last_command, tests, ruling, perform, refusal, command, number_of}
use Rattle.election.specs.Listing.{listing, longest_listing}
use Rattle.election.specs.Onward.{Halt, after, to_list, go_on}
use Rattle.election.specs.Sound.{sound}
use Rattle.election.specs.declared.Refusal.{Refusal}
use Rattle.election.specs.declared.System.{System}
use Rattle.election.proofs.FromOffset.{command-inside}
use Rattle.election.proofs.GoingOn.{go_end, go_refused, go_full, go_after}
use Rattle.election.proofs.KeepsSound.{keeps_sound}
use Rattle.layout.specs.Layout.{system_of}
use Rattle.layout.specs.declared.Layout.{Layout}
use Rattle.text.specs.Wrote.{Wrote}
use Rattle.text.proofs.Parts.{wrote_none, wrote_part, wrote_length}
use Rattle.decision.specs.Decided.{Decided, Sees, SeesAll, SeesFor, Turned, Taken, command_of, decided}
use Rattle.simulator.specs.Gone.{Gone, leaving, gone, said}
use Rattle.simulator.specs.declared.rules.Stop.TheVariants.{Full, End, Refused}
use Rattle.decision.specs.declared.Command as declared
use Rattle.decision.specs.declared.Command.TheVariants as code
use Rattle.decision.specs.declared.Seen.{Seen}
use Rattle.decision.proofs.Bytes.{report-read, sees-all, sees-for}
use Rattle.decision.proofs.Decisions.{numbered, refused-number, taken-command, taken-width}

-- the command is a report
abbrev pub is_report : Command → Bool
is_report (SetUp clock n period) = false
is_report (Start p) = false
is_report (Crash p) = false
is_report (Link p q d) = false
is_report (Run t) = false
is_report (Lose p q) = false
is_report Report = true
is_report (Rank p r) = false

-- nothing is listed for another command
pub unlisted : (list : Bool) (c : declared.Command) → (c ≡ code.Report → ⊥) → (list && is_report (command_of c)) ≡ false
unlisted list (code.SetUp clock n period) ne = and-false list
unlisted list (code.Start p) ne = and-false list
unlisted list (code.Crash p) ne = and-false list
unlisted list (code.Link p q d) ne = and-false list
unlisted list (code.Run t) ne = and-false list
unlisted list (code.Lose p q) ne = and-false list
unlisted list code.Report ne = absurd (ne refl)
unlisted list (code.Rank p r) ne = and-false list

-- no byte but the nine is a command's
not_known : (b : ℕ) → b ≢ 1 → b ≢ 2 → b ≢ 3 → b ≢ 4 → b ≢ 5 → b ≢ 6 → b ≢ 7 → b ≢ 8 → b ≢ 9 → within 1 b last_command ≡ false
not_known b n1 n2 n3 n4 n5 n6 n7 n8 n9 = go (dec_lt 0 b)
  where
    above_four : 1 ≤ b → 4 < b
    above_four h = omega arith

    above_nine : 4 < b → 9 < b
    above_nine h = omega arith

    none : ((0 < b) → ⊥) → b < 1
    none low = omega arith

    go : Dec (0 < b) → within 1 b last_command ≡ false
    go (yes low) = rw (le-leb 1 b low, lt-leb b last_command (above_nine (above_four low)))
    go (no low) = rw (lt-leb 1 b (none low))

-- so its byte is 7, and no other accepted command's is
report-byte : (s : System) (bytes : List ℕ) → (command s bytes).refusal ≡ 0 → eqb (get_or bytes 0 0) 7 ≡ is_report (decode bytes)
unfolding command refusal decode
report-byte s bytes t =
    let (e, t₀) = passed (sound s) (ruling s bytes) 14 t in
    let (l, t₁) = passed (ltb 0 (length bytes)) _ 1 t₀ in
    let (w, t₂) = passed (within 1 (get_or bytes 0 0) last_command) _ 0 t₁ in
    seven (ℕ_discrete (get_or bytes 0 0) 7) w
  where
    tree : (a b c d e f g k : Bool) → Command
    tree a b c d e f g k =
        let x : ℕ = get_or bytes 1 0 in
        let y : ℕ = get_or bytes 2 0 in
        let z : ℕ = get_or bytes 3 0 in
        cond a (SetUp false x y) (cond b (Start x) (cond c (Crash x) (cond d (Link x y z) (cond e (Run (x + 256 * y)) (cond f (Lose x y) (cond g (Rank x y) (cond k (SetUp true x y) Report)))))))

    other : (n : ℕ) → n ≢ 7 → within 1 n last_command ≡ true → (a b c d e f g k : Bool) → eqb n 1 ≡ a → eqb n 2 ≡ b → eqb n 3 ≡ c → eqb n 4 ≡ d → eqb n 5 ≡ e → eqb n 6 ≡ f → eqb n 8 ≡ g → eqb n 9 ≡ k → false ≡ is_report (tree a b c d e f g k)
    other n ne w true b c d e f g k i₁ i₂ i₃ i₄ i₅ i₆ i₈ i₉ = refl
    other n ne w false true c d e f g k i₁ i₂ i₃ i₄ i₅ i₆ i₈ i₉ = refl
    other n ne w false false true d e f g k i₁ i₂ i₃ i₄ i₅ i₆ i₈ i₉ = refl
    other n ne w false false false true e f g k i₁ i₂ i₃ i₄ i₅ i₆ i₈ i₉ = refl
    other n ne w false false false false true f g k i₁ i₂ i₃ i₄ i₅ i₆ i₈ i₉ = refl
    other n ne w false false false false false true g k i₁ i₂ i₃ i₄ i₅ i₆ i₈ i₉ = refl
    other n ne w false false false false false false true k i₁ i₂ i₃ i₄ i₅ i₆ i₈ i₉ = refl
    other n ne w false false false false false false false true i₁ i₂ i₃ i₄ i₅ i₆ i₈ i₉ = refl
    other n ne w false false false false false false false false i₁ i₂ i₃ i₄ i₅ i₆ i₈ i₉ =
        absurd (true≢false (sym w ∙ not_known n (eqb-false n 1 i₁) (eqb-false n 2 i₂) (eqb-false n 3 i₃) (eqb-false n 4 i₄) (eqb-false n 5 i₅) (eqb-false n 6 i₆) ne (eqb-false n 8 i₈) (eqb-false n 9 i₉)))

    seven : Dec (get_or bytes 0 0 ≡ 7) → within 1 (get_or bytes 0 0) last_command ≡ true → eqb (get_or bytes 0 0) 7 ≡ is_report (decode bytes)
    seven (yes e) w = eq-eqb (get_or bytes 0 0) 7 e ∙ sym (ap is_report (report-read bytes e))
    seven (no ne) w = ne_eqb (get_or bytes 0 0) 7 ne ∙ other (get_or bytes 0 0) ne w _ _ _ _ _ _ _ _ refl refl refl refl refl refl refl refl

-- what is decided from the bytes that are lent, with what is seen of a system, is decided of it
pub decided-of : (s : System) (seen : Seen) (bytes : List ℕ) (at : ℕ) (d : Decided) → sound s ≡ true → SeesAll s seen
    → ((z : System) → sound z ≡ true → Sees z seen (decode (take (length bytes - at) (drop at bytes))) → d ≡ decided (ruling z (take (length bytes - at) (drop at bytes))) (decode (take (length bytes - at) (drop at bytes))))
    → d ≡ decided (ruling s (drop at bytes)) (decode (drop at bytes))
decided-of s seen bytes at d ok sees told =
    let all : take (length bytes - at) (drop at bytes) ≡ drop at bytes = take_all (length bytes - at) (drop at bytes) (omega (arith, length-drop at bytes)) in
    rw all at (told s ok (sees-all s seen (take (length bytes - at) (drop at bytes)) sees))

-- so where enough is seen for the bytes
pub decided-for : (s : System) (seen : Seen) (bytes : List ℕ) (at : ℕ) (d : Decided) → sound s ≡ true → SeesAll s seen
    → ((z : System) → sound z ≡ true → SeesFor z seen (take (length bytes - at) (drop at bytes)) → d ≡ decided (ruling z (take (length bytes - at) (drop at bytes))) (decode (take (length bytes - at) (drop at bytes))))
    → d ≡ decided (ruling s (drop at bytes)) (decode (drop at bytes))
decided-for s seen bytes at d ok sees told = decided-of s seen bytes at d ok sees (λ z sound v. told z sound (sees-for z seen (take (length bytes - at) (drop at bytes)) v))

-- where going on stands: a sound system, at an offset, with a text written to the buffer; it leads to what going on from the start leads to
pub record Going (list : Bool) (bytes old : List ℕ) (s₀ : System) (at₀ : ℕ) (s : Layout) (at size : ℕ) (buffer : List ℕ) : Type 0 where
  pub is-sound : sound (system_of s) ≡ true
  pub text : List ℕ
  pub wrote : Wrote text old size buffer
  pub fits : size ≤ length old
  pub leads : after text (go_on list (length old - size) (system_of s) at bytes) ≡ go_on list (length old) s₀ at₀ bytes

pub going_first : (list : Bool) (bytes old : List ℕ) (s : Layout) (at : ℕ) → sound (system_of s) ≡ true → Going list bytes old (system_of s) at s at 0 old
going_first list bytes old s at ok = record { is-sound = ok; text = []; wrote = wrote_none old; fits = omega arith; leads = (let z : length old - 0 ≡ length old = omega arith in ap (λ n. go_on list n (system_of s) at bytes) z) }

module _ (list : Bool) (bytes old : List ℕ) (s₀ : System) (at₀ : ℕ) (s : Layout) (at size : ℕ) (buffer : List ℕ) (g : Going list bytes old s₀ at₀ s at size buffer) where
  pub same_size : length buffer ≡ length old
  same_size = wrote_length g.wrote (omega (arith, g.fits, g.wrote.count))

  -- a stop with nothing more listed
  halts : (full : Bool) (number : ℕ) → go_on list (length old - size) (system_of s) at bytes ≡ record { full = full; refusal = number; offset = at; system = system_of s; listed = [] }
      → ◌≡◌ {A = Gone} (record { full = full; refusal = number; offset = at; system = system_of s; written = size; buffer = buffer }) (gone list s₀ at₀ bytes old)
  halts full number e =
      let all : g.text ≡ g.text ++ [] = sym (append-nil g.text) in
      (λ i. record { full = full; refusal = number; offset = at; system = system_of s; written = (g.wrote.count ∙ ap length all) i; buffer = (g.wrote.bytes ∙ ap (λ l. over l old) all) i })
      ∙ ap (leaving old) (ap (after g.text) (sym e) ∙ g.leads)

  pub ends : length bytes ≤ at → said (record { stop = End; at = at; size = size }) s buffer ≡ gone list s₀ at₀ bytes old
  ends h = halts false 0 (go_end list (length old - size) (system_of s) at bytes h)

  module _ (inside : at < length bytes) where
    pub turned_down : (why : Refusal) → Turned (number_of why) ≡ decided (ruling (system_of s) (drop at bytes)) (decode (drop at bytes)) → said (record { stop = Refused why; at = at; size = size }) s buffer ≡ gone list s₀ at₀ bytes old
    turned_down why e =
        let number = refused-number (system_of s) (drop at bytes) g.is-sound why e in
        halts false (number_of why) (go_refused list (length old - size) (system_of s) at bytes inside (λ z. numbered why (sym number ∙ z)) ∙ ap (λ n. record { full = false; refusal = n; offset = at; system = system_of s; listed = [] }) number)

    module _ (c : Command) (e : Taken c ≡ decided (ruling (system_of s) (drop at bytes)) (decode (drop at bytes))) where
      -- what is taken can be done
      pub taken : (decode (drop at bytes) ≡ c) × (first_failed (tests (system_of s) c) ≡ 0)
      taken = let (a, b, r) = taken-command (system_of s) (drop at bytes) g.is-sound c e in (a, b)

      done_is : command (system_of s) (drop at bytes) ≡ record { refusal = 0; length = 1 + operands c; system = perform c (system_of s) }
      done_is = (taken-command (system_of s) (drop at bytes) g.is-sound c e).2

      accepted : (command (system_of s) (drop at bytes)).refusal ≡ 0
      accepted = ap (λ (r : Result). r.refusal) done_is

      listed-is : to_list list (drop at bytes) ≡ (list && is_report c)
      listed-is = ap (λ b. list && b) (report-byte (system_of s) (drop at bytes) accepted ∙ ap is_report taken.0)

      -- a report with no room
      pub stops_full : (list && is_report c) ≡ true → length old - size < longest_listing → said (record { stop = Full; at = at; size = size }) s buffer ≡ gone list s₀ at₀ bytes old
      stops_full b h = halts true 0 (go_full list (length old - size) (system_of s) at bytes accepted (listed-is ∙ b) h)

      module _ (w : ℕ) (we : w ≡ operands (decode (get_or bytes at 0 ∷ []))) where
        size_is : (command (system_of s) (drop at bytes)).length ≡ 1 + w
        size_is =
            ap (λ (r : Result). r.length) done_is
            ∙ ap (λ n. 1 + n) (taken-width (drop at bytes) c taken.0 ∙ ap (λ b. operands (decode (b ∷ []))) (get_or-drop at bytes 0 0 ∙ ap (λ i. get_or bytes i 0) (add-zero at)) ∙ sym we)

        pub inside-after : at + (1 + w) ≤ length bytes
        inside-after = omega (arith, (command-inside (system_of s) at bytes accepted).1, size_is)

        -- what going on lists before the rest, and the rest
        next : System → ℕ → Halt
        next x n = after g.text (after (cond (to_list list (drop at bytes)) (listing (system_of s)) []) (go_on list (length old - size - length (cond (to_list list (drop at bytes)) (listing (system_of s)) [])) x (at + n) bytes))

        leads-on : (to_list list (drop at bytes) ≡ true → longest_listing ≤ length old - size) → next (perform c (system_of s)) (1 + w) ≡ go_on list (length old) s₀ at₀ bytes
        unfolding next
        leads-on f =
            sym (ap (λ x. next x (command (system_of s) (drop at bytes)).length) (ap (λ (r : Result). r.system) done_is) ∙ ap (next (perform c (system_of s))) size_is)
            ∙ sym (ap (after g.text) (go_after list (length old - size) (system_of s) at bytes accepted f))
            ∙ g.leads

        after-sound : sound (perform c (system_of s)) ≡ true
        after-sound = rw (ap (λ (r : Result). r.system) done_is) at (keeps_sound (system_of s) (drop at bytes) g.is-sound)

        -- done, and nothing listed
        pub further : (list && is_report c) ≡ false → (s' : Layout) (size' : ℕ) (buffer' : List ℕ) → system_of s' ≡ perform c (system_of s) → size' ≡ size → buffer' ≡ buffer
            → Going list bytes old s₀ at₀ s' (at + (1 + w)) size' buffer'
        unfolding next
        further b s' size' buffer' is es eb =
            let none : to_list list (drop at bytes) ≡ false = listed-is ∙ b in
            let left : length old - size - 0 ≡ length old - size = omega arith in
            record {
              is-sound = rw is after-sound;
              text = g.text;
              wrote = rw (es, eb) g.wrote;
              fits = omega (arith, g.fits);
              leads =
                  rw (is, es)
                  (ap (λ n. after g.text (go_on list n (perform c (system_of s)) (at + (1 + w)) bytes)) (sym left) ∙ rw none at (leads-on (λ t. absurd (true≢false (sym t ∙ none)))));
            }

        -- a report, and its listing written after the others
        pub listed : (list && is_report c) ≡ true → longest_listing ≤ length old - size → (n size' : ℕ) (part buffer' : List ℕ) → length (listing (system_of s)) ≤ longest_listing
            → Wrote (listing (system_of s)) (take (length buffer - size) (drop size buffer)) n part → size' ≡ size + n → buffer' ≡ put_mid size (length buffer - size) buffer part → perform c (system_of s) ≡ system_of s
            → Going list bytes old s₀ at₀ s (at + (1 + w)) size' buffer'
        unfolding next
        listed b room n size' part buffer' fit wrote es eb same =
            let some : to_list list (drop at bytes) ≡ true = listed-is ∙ b in
            let left : length old - size' ≡ length old - size - length (listing (system_of s)) = omega (arith, wrote.count) in
            let h : Halt = go_on list (length old - size - length (listing (system_of s))) (system_of s) (at + (1 + w)) bytes in
            record {
              is-sound = g.is-sound;
              text = g.text ++ listing (system_of s);
              wrote = rw (es, eb) (wrote_part g.wrote wrote);
              fits = omega (arith, wrote.count);
              leads =
                  ap (λ n. after (g.text ++ listing (system_of s)) (go_on list n (system_of s) (at + (1 + w)) bytes)) left
                  ∙ (λ i. record {
                    full = h.full;
                    refusal = h.refusal;
                    offset = h.offset;
                    system = h.system;
                    listed = append_assoc g.text (listing (system_of s)) h.listed i;
                  })
                  ∙ rw (some, same) at (leads-on (λ t. room));
            }
