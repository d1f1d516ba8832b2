-- The paper's order of a tick leaves the links that the definition by link has: one place is followed through the tick.
use mathlib.Core.Path.{◌≡◌, refl, sym, ap, ◌∙◌}
use mathlib.Core.Logic.{◌≢◌}
use mathlib.Core.List.{List, [], ◌∷◌, ◌++◌, map, append-nil}
use mathlib.Core.Bool.{Bool, true, false, cond, not, ◌&&◌}
use Prim.Native.Nat.{ℕ, ◌+◌, ◌-◌, ◌/◌, ◌%◌, ◌<◌, ◌≤◌}
use native.Mathlib.Omega.{arith}
use lib.ListN.{length, get_or, length-map, get_or-map}
use lib.Seq.{get_or-set_same, get_or-set_other, ext_get_or}
use lib.Dec.{ltb, eqb}
use Rattle.lists.specs.Entries.{up_to}
use Rattle.lists.proofs.Bools.{cond_elim, three}
use Rattle.lists.proofs.Entries.{length-up_to, get_d_up_to, up_to-same}
use Rattle.lists.proofs.Fold.{each_keeps}
use Rattle.station.specs.declared.Station.{Station}
use Rattle.election.specs.Order.{Mail, Desk, desk_of, mail_of, due_now, one_less, delivery, delivered, delivered_all, timer_ends, sent_to, sent_to_all, sends_now, chance, after_deliveries, after_timers, after_chances, laid, PaperLinks, PaperMail}
use Rattle.election.specs.System.{no_link, place, from, to, delay, messages, holding, underway, is_link}
use Rattle.election.specs.Tick.{next, announced, settled, sending, later, sent, underway_after, link_next, tick}
use Rattle.election.specs.declared.Message.{Message}
use Rattle.election.specs.declared.System.{System}
use Rattle.election.proofs.Order.{seen_one, set_if_same, set_if_other, length-set_if, Whole, whole-first, whole-delivered, delivered-ascending, link_deliveries, received, deliveries-each, link-keeps, received-keeps, whole-received, seat, seat_of, whole-chances, Turn, turn_first, turn_next}
use Rattle.election.proofs.Places.{messages-held}
use Rattle.election.proofs.Soundness.{Sound, sound-of, underway-nowhere, place_of}

-- what is left when, for each of some messages, one that is due now has gone
unfoldable gone : ℕ → List Message → List Message → List Message
gone now [] l = l
gone now (m ∷ ms) l = gone now ms (one_less now l)

-- a message that is not due stays in front
gone-stays : (now : ℕ) (m : Message) → eqb m.due now ≡ false → (ms l : List Message) → gone now ms (m ∷ l) ≡ m ∷ gone now ms l
unfolding gone one_less
gone-stays now m e [] l = refl
gone-stays now m e (x ∷ ms) l = rw e (gone-stays now m e ms (one_less now l))

-- when all that are due have gone, the later ones are left
gone-later : (now : ℕ) (ms : List Message) → gone now (due_now now ms) ms ≡ later now ms
unfolding gone due_now one_less later
gone-later now [] = refl
gone-later now (m ∷ ms) = go (eqb m.due now) refl (gone-later now ms)
  where
    go : (b : Bool) → eqb m.due now ≡ b → gone now (due_now now ms) ms ≡ later now ms
        → gone now (cond b (m ∷ due_now now ms) (due_now now ms)) (m ∷ ms) ≡ cond b (later now ms) (m ∷ later now ms)
    go true e r = ap (λ b. gone now (due_now now ms) (cond b ms (m ∷ one_less now ms))) e ∙ r
    go false e r = gone-stays now m e (due_now now ms) ms ∙ ap (λ (l : List Message). m ∷ l) r

-- what is put behind, under the tests of (c)
behind : (a b c t e : Bool) (l : List Message) (m : Message)
    → cond a (cond t (cond b (cond (not c) (l ++ cond e [] (m ∷ [])) l) l) l) l ≡ l ++ cond (a && b && not c) (cond (t && not e) (m ∷ []) []) []
behind false b c t e l m = sym (append-nil l)
behind true false c true e l m = sym (append-nil l)
behind true false c false e l m = sym (append-nil l)
behind true true true true e l m = sym (append-nil l)
behind true true true false e l m = sym (append-nil l)
behind true true false true true l m = refl
behind true true false true false l m = refl
behind true true false false e l m = sym (append-nil l)

-- the place of the link from j + 1 to i + 1
module _ (s : System) (n-high : s.n ≤ 8) (room : s.n ≤ length s.stations) (long : length s.links ≡ 64) (j i : ℕ) (j-low : j < 8) (i-low : i < 8) where
  abbrev mail_at : Desk → List Message
  mail_at d = mail_of d.mail (j + 1) (i + 1)

  abbrev first : List Message
  first = underway s (j + 1) (i + 1)

  -- (a)
  gone-other : (p q : ℕ) (m : Message) (d : Desk) → place q p ≢ place (j + 1) (i + 1) → mail_at (delivered s (delivery p q m) d) ≡ mail_at d
  unfolding delivered
  gone-other p q m d ne = get_or-set_other d.mail (place q p) (place (j + 1) (i + 1)) _ [] (λ e. ne (sym e))

  gone-link : (ms : List Message) (d : Desk) → Whole s d → mail_at (delivered_all s (map (delivery (i + 1) (j + 1)) ms) d) ≡ gone (next s) ms (mail_at d)
  unfolding delivered_all delivered gone
  gone-link [] d w = refl
  gone-link (m ∷ ms) d w =
      gone-link ms (delivered s (delivery (i + 1) (j + 1) m) d) (whole-delivered s (delivery (i + 1) (j + 1) m) d w)
      ∙ ap (gone (next s) ms) (get_or-set_same d.mail (place (j + 1) (i + 1)) _ [] (omega (arith, w.places)))

  gone-received : (d : Desk) → Whole s d → mail_at (received s (i + 1) d) ≡ cond (ltb j s.n) (gone (next s) (due_now (next s) first) (mail_at d)) (mail_at d)
  gone-received d w =
      ap mail_at (delivered-ascending s s.n (link_deliveries s (i + 1)) d)
      ∙ (seen_one mail_at (λ k. Whole s) j (λ k. delivered_all s (link_deliveries s (i + 1) (k + 1))) (gone (next s) (due_now (next s) first)) s.n d
      (λ l. gone-link (due_now (next s) first))
      (λ k r l ne w. link-keeps s (λ e. mail_at e ≡ mail_at r) (i + 1) (k + 1) (λ m e h. gone-other (i + 1) (k + 1) m e (λ x. ne (omega arith)) ∙ h) (due_now (next s) (underway s (k + 1) (i + 1))) r refl)
      (λ k r l. link-keeps s (Whole s) (i + 1) (k + 1) (λ m. whole-delivered s (delivery (i + 1) (k + 1) m)) (due_now (next s) (underway s (k + 1) (i + 1))) r) w).0

  mail-first : mail_at (desk_of s) ≡ first
  unfolding messages
  mail-first = get_or-map messages s.links (place (j + 1) (i + 1)) no_link

  abbrev left : List Message
  left = cond (ltb i s.n) (cond (ltb j s.n) (later (next s) first) first) first

  deliveries-mail : mail_at (after_deliveries s) ≡ left
  deliveries-mail =
      ap mail_at (deliveries-each s)
      ∙ (seen_one mail_at (λ k. Whole s) i (λ k. received s (k + 1)) (λ l. cond (ltb j s.n) (gone (next s) (due_now (next s) first) l) l) s.n (desk_of s)
      (λ l. gone-received)
      (λ k r l ne w. received-keeps s (λ e. mail_at e ≡ mail_at r) (k + 1) (λ q m e h. gone-other (k + 1) q m e (λ x. ne (omega arith)) ∙ h) r refl)
      (λ k r l. whole-received s (k + 1) r) (whole-first s)).0
      ∙ rw (mail-first, gone-later (next s) first)

  -- (b)
  timers_mail : mail_at (after_timers s) ≡ left
  unfolding after_timers timer_ends
  timers_mail = each_keeps (λ d. mail_at d ≡ left) s.n _ (after_deliveries s) (λ k r l e. e) deliveries-mail

  -- (c)
  abbrev posted : Station → List Message → List Message
  posted x l =
      cond (not (eqb (j + 1) (i + 1)))
      (l ++ cond (eqb (delay s (j + 1) (i + 1)) 0) [] (announced (next s) (next s + delay s (j + 1) (i + 1)) x ∷ [])) l

  posted_own : (x : Station) (mail : Mail) → length mail ≡ length s.links
      → mail_of (sent_to_all s (j + 1) x mail) (j + 1) (i + 1) ≡ cond (ltb i s.n) (posted x (mail_of mail (j + 1) (i + 1))) (mail_of mail (j + 1) (i + 1))
  unfolding sent_to_all sent_to
  posted_own x mail e =
      (seen_one (λ r. mail_of r (j + 1) (i + 1)) (λ k r. length r ≡ length s.links) i
      (λ k r. cond (not (eqb (j + 1) (k + 1))) (sent_to s (j + 1) x (k + 1) r) r) (posted x) s.n mail
      (λ l r h. set_if_same (not (eqb (j + 1) (i + 1))) r (place (j + 1) (i + 1)) _ [] (omega arith))
      (λ k r l ne h. set_if_other (not (eqb (j + 1) (k + 1))) r (place (j + 1) (k + 1)) _ [] (place (j + 1) (i + 1)) (λ x. ne (omega arith)))
      (λ k r l h. rw length-set_if h) e).0

  posted_other : (p : ℕ) (x : Station) (mail : Mail) → p ≢ j → mail_of (sent_to_all s (p + 1) x mail) (j + 1) (i + 1) ≡ mail_of mail (j + 1) (i + 1)
  unfolding sent_to_all sent_to
  posted_other p x mail ne =
      each_keeps (λ r. mail_of r (j + 1) (i + 1) ≡ mail_of mail (j + 1) (i + 1)) s.n _ mail
      (λ k r l h. set_if_other (not (eqb (p + 1) (k + 1))) r (place (p + 1) (k + 1)) _ [] (place (j + 1) (i + 1)) (λ x. ne (omega arith)) ∙ h) refl

  abbrev posting : List Message → List Message
  posting l = cond (sending s (j + 1)) (cond (ltb i s.n) (posted (settled s (j + 1)) l) l) l

  chance-own : j < s.n → (d : Desk) → Turn s j d → mail_at (chance s (j + 1) d) ≡ posting (mail_at d)
  unfolding chance sending
  chance-own l d t =
      ap (λ x. mail_of (cond (sends_now s (j + 1) x) (sent_to_all s (j + 1) x d.mail) d.mail) (j + 1) (i + 1)) (t.waiting j (omega arith) l)
      ∙ go (sends_now s (j + 1) (settled s (j + 1)))
    where
      go : (b : Bool) → mail_of (cond b (sent_to_all s (j + 1) (settled s (j + 1)) d.mail) d.mail) (j + 1) (i + 1)
          ≡ cond b (cond (ltb i s.n) (posted (settled s (j + 1)) (mail_at d)) (mail_at d)) (mail_at d)
      go true = posted_own (settled s (j + 1)) d.mail t.whole.places
      go false = refl

  chance-other : (p : ℕ) (d : Desk) → p ≢ j → mail_at (chance s (p + 1) d) ≡ mail_at d
  unfolding chance
  chance-other p d ne =
      cond_elim (λ (r : Mail). mail_of r (j + 1) (i + 1) ≡ mail_at d) (sends_now s (p + 1) (seat_of p d)) (λ e. posted_other p (seat_of p d) d.mail ne) (λ e. refl)

  -- the place after the tick
  pub mail-at : mail_at (after_chances s) ≡ left ++ cond (is_link s.n (j + 1) (i + 1)) (sent s (j + 1) (i + 1)) []
  unfolding after_chances sent
  mail-at =
      (seen_one mail_at (Turn s) j (λ k. chance s (k + 1)) posting s.n (after_timers s) chance-own (λ k r l ne t. chance-other k r ne)
      (λ k r l. turn_next s room k r) (turn_first s room)).0
      ∙ ap (λ l. cond (ltb j s.n) (posting l) l) timers_mail
      ∙ behind (ltb j s.n) (ltb i s.n) (eqb (j + 1) (i + 1)) (sending s (j + 1)) (eqb (delay s (j + 1) (i + 1)) 0) left _
      ∙ rw (seat j, seat i)

  pub mail-link : is_link s.n (j + 1) (i + 1) ≡ true → mail_at (after_chances s) ≡ underway_after s (j + 1) (i + 1)
  mail-link e =
      let (a, b, c) = three (ltb (j + 1 - 1) s.n) (ltb (i + 1 - 1) s.n) (not (eqb (j + 1) (i + 1))) e in
      mail-at ∙ rw (e, rw seat at a, rw seat at b)

  pub mail-elsewhere : is_link s.n (j + 1) (i + 1) ≡ false → first ≡ [] → mail_at (after_chances s) ≡ []
  unfolding later
  mail-elsewhere e none = mail-at ∙ rw (e, none) (go (ltb i s.n) (ltb j s.n))
    where
      go : (a b : Bool) → ◌≡◌ {A = List Message} (cond a (cond b [] []) [] ++ []) []
      go true true = refl
      go true false = refl
      go false b = refl

pub paper_links : PaperLinks
unfolding tick laid
paper_links s n-high long full = up_to-same 64 _ (link_next s) (λ k h. at k h (is_link s.n (from k) (to k)) refl)
  where
    at : (k : ℕ) → k < 64 → (b : Bool) → is_link s.n (from k) (to k) ≡ b
        → cond b (holding (get_or (after_chances s).mail k [])) (get_or s.links k no_link) ≡ cond b (holding (underway_after s (from k) (to k))) (get_or s.links k no_link)
    at k h true e =
        ap holding (ap (λ x. get_or (after_chances s).mail x []) (sym (place_of k h)) ∙ mail-link s n-high (omega arith) full (k / 8) (k % 8) (omega arith) (omega arith) e)
    at k h false e = refl

pub paper_mail : PaperMail
unfolding tick messages
paper_mail s e u long full =
    let f : Sound s = sound-of s e u in
    let l : length (after_chances s).mail ≡ 64 = (whole-chances s).places ∙ full in
    ext_get_or [] (after_chances s).mail (map messages (tick s).links) (l ∙ sym (length-map (tick s).links messages ∙ length-up_to 64 (link_next s)))
    (λ k h.
    ap (λ x. get_or (after_chances s).mail x []) (sym (place_of k (omega arith)))
    ∙ at f k (omega arith) (is_link s.n (from k) (to k)) refl
    ∙ ap messages (sym (get_d_up_to 64 (link_next s) k no_link (omega arith)))
    ∙ sym (get_or-map messages (up_to 64 (link_next s)) k no_link))
  where
    at : Sound s → (k : ℕ) → k < 64 → (b : Bool) → is_link s.n (from k) (to k) ≡ b
        → mail_of (after_chances s).mail (from k) (to k) ≡ messages (cond b (holding (underway_after s (from k) (to k))) (get_or s.links k no_link))
    at f k h true e = mail-link s f.n-high (omega (arith, f.n-high)) full (k / 8) (k % 8) (omega arith) (omega arith) e ∙ sym (messages-held (underway_after s (from k) (to k)))
    at f k h false e =
        let none : messages (get_or s.links k no_link) ≡ [] = underway-nowhere s f k h e in
        mail-elsewhere s f.n-high (omega (arith, f.n-high)) full (k / 8) (k % 8) (omega arith) (omega arith) e
        (ap (λ x. messages (get_or s.links x no_link)) (place_of k h) ∙ none)
        ∙ sym none
