-- What soundness says of a system that is set up, station by station and link by link, both ways.
use mathlib.Core.Path.{◌≡◌, refl, sym, ap, subst, ◌∙◌}
use mathlib.Core.Logic.{◌≢◌}
use mathlib.Core.List.{[]}
use mathlib.Core.Bool.{Bool, true, false, not, ◌&&◌}
use Prim.Native.Nat.{ℕ, ◌+◌, ◌-◌, ◌*◌, ◌<◌, ◌≤◌}
use native.Mathlib.Decide.{dec_lt}
use native.Mathlib.Omega.{arith}
use lib.ListN.{get_or, take}
use lib.Dec.{leb, ltb, eqb}
use borrow.Author.Tests.{ltb-true, leb-true, eqb-true, eqb-false, lt-ltb, le-ltb, le-leb, eq-eqb, not-true}
use Rattle.lists.specs.Test.{all_to}
use Rattle.lists.proofs.Bools.{both, three, six}
use Rattle.lists.proofs.Test.{all_at, all_of}
use Rattle.fit.specs.Fit.{within, ranks_in, longest_delay}
use Rattle.station.specs.Limits.{last_tick}
use Rattle.fit.proofs.Tests.{within_of, of_within}
use Rattle.election.specs.Heads.{fits as fits_of, ranked_of}
use Rattle.election.specs.System.{no_station, no_link, station, place, from, to, delay, sent_by, messages, underway, is_link}
use Rattle.election.specs.Sound.{link_in, empty_places, empty_place, empty_seat, place_in, station_in, sound}
use Rattle.election.specs.declared.Link.{Link}
use Rattle.election.specs.declared.System.{System}
use Rattle.election.proofs.Links.{Posted, Linked, linked_of, of_linked, linked_spaced}
use Rattle.election.proofs.Places.{In, seat_in, place-in, from_place, to-place, widen, is-link}
use Rattle.election.proofs.Spaced.{Spaced}

pub record Sound (s : System) : Type 0 where
  pub n-low : 2 ≤ s.n
  pub n-high : s.n ≤ 8
  pub period-low : 16 ≤ s.period
  pub period-high : s.period ≤ 255
  pub tick-high : s.tick ≤ 1000000
  pub fits : (p : ℕ) → In s.n p → fits_of s.clock p s.n s.period s.tick (station s p) ≡ true
  pub few : (p : ℕ) → In s.n p → sent_by s p ≤ 7 * s.tick
  pub no_station_lem : (k : ℕ) → s.n ≤ k → k < 8 → empty_seat (get_or s.stations k no_station) (get_or s.sent k 0) ≡ true
  pub short : (p q : ℕ) → In s.n p → In s.n q → p ≢ q → delay s p q ≤ longest_delay
  pub linked : (p q : ℕ) → In s.n p → In s.n q → p ≢ q → Linked s.clock s.n s.period s.tick (station s p) (get_or s.links (place p q) no_link)
  pub no_link_lem : (k : ℕ) → k < 64 → is_link s.n (from k) (to k) ≡ false → empty_place (get_or s.delays k 0) (get_or s.links k no_link) ≡ true
  pub ranked : ranks_in (ranked_of s.clock s.n) s.ranks ≡ true

-- which places are links
module _ (n p q : ℕ) (hp : 1 ≤ p) (hq : 1 ≤ q) where
  pub link-of : is_link n p q ≡ true → In n p × In n q × (p ≢ q)
  link-of e =
      let (a, b, c) = three (ltb (p - 1) n) (ltb (q - 1) n) (not (eqb p q)) e in
      let x : p - 1 < n = ltb-true (p - 1) n a in
      let y : q - 1 < n = ltb-true (q - 1) n b in
      (record { low = hp; high = omega arith }, record { low = hq; high = omega arith }, eqb-false p q (not-true (eqb p q) c))

pub no_self : (n p : ℕ) → is_link n p p ≡ false
no_self n p = rw (eq-eqb p p refl) (none (ltb (p - 1) n) (ltb (p - 1) n))
  where
    none : (a b : Bool) → (a && b && false) ≡ false
    none true true = refl
    none true false = refl
    none false b = refl

pub place_of : (k : ℕ) → k < 64 → place (from k) (to k) ≡ k
place_of k h = omega arith

module _ (s : System) where
  station-at : (p : ℕ) → In s.n p → station_in s (p - 1) ≡ (fits_of s.clock p s.n s.period s.tick (station s p) && leb (sent_by s p) (7 * s.tick))
  unfolding station_in
  station-at p h = let e : p - 1 + 1 ≡ p = omega (arith, h.low) in rw (lt-ltb (p - 1) s.n (omega (arith, h.low, h.high)), e)

  place_at : s.n ≤ 8 → (p q : ℕ) → In s.n p → In s.n q → p ≢ q → place_in s (place p q) ≡ (leb (delay s p q) longest_delay && link_in s.clock s.n s.period s.tick (station s p) (get_or s.links (place p q) no_link))
  unfolding place_in
  place_at h p q hp hq ne =
      let wp : In 8 p = widen s.n p h hp in
      let wq : In 8 q = widen s.n q h hq in
      rw (from_place p q wp wq, to-place p q wp wq, is-link s.n p q hp hq ne)

  -- a system that is set up: every clause holds
  pub clauses : s.ready ≡ true → sound s ≡ (within 2 s.n 8 && within 16 s.period 255 && leb s.tick last_tick && all_to 8 (station_in s) && all_to 64 (place_in s) && ranks_in (ranked_of s.clock s.n) s.ranks)
  unfolding sound
  clauses u = rw u

  seat_holds : all_to 8 (station_in s) ≡ true → s.n ≤ 8 → (p : ℕ) → In s.n p
      → (fits_of s.clock p s.n s.period s.tick (station s p) ≡ true) × (leb (sent_by s p) (7 * s.tick) ≡ true)
  seat_holds e h p i =
      both (fits_of s.clock p s.n s.period s.tick (station s p)) (leb (sent_by s p) (7 * s.tick))
      (sym (station-at p i) ∙ all_at 8 (p - 1) (station_in s) e (omega (arith, i.low, i.high)))

  link-holds : all_to 64 (place_in s) ≡ true → s.n ≤ 8 → (p q : ℕ) → In s.n p → In s.n q → p ≢ q
      → (leb (delay s p q) longest_delay ≡ true) × (link_in s.clock s.n s.period s.tick (station s p) (get_or s.links (place p q) no_link) ≡ true)
  link-holds e h p q hp hq ne =
      both (leb (delay s p q) longest_delay) (link_in s.clock s.n s.period s.tick (station s p) (get_or s.links (place p q) no_link))
      (sym (place_at h p q hp hq ne) ∙ all_at 64 (place p q) (place_in s) e (place-in p q (widen s.n p h hp) (widen s.n q h hq)))

  pub sound-of : sound s ≡ true → s.ready ≡ true → Sound s
  unfolding station_in place_in empty_seat empty_place
  sound-of e u =
      let (n, period, tick, stations, places, ranks) = six (within 2 s.n 8) (within 16 s.period 255) (leb s.tick last_tick) (all_to 8 (station_in s)) (all_to 64 (place_in s)) (ranks_in (ranked_of s.clock s.n) s.ranks) (sym (clauses u) ∙ e) in
      let (n-low, n-high) = within_of 2 s.n 8 n in
      let (p-low, p-high) = within_of 16 s.period 255 period in
      record {
        n-low = n-low;
        n-high = n-high;
        period-low = p-low;
        period-high = p-high;
        tick-high = leb-true s.tick last_tick tick;
        fits = λ p h. (seat_holds stations n-high p h).0;
        few = λ p h. leb-true (sent_by s p) (7 * s.tick) (seat_holds stations n-high p h).1;
        no_station_lem = λ k l h. rw (le-ltb k s.n l) at (all_at 8 k (station_in s) stations h);
        short = λ p q hp hq ne. leb-true (delay s p q) longest_delay (link-holds places n-high p q hp hq ne).0;
        linked = λ p q hp hq ne. linked_of s.clock s.n s.period s.tick (station s p) (get_or s.links (place p q) no_link) (link-holds places n-high p q hp hq ne).1;
        no_link_lem = λ k h l. rw l at (all_at 64 k (place_in s) places h);
        ranked = ranks;
      }

  pub of_sound : Sound s → s.ready ≡ true → sound s ≡ true
  unfolding station_in place_in empty_seat empty_place
  of_sound f u =
      clauses u
      ∙ rw (of_within 2 s.n 8 f.n-low f.n-high, of_within 16 s.period 255 f.period-low f.period-high, le-leb s.tick last_tick f.tick-high, all_of 8 (station_in s) (λ k h. seat k h (dec_lt k s.n)), all_of 64 (place_in s) (λ k h. at k h (is_link s.n (from k) (to k)) refl), f.ranked)
    where
      seat : (k : ℕ) → k < 8 → Dec (k < s.n) → station_in s k ≡ true
      seat k h (yes i) =
          let e : k + 1 - 1 ≡ k = omega arith in
          let j : In s.n (k + 1) = seat_in s.n k i in
          subst (λ x. station_in s x ≡ true) e (station-at (k + 1) j ∙ rw (f.fits (k + 1) j, le-leb (sent_by s (k + 1)) (7 * s.tick) (f.few (k + 1) j)))
      seat k h (no i) = rw (le-ltb k s.n (omega arith)) (f.no_station_lem k (omega arith) h)

      at : (k : ℕ) → k < 64 → (b : Bool) → is_link s.n (from k) (to k) ≡ b → place_in s k ≡ true
      at k h true e =
          let (hp, hq, ne) = link-of s.n (from k) (to k) (omega arith) (omega arith) e in
          subst (λ x. place_in s x ≡ true) (place_of k h)
          (place_at f.n-high (from k) (to k) hp hq ne
          ∙ rw (le-leb (delay s (from k) (to k)) longest_delay (f.short (from k) (to k) hp hq ne), of_linked s.clock s.n s.period s.tick (station s (from k)) (get_or s.links (place (from k) (to k)) no_link) (f.linked (from k) (to k) hp hq ne)))
      at k h false e = rw e (f.no_link_lem k h e)

-- what is under way on a link, and that nothing is where there is no link, as from a station to itself
module _ (s : System) (f : Sound s) where
  pub underway-spaced : (p q : ℕ) → In s.n p → In s.n q → p ≢ q → Spaced (Posted s.clock s.n s.period s.tick (station s p)) s.period 0 (underway s p q)
  underway-spaced p q hp hq ne =
      linked_spaced s.clock s.n s.period s.tick (station s p) (get_or s.links (place p q) no_link) (f.linked p q hp hq ne)

  pub underway-nowhere : (k : ℕ) → k < 64 → is_link s.n (from k) (to k) ≡ false → messages (get_or s.links k no_link) ≡ []
  unfolding empty_place messages
  underway-nowhere k h none =
      let l : Link = get_or s.links k no_link in
      let (a, b, c) = three (eqb (get_or s.delays k 0) 0) (eqb l.used 0) (empty_places l) (f.no_link_lem k h none) in
      ap (λ u. take u l.messages) (eqb-true l.used 0 b)

  pub underway-self : (p : ℕ) → In s.n p → underway s p p ≡ []
  underway-self p h =
      let w : In 8 p = widen s.n p f.n-high h in
      underway-nowhere (place p p) (place-in p p w w) (rw (from_place p p w w, to-place p p w w) (no_self s.n p))
