-- A start, a crash, another delay, the loss of messages and another rank leave a sound system.
use mathlib.Core.Path.{◌≡◌, sym, ap, subst, ◌∙◌}
use mathlib.Core.Logic.{◌≢◌}
use mathlib.Core.List.{[]}
use mathlib.Core.Bool.{Bool, true, false, cond, true≢false}
use Prim.Native.Nat.{ℕ, ◌+◌, ◌-◌, ◌<◌, ◌≤◌}
use native.Mathlib.Omega.{arith}
use lib.ListN.{length, get_or, set}
use lib.Dec.{ltb}
use lib.Seq.{get_or-set_same, get_or-set_other}
use borrow.Author.Tests.{lt-ltb}
use Rattle.lists.proofs.Sets.{within-list, set_keeps}
use Rattle.fit.specs.Fit.{longest_delay}
use Rattle.station.specs.Limits.{most_rank}
use Rattle.station.specs.Rules.{crashed}
use Rattle.station.specs.declared.Station.{Station}
use Rattle.station.proofs.Fields.{crashed-up}
use Rattle.fit.proofs.Tests.{ranks-of, of_ranks}
use Rattle.election.specs.Heads.{fits, starting}
use Rattle.election.specs.System.{with_station, with_delay, without_messages, with_rank, no_station, no_link, station, place, from, to, is_link, holding}
use Rattle.election.specs.declared.Link.{Link}
use Rattle.election.specs.declared.System.{System}
use Rattle.election.proofs.Heads.{start-keeps, crash-keeps, starting-slot, fits-ranges}
use Rattle.election.proofs.InitialSound.{empty_linked}
use Rattle.election.proofs.Links.{Posted, Linked}
use Rattle.election.proofs.Places.{In, from_place, to-place, widen, is-link}
use Rattle.election.proofs.Soundness.{Sound}

-- another sender whose send chance is late enough
resent : (clock : Bool) (n period tick : ℕ) (x y : Station) (l : Link) → (y.up ≡ true → tick + period ≤ y.slot) → Linked clock n period tick x l → Linked clock n period tick y l
resent clock n period tick x y l h f =
    record {
      few = f.few;
      held = λ k i.
          (let p : Posted clock n period tick x (get_or l.messages k _) = f.held k i in
          record { sent-by = p.sent-by; due_after = p.due_after; due_by = p.due_by; content = p.content; before = λ u. omega (arith, h u, p.sent-by) });
      rest = f.rest;
      apart = f.apart;
    }

-- another station p
module _ (s : System) (f : Sound s) (p : ℕ) (h : In s.n p) where
  pub station-sound : (x : Station) → fits s.clock p s.n s.period s.tick x ≡ true → (x.up ≡ true → s.tick + s.period ≤ x.slot) → Sound (with_station p x s)
  station-sound x okay slot =
      record {
        n-low = f.n-low;
        n-high = f.n-high;
        period-low = f.period-low;
        period-high = f.period-high;
        tick-high = f.tick-high;
        fits = λ q hq.
            set_keeps (λ y. fits s.clock q s.n s.period s.tick y ≡ true) s.stations (p - 1) (q - 1) x no_station
            (λ e. subst (λ k. fits s.clock k s.n s.period s.tick x ≡ true) (omega (arith, h.low, hq.low)) okay) (f.fits q hq);
        few = f.few;
        no_station_lem = λ k l i. rw (get_or-set_other s.stations (p - 1) k x no_station (λ e. omega (arith, h.low, h.high))) (f.no_station_lem k l i);
        short = f.short;
        linked = λ a b ha hb ne.
            (let l : Link = get_or s.links (place a b) no_link in
            set_keeps (λ y. Linked s.clock s.n s.period s.tick y l) s.stations (p - 1) (a - 1) x no_station
            (λ e. resent s.clock s.n s.period s.tick (station s a) x l slot (f.linked a b ha hb ne)) (f.linked a b ha hb ne));
        no_link_lem = f.no_link_lem;
        ranked = f.ranked;
      }

  pub start-sound : (station s p).incarnation < 4095 → Sound (with_station p (starting s p (station s p)) s)
  start-sound few =
      station-sound (starting s p (station s p))
      (start-keeps p s.n s.period s.tick (station s p) s.clock f.tick-high (f.fits p h) few)
      (λ u. starting-slot p s.n s.period s.tick (station s p) s.clock)

  pub crash-sound : (station s p).up ≡ true → Sound (with_station p (crashed (station s p)) s)
  crash-sound u =
      station-sound (crashed (station s p))
      (crash-keeps p s.n s.period s.tick (station s p) s.clock f.tick-high (f.fits p h) u)
      (λ v. absurd (true≢false (sym v ∙ crashed-up (station s p))))

-- what stands at the link from p to q
module _ (s : System) (f : Sound s) (p q : ℕ) (hp : In s.n p) (hq : In s.n q) (ne : p ≢ q) where
  not_there : (k : ℕ) → is_link s.n (from k) (to k) ≡ false → k ≢ place p q
  not_there k e i =
      let wp : In 8 p = widen s.n p f.n-high hp in
      let wq : In 8 q = widen s.n q f.n-high hq in
      let there : is_link s.n (from (place p q)) (to (place p q)) ≡ true = rw (from_place p q wp wq, to-place p q wp wq) (is-link s.n p q hp hq ne) in
      true≢false (sym there ∙ sym (ap (λ x. is_link s.n (from x) (to x)) i) ∙ e)

  pub delay-sound : (d : ℕ) → d ≤ longest_delay → Sound (with_delay p q d s)
  delay-sound d h =
      record {
        n-low = f.n-low;
        n-high = f.n-high;
        period-low = f.period-low;
        period-high = f.period-high;
        tick-high = f.tick-high;
        fits = f.fits;
        few = f.few;
        no_station_lem = f.no_station_lem;
        short = λ a b ha hb other. set_keeps (λ y. y ≤ longest_delay) s.delays (place p q) (place a b) d 0 (λ e. h) (f.short a b ha hb other);
        linked = f.linked;
        no_link_lem = λ k l e. rw (get_or-set_other s.delays (place p q) k d 0 (not_there k e)) (f.no_link_lem k l e);
        ranked = f.ranked;
      }

  pub lose-sound : Sound (without_messages p q s)
  lose-sound =
      record {
        n-low = f.n-low;
        n-high = f.n-high;
        period-low = f.period-low;
        period-high = f.period-high;
        tick-high = f.tick-high;
        fits = f.fits;
        few = f.few;
        no_station_lem = f.no_station_lem;
        short = f.short;
        linked = λ a b ha hb other.
            set_keeps (λ y. Linked s.clock s.n s.period s.tick (station s a) y) s.links (place p q) (place a b) (holding []) no_link
            (λ e. empty_linked s.clock s.n s.period s.tick (station s a)) (f.linked a b ha hb other);
        no_link_lem = λ k l e. rw (get_or-set_other s.links (place p q) k (holding []) no_link (not_there k e)) (f.no_link_lem k l e);
        ranked = f.ranked;
      }

-- another rank of station p
pub rank-sound : (s : System) → Sound s → s.clock ≡ false → (p r : ℕ) → In s.n p → r ≤ most_rank → Sound (with_rank p r s)
rank-sound s f flash p r h few =
    record {
      n-low = f.n-low;
      n-high = f.n-high;
      period-low = f.period-low;
      period-high = f.period-high;
      tick-high = f.tick-high;
      fits = f.fits;
      few = f.few;
      no_station_lem = f.no_station_lem;
      short = f.short;
      linked = f.linked;
      no_link_lem = f.no_link_lem;
      ranked = rw flash (of_ranks s.n (set s.ranks (p - 1) r)
          (λ k l.
          set_keeps (λ x. x ≤ cond (ltb k s.n) most_rank 0) s.ranks (p - 1) k r 0
          (λ e. rw (lt-ltb k s.n (omega (arith, h.low, h.high))) few) (ranks-of s.n s.ranks (rw flash at f.ranked) k l)));
    }

-- a station of the system stands in its list
pub in_stations : (s : System) → Sound s → (p : ℕ) → In s.n p → p - 1 < length s.stations
in_stations s f p ip =
    within-list (λ (x : Station). 1 ≤ x.stable) s.stations (p - 1) no_station (λ h. omega arith) (fits-ranges p s.n s.period s.tick (station s p) s.clock (f.fits p ip)).1

-- station p changed to x
module _ (s : System) (f : Sound s) (p : ℕ) (ip : In s.n p) (x : Station) where
  pub changed_same : station (with_station p x s) p ≡ x
  changed_same = get_or-set_same s.stations (p - 1) x no_station (in_stations s f p ip)

  pub changed_other : (r : ℕ) → 1 ≤ r → r ≢ p → station (with_station p x s) r ≡ station s r
  changed_other r low ne = get_or-set_other s.stations (p - 1) (r - 1) x no_station (λ e. ne (let g : r ≡ p = omega (arith, ip.low) in g))
