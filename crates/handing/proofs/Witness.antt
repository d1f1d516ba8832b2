-- A system made around one station: the others are down and never started, and messages are under way to it alone. It is sound.
use mathlib.Core.Path.{◌≡◌, refl, sym, ap, ◌∙◌}
use mathlib.Core.Logic.{◌≢◌}
use mathlib.Core.List.{List, []}
use mathlib.Core.Bool.{Bool, true, false, cond}
use Prim.Native.Nat.{ℕ, ◌+◌, ◌-◌, ◌<◌, ◌≤◌}
use native.Mathlib.Decide.{ℕ_discrete}
use native.Mathlib.Omega.{arith}
use lib.ListN.{length, get_or, replicate, length-replicate, get_or-replicate}
use lib.Dec.{ltb, eqb}
use borrow.Author.Tests.{lt-ltb, le-ltb, eq-eqb, ne_eqb}
use Rattle.lists.specs.Entries.{up_to}
use Rattle.lists.proofs.Entries.{length-up_to, length_over, get_d_up_to}
use Rattle.lists.proofs.Bools.{cond_elim}
use Rattle.fit.specs.Fit.{ranks_in, longest_delay}
use Rattle.station.specs.declared.Station.{Station}
use Rattle.fit.proofs.Tests.{Ranges, of_ranks}
use Rattle.station.proofs.Vectors.{zeros-at}
use Rattle.handing.specs.Handed.{Holds, Finds, Runs, Full, ByFull}
use Rattle.election.specs.Heads.{fits, ranked_of}
use Rattle.election.specs.Sound.{empty_place, empty_seat, sound}
use Rattle.election.specs.System.{no_station, no_link, station, place, from, to, delay, messages, holding, underway, unused, is_link, unstarted, places}
use Rattle.election.specs.declared.Message.{Message}
use Rattle.election.specs.declared.System.{System}
use Rattle.handing.proofs.Carries.{Inbox, no_mail, no_mail_lem}
use Rattle.election.proofs.Heads.{fits-ranges, unstarted-fits}
use Rattle.election.proofs.InitialSound.{empty_linked, empty_place_lem, empty_seat_lem}
use Rattle.election.proofs.Links.{Linked, holding-linked}
use Rattle.election.proofs.Places.{In, place-in, widen, at-link, messages-held}
use Rattle.election.proofs.Soundness.{of_sound}

-- station p
abbrev stood : ℕ → ℕ → Station → ℕ → Station
stood me n x p = cond (eqb p me) x (unstarted (cond (ltb (p - 1) n) p 0))

-- the messages from p to q
abbrev mailed : ℕ → (ℕ → List Message) → ℕ → ℕ → List Message
mailed me mail p q = cond (eqb q me) (mail p) []

abbrev pub around : (clock : Bool) (ranks : List ℕ) (me n period tick : ℕ) (x : Station) (mail : ℕ → List Message) → System
around clock ranks me n period tick x mail =
    record {
      ready = true;
      n = n;
      period = period;
      tick = tick;
      stations = up_to 8 (λ k. stood me n x (k + 1));
      sent = replicate 8 0;
      delays = replicate 64 0;
      links = up_to 64 (λ k. holding (mailed me mail (from k) (to k)));
      ranks = ranks;
      clock = clock;
    }

-- a link that holds messages has all its places
length-holding : (ms : List Message) → length ms ≤ places → length (holding ms).messages ≡ places
unfolding holding
length-holding ms few = let e : length (replicate places unused) ≡ places = length-replicate places unused in length_over ms (replicate places unused) (omega arith) ∙ e

module _ (clock : Bool) (ranks : List ℕ) (me n period tick : ℕ) (x : Station) (mail : ℕ → List Message) where
  around_at : (p : ℕ) → In 8 p → station (around clock ranks me n period tick x mail) p ≡ stood me n x p
  around_at p h =
      let e : p - 1 + 1 ≡ p = omega (arith, h.low) in
      get_d_up_to 8 (λ k. stood me n x (k + 1)) (p - 1) no_station (omega (arith, h.low, h.high)) ∙ ap (stood me n x) e

  pub around_station : In 8 me → station (around clock ranks me n period tick x mail) me ≡ x
  around_station h = around_at me h ∙ rw (eq-eqb me me refl)

  around_down : (p : ℕ) → In 8 p → p ≢ me → (station (around clock ranks me n period tick x mail) p).up ≡ false
  around_down p h ne = ap (λ y. y.up) (around_at p h) ∙ rw (ne_eqb p me ne)

  pub around_underway : (p : ℕ) → In 8 p → In 8 me → underway (around clock ranks me n period tick x mail) p me ≡ mail p
  around_underway p hp hm =
      ap messages (at-link (λ a b. holding (mailed me mail a b)) p me no_link hp hm ∙ rw (eq-eqb me me refl)) ∙ messages-held (mail p)

  -- its tables are full, if the ranks are and no sender has more messages than a link has places
  pub around_full : length ranks ≡ 8 → ((p : ℕ) → length (mail p) ≤ places) → Full (around clock ranks me n period tick x mail)
  around_full eight few =
      record {
        stations = length-up_to 8 (λ k. stood me n x (k + 1));
        sent = length-replicate {A = ℕ} 8 0;
        delays = length-replicate {A = ℕ} 64 0;
        links = length-up_to 64 (λ k. holding (mailed me mail (from k) (to k)));
        ranks = eight;
        each-link = λ k h. ap (λ l. length l.messages) (get_d_up_to 64 (λ k. holding (mailed me mail (from k) (to k))) k no_link h) ∙ length-holding (mailed me mail (from k) (to k)) (some (from k) (to k));
      }
    where
      some : (p q : ℕ) → length (mailed me mail p q) ≤ places
      some p q = cond_elim (λ ms. length ms ≤ places) (eqb q me) (λ e. few p) (λ e. omega arith)

-- the station itself is one of eight
pub inside-eight : (me n period : ℕ) → Ranges me n period → In 8 me
inside-eight me n period r = record { low = r.me_low; high = omega (arith, r.me_high, r.n-high) }

module _ (clock : Bool) (ranks : List ℕ) (me n period tick : ℕ) (x : Station) (mail : ℕ → List Message) (ranked : ranks_in (ranked_of clock n) ranks ≡ true) (f : fits clock me n period tick x ≡ true) where
  abbrev given : Ranges me n period
  given = (fits-ranges me n period tick x clock f).0

  abbrev made : System
  made = around clock ranks me n period tick x mail

  wide : (p : ℕ) → In n p → In 8 p
  wide p h = widen n p given.n-high h

  -- each station fits, and there is none beyond n
  made-fits : (p : ℕ) → In n p → fits clock p n period tick (station made p) ≡ true
  made-fits p h = rw (around_at clock ranks me n period tick x mail p (wide p h)) (go (ℕ_discrete p me))
    where
      go : Dec (p ≡ me) → fits clock p n period tick (stood me n x p) ≡ true
      go (yes e) = rw (eq-eqb p me e, e) f
      go (no e) =
          rw (ne_eqb p me e, lt-ltb (p - 1) n (omega (arith, h.low, h.high)))
          (unstarted-fits clock p n period tick
          (record { n-low = given.n-low; n-high = given.n-high; period-low = given.period-low; period-high = given.period-high; me_low = h.low; me_high = h.high }))

  made-seat : (k : ℕ) → n ≤ k → k < 8 → empty_seat (get_or made.stations k no_station) (get_or made.sent k 0) ≡ true
  made-seat k l h =
      rw (get_d_up_to 8 (λ k. stood me n x (k + 1)) k no_station h, ne_eqb (k + 1) me (λ e. omega (arith, given.me_high)), le-ltb (k + 1 - 1) n (omega arith), zeros-at k) empty_seat_lem

  made-short : (p q : ℕ) → In n p → In n q → p ≢ q → delay made p q ≤ longest_delay
  made-short p q hp hq ne = omega (arith, get_or-replicate {A = ℕ} 64 (place p q) 0 0 (place-in p q (wide p hp) (wide q hq)))

  module _ (m : Inbox clock me n period tick mail) where
    made-linked : (p q : ℕ) → In n p → In n q → p ≢ q → Linked clock n period tick (station made p) (get_or made.links (place p q) no_link)
    made-linked p q hp hq ne = rw (at-link (λ a b. holding (mailed me mail a b)) p q no_link (wide p hp) (wide q hq)) (go (ℕ_discrete q me))
      where
        go : Dec (q ≡ me) → Linked clock n period tick (station made p) (holding (mailed me mail p q))
        go (yes e) =
            rw (eq-eqb q me e)
            (holding-linked clock n period tick (station made p) (mail p) (m.carried p).few ((m.carried p).spaced (station made p) (around_down clock ranks me n period tick x mail p (wide p hp) (λ i. ne (i ∙ sym e)))))
        go (no e) = rw (ne_eqb q me e) (empty_linked clock n period tick (station made p))

    unmailed : (p q : ℕ) → is_link n p q ≡ false → mailed me mail p q ≡ []
    unmailed p q l = go (ℕ_discrete q me)
      where
        go : Dec (q ≡ me) → mailed me mail p q ≡ []
        go (yes e) = rw (eq-eqb q me e) (m.unlinked p (ap (is_link n p) (sym e) ∙ l))
        go (no e) = rw (ne_eqb q me e)

    made-place : (k : ℕ) → k < 64 → is_link n (from k) (to k) ≡ false → empty_place (get_or made.delays k 0) (get_or made.links k no_link) ≡ true
    made-place k h e =
        rw (get_or-replicate {A = ℕ} 64 k 0 0 h, get_d_up_to 64 (λ k. holding (mailed me mail (from k) (to k))) k no_link h, unmailed (from k) (to k) e) empty_place_lem

    pub around_sound : tick ≤ 1000000 → sound made ≡ true
    around_sound h =
        of_sound made
        (record {
          n-low = given.n-low;
          n-high = given.n-high;
          period-low = given.period-low;
          period-high = given.period-high;
          tick-high = h;
          fits = made-fits;
          few = λ p i. omega (arith, zeros-at (p - 1));
          no_station_lem = made-seat;
          short = made-short;
          linked = made-linked;
          no_link_lem = made-place;
          ranked = ranked;
        })
        refl

    pub around_holds : tick ≤ 1000000 → Holds clock me n period tick made
    around_holds h =
        record {
          is-sound = around_sound h;
          is-ready = refl;
          same_kind = refl;
          same-n = refl;
          same-period = refl;
          same-tick = refl;
          low = given.me_low;
          high = given.me_high;
        }

-- ranks as set up leaves them
abbrev pub no_ranks : List ℕ
no_ranks = replicate 8 0

pub no_ranks_lem : (n : ℕ) → ranks_in n no_ranks ≡ true
no_ranks_lem n = of_ranks n no_ranks (λ k h. omega (arith, zeros-at k))

pub eight_ranks : length no_ranks ≡ 8
eight_ranks = length-replicate {A = ℕ} 8 0

-- a command on station me finds the station there
pub around_finds : (clock : Bool) (me n period tick : ℕ) (x : Station) → tick ≤ 1000000 → fits clock me n period tick x ≡ true → ByFull (Finds clock me n period tick x) (λ h. h.system)
around_finds clock me n period tick x h f = (
  record {
    system = around clock no_ranks me n period tick x no_mail;
    holds = around_holds clock no_ranks me n period tick x no_mail (no_ranks_lem (ranked_of clock n)) f (no_mail_lem clock me n period tick) h;
    is-station = around_station clock no_ranks me n period tick x no_mail (inside-eight me n period (fits-ranges me n period tick x clock f).0);
  },
  around_full clock no_ranks me n period tick x no_mail eight_ranks (λ p. omega arith),
)

-- the tick now comes
pub around_runs : (clock : Bool) (ranks : List ℕ) (me n period now : ℕ) (x : Station) (mail : ℕ → List Message) → 1 ≤ now → now ≤ 1000000 → ranks_in (ranked_of clock n) ranks ≡ true → fits clock me n period (now - 1) x ≡ true → x.up ≡ true → Inbox clock me n period (now - 1) mail → Runs clock me n period now (around clock ranks me n period (now - 1) x mail)
around_runs clock ranks me n period now x mail low high ranked f u m =
    record {
      low = low;
      high = high;
      holds = around_holds clock ranks me n period (now - 1) x mail ranked f m (omega arith);
      is_up = ap (λ y. y.up) (around_station clock ranks me n period (now - 1) x mail (inside-eight me n period (fits-ranges me n period (now - 1) x clock f).0)) ∙ u;
    }
