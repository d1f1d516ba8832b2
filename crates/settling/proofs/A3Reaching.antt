-- A. Every accepted command keeps what holds of reached systems of flash heads.
use mathlib.Core.Path.{◌≡◌, sym, ap, ◌∙◌}
use mathlib.Core.Logic.{◌≢◌}
use mathlib.Core.Bool.{Bool, true, false, cond, true≢false}
use mathlib.Core.List.{List, [], ◌∷◌}
use Prim.Native.Nat.{ℕ, ◌+◌, ◌-◌, ◌≤◌, ◌<◌}
use native.Mathlib.Decide.{ℕ_discrete}
use native.Mathlib.Nat.{le_refl}
use native.Mathlib.Omega.{arith}
use lib.ListN.{get_or-replicate}
use borrow.Author.Tests.{ne_eqb, eq-eqb}
use Rattle.fit.specs.Fit.{longest_delay}
use Rattle.lists.specs.Every.{All}
use Rattle.lists.specs.First.{first_failed}
use Rattle.lists.proofs.Every.{all_map}
use Rattle.lists.proofs.Sets.{set_keeps}
use Rattle.station.specs.Limits.{most_rank}
use Rattle.station.specs.Order.{entry}
use Rattle.station.specs.Rules.{started, crashed}
use Rattle.station.specs.declared.Station.{Station}
use Rattle.station.proofs.Candidates.{Ranked}
use Rattle.station.proofs.Elimination.{started-elim}
use Rattle.station.proofs.Fields.{started-count, started-recovering, crashed-count, crashed-up}
use Rattle.fit.proofs.Tests.{fit-ranges}
use Rattle.station.proofs.Vectors.{other-of}
use Rattle.election.specs.Commands.{Command, SetUp, Start, Crash, Link, Run, Lose, Report, Rank, none_started, tests, perform}
use Rattle.election.specs.Heads.{starting}
use Rattle.election.specs.System.{with_station, with_delay, without_messages, with_rank, no_link, station, place, messages, holding, underway, fresh, initial}
use Rattle.election.specs.Sound.{sound}
use Rattle.election.specs.Tick.{ticks}
use Rattle.election.specs.declared.Message.{Message}
use Rattle.election.specs.declared.System.{System}
use Rattle.election.proofs.Accepting.{Accepts, accepts}
use Rattle.settling.proofs.A0Flash.{flash-starting, flash-fits, flash-ranked}
use Rattle.settling.proofs.A1Sane.{rank-high, Sane}
use Rattle.election.proofs.Changes.{start-sound, crash-sound, delay-sound, lose-sound, rank-sound, changed_same, changed_other}
use Rattle.election.proofs.InitialSound.{fresh-sound, initial-station, initial-sound}
use Rattle.election.proofs.KeepsSound.{perform-keeps}
use Rattle.election.proofs.Places.{In, place-in, widen, same_place}
use Rattle.election.proofs.Ranks.{nobody_up}
use Rattle.election.proofs.Counts.{counts, ticks-clock}
use Rattle.election.proofs.Followed.{Allowed}
use Rattle.election.specs.History.{reached}
use Rattle.settling.proofs.A2Reached.{always, Low, Reached, recount, tick-reached}
use Rattle.election.proofs.Soundness.{Sound}
use Rattle.election.proofs.TickSound.{ticks-keep}

-- station p changed to x, with a count that does not fall, and sane if it is up
module _ (s : System) (f : Sound s) (p : ℕ) (ip : In s.n p) (x : Station) where
  abbrev same_here : station (with_station p x s) p ≡ x
  same_here = changed_same s f p ip x

  abbrev other-there : (r : ℕ) → 1 ≤ r → r ≢ p → station (with_station p x s) r ≡ station s r
  other-there = changed_other s f p ip x

  pub changed_reached : Reached s → Sound (with_station p x s) → counts s p ≤ x.incarnation
      → (x.up ≡ true → (C : ℕ → ℕ) → C p ≡ x.incarnation → Sane s.ranks s.n s.period always C p (s.tick + 1) x)
      → (x.up ≡ true → x.recovering ≡ false → x.slot ≤ s.tick + s.period)
      → Reached (with_station p x s)
  changed_reached h snd rises sane paced =
      record {
        flash = h.flash;
        sound = snd;
        heads = λ r ir. go_heads r ir (ℕ_discrete r p);
        paced = λ r ir. go_paced r ir (ℕ_discrete r p);
        mail = λ q r iq ir ne. all_map (Low s) _ (λ m g y iy. omega (arith, g y iy, up_to y iy)) (underway s q r) (h.mail q r iq ir ne);
      }
    where
      up_to : (y : ℕ) → In s.n y → counts s y ≤ (station (with_station p x s) y).incarnation
      up_to y iy = go (ℕ_discrete y p)
        where
          go : Dec (y ≡ p) → counts s y ≤ (station (with_station p x s) y).incarnation
          go (yes e) = rw (e, same_here) rises
          go (no ne) = rw (other-there y iy.low ne) (le_refl (counts s y))

      go_heads : (r : ℕ) → In s.n r → Dec (r ≡ p) → (station (with_station p x s) r).up ≡ true → Sane s.ranks s.n s.period always (counts (with_station p x s)) r (s.tick + 1) (station (with_station p x s) r)
      go_heads r ir (yes e) = rw (e, same_here) (λ u. sane u (counts (with_station p x s)) (ap (λ (y : Station). y.incarnation) same_here))
      go_heads r ir (no ne) =
          let same : station (with_station p x s) r ≡ station s r = other-there r ir.low ne in
          λ u. recount s.ranks s.n s.period (counts s) (counts (with_station p x s)) r (s.tick + 1) (station (with_station p x s) r) ir up_to (ap (λ (y : Station). y.incarnation) (sym same))
          (rw same (h.heads r ir (ap (λ (y : Station). y.up) (sym same) ∙ u)))

      go_paced : (r : ℕ) → In s.n r → Dec (r ≡ p) → (station (with_station p x s) r).up ≡ true → (station (with_station p x s) r).recovering ≡ false → (station (with_station p x s) r).slot ≤ s.tick + s.period
      go_paced r ir (yes e) = rw (e, same_here) paced
      go_paced r ir (no ne) = rw (other-there r ir.low ne) (h.paced r ir)

-- a station that starts
start-sane : (ranks : List ℕ) → Ranked ranks → (n period tick : ℕ) → n ≤ 8 → (p : ℕ) → In n p → (x : Station) → In n x.stable → (C : ℕ → ℕ) → C p ≡ x.incarnation + 1 → Sane ranks n period always C p (tick + 1) (started p n period tick x)
start-sane ranks ranked n period tick small p ip x st C e =
    started-elim (Sane ranks n period always C p (tick + 1)) p n period tick x ip.low (omega (arith, ip.high))
    (λ v t sv sz own zeros times.
    let waits : (q : ℕ) → In n q → q ≢ p → entry t q ≡ period + (x.incarnation + 1) =
    λ q iq ne. times (q - 1) (omega (arith, iq.low, iq.high)) ∙ ap (λ b. cond b (period + (x.incarnation + 1)) 0) (other-of p n q iq.low iq.high ne) in
    let none : (q : ℕ) → In n q → q ≢ p → entry v q ≡ 0 = λ q iq ne. zeros (q - 1) (λ i. ne (let j : q ≡ p = omega (arith, iq.low, ip.low) in j)) in
    record {
      own = own ∙ sym e;
      low = λ q iq u. low v C own e none q iq (ℕ_discrete q p);
      range = st;
      ahead = λ ne. omega (arith, none x.stable st ne, st.high, ip.low, rank-high ranks ranked n small x.stable st);
      slow = λ q iq ne. omega (arith, waits q iq ne);
      on = λ ne. rw (ne_eqb x.stable p ne) (omega (arith, waits x.stable st ne));
      off = λ i. rw (eq-eqb x.stable p i);
    })
  where
    low : (v : List ℕ) (C : ℕ → ℕ) → entry v p ≡ x.incarnation + 1 → C p ≡ x.incarnation + 1 → ((q : ℕ) → In n q → q ≢ p → entry v q ≡ 0) → (q : ℕ) → In n q → Dec (q ≡ p) → entry v q ≤ C q
    low v C own e none q iq (yes i) = rw i (omega (arith, own, e))
    low v C own e none q iq (no ne) = omega (arith, none q iq ne)

pub start-reached : (s : System) → Reached s → (p : ℕ) → In s.n p → (station s p).incarnation < 4095 → Reached (with_station p (starting s p (station s p)) s)
start-reached s h p ip few =
    let k = (fit-ranges p s.n s.period s.tick (station s p) (flash-fits s h.flash h.sound p ip)).1 in
    let st : In s.n (station s p).stable = record { low = k.low; high = k.high } in
    let same : starting s p (station s p) ≡ started p s.n s.period s.tick (station s p) = flash-starting s h.flash p (station s p) in
    let rises : (started p s.n s.period s.tick (station s p)).incarnation ≡ (station s p).incarnation + 1 = started-count p s.n s.period s.tick (station s p) in
    rw same
    (changed_reached s h.sound p ip (started p s.n s.period s.tick (station s p)) h (rw same at (start-sound s h.sound p ip few)) (omega (arith, rises))
    (λ u C e. start-sane s.ranks (flash-ranked s h.flash h.sound) s.n s.period s.tick h.sound.n-high p ip (station s p) st C (e ∙ rises))
    (λ u w. absurd (true≢false (sym (started-recovering p s.n s.period s.tick (station s p)) ∙ w))))

pub crash-reached : (s : System) → Reached s → (p : ℕ) → In s.n p → (station s p).up ≡ true → Reached (with_station p (crashed (station s p)) s)
crash-reached s h p ip u =
    let down : (crashed (station s p)).up ≡ false = crashed-up (station s p) in
    changed_reached s h.sound p ip (crashed (station s p)) h (crash-sound s h.sound p ip u) (omega (arith, crashed-count (station s p)))
    (λ v C e. absurd (true≢false (sym v ∙ down)))
    (λ v w. absurd (true≢false (sym v ∙ down)))

-- a link whose messages are lost
module _ (s : System) (a b : ℕ) (ia : In 8 a) (ib : In 8 b) where
  pub lost-elim : (P : List Message → Type 0) (q p : ℕ) → In 8 q → In 8 p → P (underway s q p) → (q ≡ a → p ≡ b → P []) → P (underway (without_messages a b s) q p)
  unfolding messages holding
  lost-elim P q p iq ip h k =
      set_keeps (λ l. P (messages l)) s.links (place a b) (place q p) (holding []) no_link (λ e. let (x, y) = same_place q p a b iq ip ia ib e in k x y) h

pub lose-reached : (s : System) → Reached s → (a b : ℕ) → In s.n a → In s.n b → a ≢ b → Reached (without_messages a b s)
lose-reached s h a b ia ib ne =
    record {
      flash = h.flash;
      sound = lose-sound s h.sound a b ia ib ne;
      heads = h.heads;
      paced = h.paced;
      mail = λ q p iq ip d.
          lost-elim s a b (widen s.n a h.sound.n-high ia) (widen s.n b h.sound.n-high ib) (All (Low s)) q p (widen s.n q h.sound.n-high iq) (widen s.n p h.sound.n-high ip) (h.mail q p iq ip d) (λ e f. tt);
    }

pub delay-reached : (s : System) → Reached s → (a b d : ℕ) → In s.n a → In s.n b → a ≢ b → d ≤ longest_delay → Reached (with_delay a b d s)
delay-reached s h a b d ia ib ne few =
    record { flash = h.flash; sound = delay-sound s h.sound a b ia ib ne d few; heads = h.heads; paced = h.paced; mail = h.mail }

pub rank-reached : (s : System) → Reached s → (p r : ℕ) → In s.n p → r ≤ most_rank → none_started s.stations ≡ true → Reached (with_rank p r s)
rank-reached s h p r ip few none =
    record {
      flash = h.flash;
      sound = rank-sound s h.sound h.flash p r ip few;
      heads = λ q iq u. absurd (nobody_up s h.sound h.flash none q iq u);
      paced = h.paced;
      mail = h.mail;
    }

pub ticks-reached : (t : ℕ) (s : System) → s.tick + t ≤ 1000000 → Reached s → Reached (ticks t s)
ticks-reached = ticks-keep Reached tick-reached

pub initial-reached : (clock : Bool) (n period : ℕ) → 2 ≤ n → n ≤ 8 → 16 ≤ period → period ≤ 255 → (initial clock n period).clock ≡ false → Reached (initial clock n period)
unfolding initial messages holding
initial-reached clock n period n-low n-high p-low p-high flash =
    record {
      flash = flash;
      sound = initial-sound clock n period n-low n-high p-low p-high;
      heads = λ p ip u. absurd (true≢false (sym u ∙ down p ip));
      paced = λ p ip u. absurd (true≢false (sym u ∙ down p ip));
      mail = λ q p iq ip ne. rw (get_or-replicate 64 (place q p) (holding []) no_link (place-in q p (widen n q n-high iq) (widen n p n-high ip))) tt;
    }
  where
    down : (p : ℕ) → In n p → (station (initial clock n period) p).up ≡ false
    down p ip = ap (λ (x : Station). x.up) (initial-station clock n period n-high p ip)

-- what holds of a system before set up as well, and of one of clock heads
pub record Arrived (s : System) : Type 0 where
  pub is-sound : sound s ≡ true
  pub reached : s.ready ≡ true → s.clock ≡ false → Reached s

-- after set up no command changes the kind of head
performed : (c : Command) (s : System) → Accepts c s → (s.ready ≡ true → s.clock ≡ false → Reached s) → (perform c s).clock ≡ false → Reached (perform c s)
unfolding perform
performed (SetUp clock n period) s (r, a, b, c, d) h k = initial-reached clock n period a b c d k
performed (Start p) s (r, i, d, few) h k = start-reached s (h r k) p i few
performed (Crash p) s (r, i, u) h k = crash-reached s (h r k) p i u
performed (Link p q d) s (r, i, j, ne, few) h k = delay-reached s (h r k) p q d i j ne few
performed (Run t) s (r, l, room) h k = ticks-reached t s room (h r (sym (ticks-clock t s) ∙ k))
performed (Lose p q) s (r, i, j, ne) h k = lose-reached s (h r k) p q i j ne
performed Report s r h k = h r k
performed (Rank p x) s (r, flash, i, few, none) h k = rank-reached s (h r k) p x i few none

pub perform-arrived : (c : Command) (s : System) → first_failed (tests s c) ≡ 0 → Arrived s → Arrived (perform c s)
perform-arrived c s t h = record { is-sound = perform-keeps c s h.is-sound t; reached = λ r. performed c s (accepts c s t) h.reached }

pub fresh-arrived : Arrived fresh
unfolding fresh
fresh-arrived = record { is-sound = fresh-sound; reached = λ r k. absurd (true≢false (sym r)) }

-- and of a list of commands, each accepted by the system that the last one left
pub reached-arrived : (cs : List Command) (s : System) → Allowed cs s → Arrived s → Arrived (reached cs s)
unfolding reached
reached-arrived [] s a h = h
reached-arrived (c ∷ cs) s (t, a) h = reached-arrived cs (perform c s) a (perform-arrived c s t h)
