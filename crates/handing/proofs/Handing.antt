-- Whatever came about in a tick is handed over by some sound system of full tables, made around the station: for both kinds of head.
use mathlib.Core.Path.{◌≡◌, refl, sym, ap, ◌∙◌}
use mathlib.Core.Logic.{◌⊎◌, ◌≢◌}
use mathlib.Core.Logic.◌⊎◌.{inl, inr}
use mathlib.Core.List.{List, [], ◌∷◌, ◌++◌}
use mathlib.Core.Bool.{Bool, true}
use Prim.Native.Nat.{ℕ, ◌+◌, ◌-◌, ◌<◌, ◌≤◌, min}
use native.Mathlib.Omega.{arith}
use lib.ListN.{length}
use Rattle.lists.specs.Fold.{each}
use Rattle.fit.specs.Fit.{flight, ranks_in}
use Rattle.fit.proofs.Handed.{InTick, Before}
use Rattle.station.specs.declared.Station.{Station}
use Rattle.handing.specs.Handed.{Runs, Hears, Expires, Slots, Full, ByFull}
use Rattle.election.specs.Heads.{Hearing, hearing_of, expiring_of, ranked_of}
use Rattle.election.specs.System.{station, underway, is_link}
use Rattle.election.specs.Tick.{heard_link, heard_all, expired_now, settled}
use Rattle.election.specs.declared.Message.{Message}
use Rattle.election.specs.declared.System.{System}
use Rattle.election.proofs.Places.{In, is-link}
use Rattle.election.proofs.Steps.{heard-none, settled_up}
use Rattle.handing.proofs.Carries.{Adrift, Carries, Inbox, due_now, due_now_lem, no_mail, also, only, carries_one, carries_two, no_mail_lem, also_mail, only_mail, also_own, also_others}
use Rattle.handing.proofs.OneSender.{hears-one, hears-nobody, hears-only, heard_all-each, timer_ends, timer_runs}
use Rattle.handing.proofs.Origins.{Coming, Prior, FromHearing, Ran, FromTimer}
use Rattle.handing.proofs.Witness.{around, around_station, around_underway, around_full, around_runs, inside-eight}

-- the values of a tick, and ranks of a full table
pub record Given (clock : Bool) (ranks : List ℕ) (me n period now : ℕ) : Type 0 where
  pub values : InTick me n period now
  pub ranked : ranks_in (ranked_of clock n) ranks ≡ true
  pub eight : length ranks ≡ 8

-- handed over by a system of full tables
abbrev pub FullHears : (clock : Bool) (ranks : List ℕ) (me n period now q : ℕ) (v : List ℕ) (z : ℕ) (x : Station) → Type 0
FullHears clock ranks me n period now q v z x = ByFull (Hears clock ranks me n period now q v z x) (λ h. h.system)

abbrev pub FullExpires : (clock : Bool) (me n period now : ℕ) (x : Station) → Type 0
FullExpires clock me n period now x = ByFull (Expires clock me n period now x) (λ h. h.system)

abbrev pub FullSlots : (clock : Bool) (ranks : List ℕ) (me n period now : ℕ) (x : Station) → Type 0
FullSlots clock ranks me n period now x = ByFull (Slots clock ranks me n period now x) (λ h. h.system)

module _ (clock : Bool) (ranks : List ℕ) (me n period now : ℕ) (g : Given clock ranks me n period now) where
  abbrev hear : Hearing
  hear = hearing_of clock ranks

  hm : In 8 me
  hm = inside-eight me n period g.values.given

  -- the system around a station at the end of the tick before
  abbrev made : Station → (ℕ → List Message) → System
  made y mail = around clock ranks me n period (now - 1) y mail

  made-station : (y : Station) (mail : ℕ → List Message) → station (made y mail) me ≡ y
  made-station y mail = around_station clock ranks me n period (now - 1) y mail hm

  made-runs : (y : Station) (mail : ℕ → List Message) → Prior clock me n period now y → Inbox clock me n period (now - 1) mail → Runs clock me n period now (made y mail)
  made-runs y mail b m = around_runs clock ranks me n period now y mail g.values.tick-low g.values.tick-high g.ranked b.fit b.up m

  made-full : (y : Station) (mail : ℕ → List Message) → Inbox clock me n period (now - 1) mail → Full (made y mail)
  made-full y mail m = around_full clock ranks me n period (now - 1) y mail g.eight (λ p. (m.carried p).few)

  -- a message that may come
  module _ (q : ℕ) (v : List ℕ) (z : ℕ) (c : Coming clock me n period now q v z) where
    from-link : is_link n q me ≡ true
    from-link = is-link n q me (record { low = c.low; high = c.high }) (record { low = g.values.given.me_low; high = g.values.given.me_high }) c.other

    -- sent in the tick before
    abbrev youngest : Message
    youngest = due_now now (now - 1) v z

    youngest_adrift : Adrift clock n period (now - 1) youngest
    youngest_adrift = due_now_lem clock n period now (now - 1) v z g.values.tick-low (omega arith) (omega (arith, g.values.tick-low)) (c.content (now - 1))

    youngest_carried : Carries clock n period (now - 1) (youngest ∷ [])
    youngest_carried = carries_one clock n period (now - 1) youngest youngest_adrift

    youngest_only : Inbox clock me n period (now - 1) (only q (youngest ∷ []))
    youngest_only = only_mail clock me n period (now - 1) q (youngest ∷ []) from-link youngest_carried

  -- the station after (a)
  abbrev heard_in : Station → (ℕ → List Message) → Station
  heard_in y mail = heard_all hear n me now (λ q. underway (made y mail) q me) (station (made y mail) me)

  -- nothing comes
  quiet : (y : Station) → heard_in y no_mail ≡ y
  quiet y =
      heard_all-each hear n me now (λ q. underway (made y no_mail) q me) (station (made y no_mail) me)
      ∙ hears-nobody clock ranks me n period (now - 1) now y no_mail hm n g.values.given.n-high (station (made y no_mail) me) (λ p h. refl)
      ∙ made-station y no_mail

  -- and after (b)
  settled-now : (x y : Station) (mail : ℕ → List Message) → y.up ≡ true → heard_in y mail ≡ x → settled (made y mail) me ≡ expired_now (expiring_of clock me) now x
  settled-now x y mail u h =
      let e : now - 1 + 1 ≡ now = omega (arith, g.values.tick-low) in
      let s : System = made y mail in
      settled_up s me (ap (λ z. z.up) (made-station y mail) ∙ u)
      ∙ ap (λ t. expired_now (expiring_of clock me) t (heard_all hear n me t (λ q. underway s q me) (station s me))) e
      ∙ ap (expired_now (expiring_of clock me) now) h

  -- (b): a timer is due
  pub expires_handed : (x : Station) → Prior clock me n period now x → x.timer ≡ now → FullExpires clock me n period now x
  expires_handed x b due = (
    record {
      system = made x no_mail;
      runs = made-runs x no_mail b (no_mail_lem clock me n period (now - 1));
      is-station = quiet x;
      is-due = due;
    },
    made-full x no_mail (no_mail_lem clock me n period (now - 1)),
  )

  -- (c): a send chance is due
  module _ (x : Station) (due : x.slot ≡ now) where
    slots_by : (y : Station) (mail : ℕ → List Message) → Inbox clock me n period (now - 1) mail → Prior clock me n period now y → settled (made y mail) me ≡ x → FullSlots clock ranks me n period now x
    slots_by y mail m b s = (
      record {
        system = made y mail;
        runs = made-runs y mail b m;
        same-ranks = refl;
        is-station = s;
        is-due = due;
      },
      made-full y mail m,
    )

    -- nothing was heard, and the timer does not end
    slots_quiet : Prior clock me n period now x → x.timer ≢ now → FullSlots clock ranks me n period now x
    slots_quiet b ne =
        slots_by x no_mail (no_mail_lem clock me n period (now - 1)) b
        (settled-now x x no_mail b.up (quiet x) ∙ timer_runs (expiring_of clock me) now x ne)

    -- the leader was heard
    slots_heard : FromHearing clock ranks me n period now x → x.timer ≢ now → FullSlots clock ranks me n period now x
    slots_heard f ne =
        let y : Station = f.station in
        let o : Message = youngest x.leader f.counts f.stamp f.coming in
        let mail : ℕ → List Message = only x.leader (o ∷ []) in
        let s : System = made y mail in
        slots_by y mail (youngest_only x.leader f.counts f.stamp f.coming) f.before
        (settled-now x y mail f.before.up
        (heard_all-each hear n me now (λ q. underway s q me) (station s me)
        ∙ hears-only clock ranks me n period (now - 1) now y mail hm n g.values.given.n-high (station s me) x.leader f.coming.low f.coming.high (λ p i ne. also_others x.leader (o ∷ []) no_mail p ne)
        ∙ ap (λ ms. heard_link hear me x.leader now ms (station s me)) (also_own x.leader (o ∷ []) no_mail)
        ∙ ap (heard_link hear me x.leader now (o ∷ [])) (made-station y mail)
        ∙ hears-one hear me x.leader now y o refl
        ∙ f.heard (now - 1))
        ∙ timer_runs (expiring_of clock me) now x ne)

    -- the timer ended
    slots_ended : FromTimer clock me n period now x → FullSlots clock ranks me n period now x
    slots_ended f =
        let y : Station = f.station in
        slots_by y no_mail (no_mail_lem clock me n period (now - 1)) f.before
        (settled-now y y no_mail f.before.up (quiet y) ∙ timer_ends (expiring_of clock me) now y f.due ∙ f.ended)

    -- as one of these it is handed over
    pub slots_handed : Ran clock ranks me n period now x ⊎ FromTimer clock me n period now x → FullSlots clock ranks me n period now x
    slots_handed (inl (inl b, ne)) = slots_quiet b ne
    slots_handed (inl (inr f, ne)) = slots_heard f ne
    slots_handed (inr f) = slots_ended f

  -- (a): a message of q comes
  module _ (q : ℕ) (v : List ℕ) (z : ℕ) (c : Coming clock me n period now q v z) (x : Station) where
    abbrev m : Message
    m = youngest q v z c

    -- the senders below q are among the eight
    lower : q - 1 ≤ 8
    lower = omega (arith, c.high, g.values.given.n-high)

    -- the station after them, in the system around y
    abbrev heard_lower : Station → (ℕ → List Message) → Station → Station
    heard_lower y mail r = each (q - 1) (λ k. heard_link hear me (k + 1) now (underway (made y mail) (k + 1) me)) r

    hears-by : (y : Station) (mail : ℕ → List Message) (older : List Message) → Inbox clock me n period (now - 1) mail → Prior clock me n period now y → mail q ≡ older ++ (m ∷ []) → heard_link hear me q now older (heard_lower y mail y) ≡ x → FullHears clock ranks me n period now q v z x
    hears-by y mail older i b e s = (
      record {
        system = made y mail;
        runs = made-runs y mail b i;
        same-ranks = refl;
        sender-low = c.low;
        sender-high = c.high;
        other = c.other;
        older = older;
        message = m;
        younger = [];
        is-mail = around_underway clock ranks me n period (now - 1) y mail q (record { low = c.low; high = omega (arith, c.high, g.values.given.n-high) }) hm ∙ e;
        is-due = refl;
        is-counts = refl;
        is-stamp = refl;
        is-station = ap (λ r. heard_link hear me q now older (heard_lower y mail r)) (made-station y mail) ∙ s;
      },
      made-full y mail i,
    )

    -- nothing was heard before
    hears-first : Prior clock me n period now x → FullHears clock ranks me n period now q v z x
    hears-first b =
        let mail : ℕ → List Message = only q (m ∷ []) in
        hears-by x mail [] (youngest_only q v z c) b
        (also_own q (m ∷ []) no_mail)
        (heard-none hear me q now [] (heard_lower x mail x) refl
        ∙ hears-nobody clock ranks me n period (now - 1) now x mail hm (q - 1) lower x (λ p i. also_others q (m ∷ []) no_mail p (λ e. omega (arith, c.low))))

    -- the leader was heard, a lower sender
    hears-after_lower : FromHearing clock ranks me n period now x → x.leader < q → FullHears clock ranks me n period now q v z x
    hears-after_lower f b =
        let y : Station = f.station in
        let o : Message = youngest x.leader f.counts f.stamp f.coming in
        let leaders : ℕ → List Message = only x.leader (o ∷ []) in
        let mail : ℕ → List Message = also q (m ∷ []) leaders in
        hears-by y mail [] (also_mail clock me n period (now - 1) q (m ∷ []) leaders (from-link q v z c) (youngest_carried q v z c) (youngest_only x.leader f.counts f.stamp f.coming)) f.before
        (also_own q (m ∷ []) leaders)
        (heard-none hear me q now [] (heard_lower y mail y) refl
        ∙ hears-only clock ranks me n period (now - 1) now y mail hm (q - 1) lower y x.leader f.coming.low (omega arith)
        (λ p i ne. also_others q (m ∷ []) leaders p (λ e. omega (arith, c.low)) ∙ also_others x.leader (o ∷ []) no_mail p ne)
        ∙ ap (λ ms. heard_link hear me x.leader now ms y) (also_others q (m ∷ []) leaders x.leader (λ e. omega arith) ∙ also_own x.leader (o ∷ []) no_mail)
        ∙ hears-one hear me x.leader now y o refl
        ∙ f.heard (now - 1))

    -- it is q, with an older message
    hears-after_own : FromHearing clock ranks me n period now x → x.leader ≡ q → period ≤ min (now - 1) flight → FullHears clock ranks me n period now q v z x
    hears-after_own f e b =
        let y : Station = f.station in
        let o : Message = due_now now (now - 1 - period) f.counts f.stamp in
        let ms : List Message = o ∷ m ∷ [] in
        let u : Adrift clock n period (now - 1) o = due_now_lem clock n period now (now - 1 - period) f.counts f.stamp g.values.tick-low (omega arith) (omega arith) (f.coming.content (now - 1 - period)) in
        hears-by y (only q ms) (o ∷ []) (only_mail clock me n period (now - 1) q ms (from-link q v z c) (carries_two clock n period (now - 1) o m u (youngest_adrift q v z c) (omega arith))) f.before
        (also_own q ms no_mail)
        (ap (heard_link hear me q now (o ∷ [])) (hears-nobody clock ranks me n period (now - 1) now y (only q ms) hm (q - 1) lower y (λ p i. also_others q ms no_mail p (λ e. omega (arith, c.low))))
        ∙ hears-one hear me q now y o refl
        ∙ ap (λ p. hear me p o now y) (sym e)
        ∙ f.heard (now - 1 - period))

    -- as one of these it is handed over
    pub hears-handed : Prior clock me n period now x ⊎ (FromHearing clock ranks me n period now x × Before period now q x) → FullHears clock ranks me n period now q v z x
    hears-handed (inl b) = hears-first b
    hears-handed (inr (f, inl b)) = hears-after_lower f b
    hears-handed (inr (f, inr b)) = hears-after_own f b.0 b.1
