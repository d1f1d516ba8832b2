-- The flight limit is kept by every sound system, and reached by one.
use mathlib.Core.Path.{◌≡◌, refl, subst}
use mathlib.Core.List.{List, [], ◌∷◌, ◌++◌, append_assoc}
use mathlib.Core.Bool.{Bool, true, false, cond}
use Prim.Native.Nat.{ℕ, ◌+◌, ◌≤◌}
use native.Mathlib.Omega.{arith}
use lib.ListN.{replicate}
use Rattle.lists.proofs.Every.{all_right}
use Rattle.fit.specs.Fit.{flight, longest_delay}
use Rattle.handing.specs.Flight.{Together, FlightExact}
use Rattle.handing.specs.Handed.{Full}
use Rattle.election.specs.Heads.{fits, content_in, ranked_of}
use Rattle.election.specs.System.{station, unstarted}
use Rattle.election.specs.declared.Message.{Message}
use Rattle.election.specs.declared.System.{System}
use Rattle.election.proofs.Heads.{unstarted-fits}
use Rattle.election.proofs.Links.{Posted, zeros-in}
use Rattle.election.proofs.Soundness.{sound-of, underway-spaced}
use Rattle.election.proofs.Spaced.{Spaced, spaced-here, spaced-older}
use Rattle.handing.proofs.Carries.{Adrift, Inbox, due_now, due_now_lem, counts-content, stamp-content, carries_two, only, only_mail}
use Rattle.handing.proofs.Witness.{no_ranks, no_ranks_lem, eight_ranks, around, around_underway, around_full, around_sound}

module _ (t : Together) where
  abbrev s : System
  s = t.system

  abbrev P : Message → Type 0
  P = Posted s.clock s.n s.period s.tick (station s t.p)

  mail : Spaced P s.period 0 ((t.first ++ (t.older ∷ t.between)) ++ (t.younger ∷ t.last))
  mail =
      rw append_assoc
      (subst (Spaced P s.period 0) t.is-mail
      (underway-spaced s (sound-of s t.is-sound t.is-ready) t.p t.q (record { low = t.p-low; high = t.p-high }) (record { low = t.q-low; high = t.q-high }) t.other))

  older-sent : P t.older × (t.older.sent + s.period ≤ t.younger.sent)
  older-sent =
      (all_right (λ (o : Message). P o × (o.sent + s.period ≤ t.younger.sent)) t.first (t.older ∷ t.between)
      (spaced-older 0 (t.first ++ (t.older ∷ t.between)) t.younger t.last mail)
      ).0

  younger-sent : t.younger.sent ≤ s.tick
  younger-sent = (spaced-here 0 (t.first ++ (t.older ∷ t.between)) t.younger t.last mail).1.sent-by

  -- the younger was sent by the tick; the older is due after it, and at most the longest delay after its sending
  within-limit : (t.older.sent + s.period ≤ t.younger.sent) × (t.younger.sent ≤ t.older.sent + flight)
  within-limit = (older-sent.1, omega (arith, older-sent.0.due_by, older-sent.0.due_after, younger-sent))

-- two stations that are down, and two messages from 1 to 2: one at the longest delay, the other sent in the tick before it is due
module _ (clock : Bool) (period : ℕ) (low : 16 ≤ period) (high : period ≤ flight) where
  abbrev sent_at : ℕ → Message
  sent_at sent = due_now longest_delay sent (replicate 8 0) (cond clock period 0)

  abbrev two : List Message
  two = sent_at 0 ∷ sent_at flight ∷ []

  abbrev reaching : System
  reaching = around clock no_ranks 2 2 period flight (unstarted 2) (only 1 two)

  down-two : fits clock 2 2 period flight (unstarted 2) ≡ true
  down-two =
      unstarted-fits clock 2 2 period flight
      (record { n-low = omega arith; n-high = omega arith; period-low = low; period-high = omega arith; me_low = omega arith; me_high = omega arith })

  inbox : Inbox clock 2 2 period flight (only 1 two)
  inbox =
      only_mail clock 2 2 period flight 1 two refl
      (carries_two clock 2 period flight (sent_at 0) (sent_at flight) (adrift 0 (omega arith)) (adrift flight (omega arith)) (omega arith))
    where
      content : (c : Bool) (sent : ℕ) → content_in c 2 period flight (due_now longest_delay sent (replicate 8 0) (cond c period 0)) ≡ true
      content true sent = stamp-content 2 period flight (due_now longest_delay sent (replicate 8 0) period) refl (omega arith) (omega arith)
      content false sent = counts-content 2 period flight (due_now longest_delay sent (replicate 8 0) 0) (zeros-in 2) refl

      adrift : (sent : ℕ) → sent ≤ flight → Adrift clock 2 period flight (sent_at sent)
      adrift sent h = due_now_lem clock 2 period longest_delay sent (replicate 8 0) (cond clock period 0) (omega arith) h (omega arith) (content clock sent)

  reached-by : Together
  reached-by =
      record {
        system = reaching;
        is-sound = around_sound clock no_ranks 2 2 period flight (unstarted 2) (only 1 two) (no_ranks_lem (ranked_of clock 2)) down-two inbox (omega arith);
        is-ready = refl;
        p = 1;
        q = 2;
        p-low = omega arith;
        p-high = omega arith;
        q-low = omega arith;
        q-high = omega arith;
        other = λ e. omega arith;
        first = [];
        older = sent_at 0;
        between = [];
        younger = sent_at flight;
        last = [];
        is-mail = around_underway clock no_ranks 2 2 period flight (unstarted 2) (only 1 two) 1 (record { low = omega arith; high = omega arith }) (record { low = omega arith; high = omega arith });
        is-due = refl;
      }

  full : Full reaching
  full = around_full clock no_ranks 2 2 period flight (unstarted 2) (only 1 two) eight_ranks (λ p. (inbox.carried p).few)

pub flight-exact : FlightExact
unfolding reached-by
flight-exact = (within-limit, λ clock period low high. (reached-by clock period low high, full clock period low high, refl, refl, refl))
