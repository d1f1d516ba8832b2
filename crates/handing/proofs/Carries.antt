-- What may be under way from stations that are down: messages on one link, and messages from each sender to one station.
use mathlib.Core.Path.{◌≡◌, refl, sym, ap, ◌∙◌}
use mathlib.Core.Logic.{◌≢◌}
use mathlib.Core.List.{List, [], ◌∷◌}
use mathlib.Core.Bool.{Bool, true, false, cond, true≢false, false≢true}
use Prim.Native.Nat.{ℕ, ◌+◌, ◌-◌, ◌≤◌, zero-le}
use native.Mathlib.Decide.{ℕ_discrete}
use native.Mathlib.Omega.{arith}
use lib.ListN.{length, replicate}
use lib.Dec.{eqb}
use borrow.Author.Tests.{eq-eqb, ne_eqb}
use Rattle.station.specs.declared.Station.{Station}
use Rattle.fit.specs.Fit.{counts_in, longest_delay}
use Rattle.fit.proofs.Tests.{Counts, of_counts, of_within}
use Rattle.election.specs.Heads.{content_in}
use Rattle.election.specs.System.{is_link, places}
use Rattle.election.specs.declared.Message.{Message}
use Rattle.election.proofs.Links.{Posted, zeros-in}
use Rattle.election.proofs.Spaced.{Spaced, none, more}

-- a message whose sender, whoever it is, is down
abbrev pub Adrift : (clock : Bool) (n period tick : ℕ) → Message → Type 0
Adrift clock n period tick m = (sender : Station) → sender.up ≡ false → Posted clock n period tick sender m

-- a message that is due now, sent some ticks before
abbrev pub due_now : ℕ → ℕ → List ℕ → ℕ → Message
due_now now sent v z = record { sent = sent; due = now; counts = v; stamp = z }

module _ (clock : Bool) (n period now sent : ℕ) (v : List ℕ) (z : ℕ) where
  pub due_now_lem : 1 ≤ now → sent ≤ now - 1 → now ≤ sent + longest_delay → content_in clock n period (now - 1) (due_now now sent v z) ≡ true → Adrift clock n period (now - 1) (due_now now sent v z)
  due_now_lem low began soon c x d =
      record { sent-by = began; due_after = omega arith; due_by = soon; content = c; before = λ u. absurd (true≢false (sym u ∙ d)) }

-- counts and no stamp, or a stamp and no counts
pub counts-content : (n period tick : ℕ) (m : Message) → Counts n m.counts → m.stamp ≡ 0 → content_in false n period tick m ≡ true
counts-content n period tick m c e = rw (of_counts n m.counts c, eq-eqb m.stamp 0 e)

pub stamp-content : (n period tick : ℕ) (m : Message) → m.counts ≡ replicate 8 0 → period ≤ m.stamp → m.stamp ≤ period + tick → content_in true n period tick m ≡ true
stamp-content n period tick m e low high = rw (ap (counts_in 0) e, of_counts 0 (replicate 8 0) (zeros-in 0), of_within period m.stamp (period + tick) low high)

-- such messages on a link, no more than it has places, sent at least a period apart
pub record Carries (clock : Bool) (n period tick : ℕ) (ms : List Message) : Type 0 where
  pub few : length ms ≤ places
  pub spaced : (sender : Station) → sender.up ≡ false → Spaced (Posted clock n period tick sender) period 0 ms

module _ (clock : Bool) (n period tick : ℕ) where
  pub carries_none : Carries clock n period tick []
  carries_none = record { few = omega arith; spaced = λ x d. none }

  pub carries_one : (m : Message) → Adrift clock n period tick m → Carries clock n period tick (m ∷ [])
  carries_one m u = record { few = omega arith; spaced = λ x d. more zero-le (u x d) none }

  pub carries_two : (m o : Message) → Adrift clock n period tick m → Adrift clock n period tick o → m.sent + period ≤ o.sent → Carries clock n period tick (m ∷ o ∷ [])
  carries_two m o u w a = record { few = omega arith; spaced = λ x d. more zero-le (u x d) (more a (w x d) none) }

-- messages to station me, by sender: none from where no link is
pub record Inbox (clock : Bool) (me n period tick : ℕ) (mail : ℕ → List Message) : Type 0 where
  pub carried : (p : ℕ) → Carries clock n period tick (mail p)
  pub unlinked : (p : ℕ) → is_link n p me ≡ false → mail p ≡ []

abbrev pub no_mail : ℕ → List Message
no_mail p = []

-- those of q besides others; those of q alone
abbrev pub also : ℕ → List Message → (ℕ → List Message) → ℕ → List Message
also q ms mail p = cond (eqb p q) ms (mail p)

abbrev pub only : ℕ → List Message → ℕ → List Message
only q ms = also q ms no_mail

module _ (clock : Bool) (me n period tick : ℕ) where
  pub no_mail_lem : Inbox clock me n period tick no_mail
  no_mail_lem = record { carried = λ p. carries_none clock n period tick; unlinked = λ p h. refl }

  pub also_mail : (q : ℕ) (ms : List Message) (mail : ℕ → List Message) → is_link n q me ≡ true → Carries clock n period tick ms → Inbox clock me n period tick mail → Inbox clock me n period tick (also q ms mail)
  also_mail q ms mail l c m = record { carried = λ p. carried p (ℕ_discrete p q); unlinked = λ p. unlinked p (ℕ_discrete p q) }
    where
      carried : (p : ℕ) → Dec (p ≡ q) → Carries clock n period tick (also q ms mail p)
      carried p (yes e) = rw (eq-eqb p q e) c
      carried p (no e) = rw (ne_eqb p q e) (m.carried p)

      unlinked : (p : ℕ) → Dec (p ≡ q) → is_link n p me ≡ false → also q ms mail p ≡ []
      unlinked p (yes e) h = absurd (false≢true (sym h ∙ ap (λ z. is_link n z me) e ∙ l))
      unlinked p (no e) h = rw (ne_eqb p q e) (m.unlinked p h)

  pub only_mail : (q : ℕ) (ms : List Message) → is_link n q me ≡ true → Carries clock n period tick ms → Inbox clock me n period tick (only q ms)
  only_mail q ms l c = also_mail q ms no_mail l c no_mail_lem

-- what each sender has there
pub also_own : (q : ℕ) (ms : List Message) (mail : ℕ → List Message) → also q ms mail q ≡ ms
also_own q ms mail = rw (eq-eqb q q refl)

pub also_others : (q : ℕ) (ms : List Message) (mail : ℕ → List Message) (p : ℕ) → p ≢ q → also q ms mail p ≡ mail p
also_others q ms mail p ne = rw (ne_eqb p q ne)
