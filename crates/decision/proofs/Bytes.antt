-- The command byte and its operands.
use mathlib.Core.Path.{◌≡◌, refl, ap, subst, ◌∙◌}
use mathlib.Core.List.{List, [], ◌∷◌}
use mathlib.Core.Bool.{Bool, true, false, cond}
use Prim.Native.Nat.{ℕ, ◌+◌, ◌*◌, ◌<◌, ◌≤◌}
use native.Mathlib.Omega.{arith}
use lib.Dec.{eqb}
use lib.ListN.{length, get_or}
use borrow.Author.Tests.{lt-ltb, eqb-true, ne_eqb}
use Rattle.lists.specs.First.{first_failed}
use Rattle.lists.specs.Test.{all_to}
use Rattle.lists.proofs.Test.{all_at}
use Rattle.fit.specs.Fit.{within}
use Rattle.election.specs.Sound.{sound}
use Rattle.election.specs.Commands.{Command, SetUp, Start, Crash, Link, Run, Lose, Report, Rank, decode, operands, last_command, none_started, ruling, tests, refusal, command}
use Rattle.election.specs.System.{station, station_of}
use Rattle.election.specs.declared.System.{System}
use Rattle.election.proofs.Soundness.{sound-of}
use Rattle.std.specs.Prelude.{Result}
use Rattle.election.specs.declared.Refusal.{Refusal}
use Rattle.decision.specs.Decided.{Decides, Few, Looks, Needs, Sees, SeesAll, SeesFor, Values, decided, meaning}
use Rattle.decision.specs.declared.Command as declared
use Rattle.decision.specs.declared.Seen.{Seen}

-- a test of all ten entries says what each is
pub widths_rule : (table : List ℕ) (b : ℕ) → all_to 10 (λ k. eqb (get_or table k 0) (operands (decode (k ∷ [])))) ≡ true → b < 10 → get_or table b 0 ≡ operands (decode (b ∷ []))
widths_rule table b all h = eqb-true (get_or table b 0) (operands (decode (b ∷ []))) (all_at 10 b _ all h)

-- a command by the tests of its byte, with its operands
abbrev tree : (a b c d e f g k : Bool) → ℕ → ℕ → ℕ → Command
tree a b c d e f g k x y z = cond a (SetUp false x y) (cond b (Start x) (cond c (Crash x) (cond d (Link x y z) (cond e (Run (x + 256 * y)) (cond f (Lose x y) (cond g (Rank x y) (cond k (SetUp true x y) Report)))))))

-- the width is that of the whole command
pub width_of : (bytes : List ℕ) → operands (decode bytes) ≡ operands (decode (get_or bytes 0 0 ∷ []))
unfolding decode
width_of bytes =
    let b : ℕ = get_or bytes 0 0 in
    go (eqb b 1) (eqb b 2) (eqb b 3) (eqb b 4) (eqb b 5) (eqb b 6) (eqb b 8) (eqb b 9) (get_or bytes 1 0) (get_or bytes 2 0) (get_or bytes 3 0)
  where
    go : (a b c d e f g k : Bool) (x y z : ℕ) → operands (tree a b c d e f g k x y z) ≡ operands (tree a b c d e f g k 0 0 0)
    go true b c d e f g k x y z = refl
    go false true c d e f g k x y z = refl
    go false false true d e f g k x y z = refl
    go false false false true e f g k x y z = refl
    go false false false false true f g k x y z = refl
    go false false false false false true g k x y z = refl
    go false false false false false false true k x y z = refl
    go false false false false false false false true x y z = refl
    go false false false false false false false false x y z = refl

-- a byte that is none of the nine has no operands
pub none_at_zero : (b : ℕ) → b ≡ 0 → 0 ≡ operands (decode (b ∷ []))
unfolding decode
none_at_zero b e = rw e

pub none_above : (b : ℕ) → 10 ≤ b → 0 ≡ operands (decode (b ∷ []))
unfolding decode
none_above b h =
    rw (ne_eqb b 1 (λ e. absurd (omega arith)), ne_eqb b 2 (λ e. absurd (omega arith)), ne_eqb b 3 (λ e. absurd (omega arith)), ne_eqb b 4 (λ e. absurd (omega arith)), ne_eqb b 5 (λ e. absurd (omega arith)), ne_eqb b 6 (λ e. absurd (omega arith)), ne_eqb b 8 (λ e. absurd (omega arith)), ne_eqb b 9 (λ e. absurd (omega arith)))

-- 15 before all else
pub unsound : (s : System) (bytes : List ℕ) → sound s ≡ false → record { refusal = 15; length = 0; system = s } ≡ command s bytes
unfolding command refusal
unsound s bytes e = rw e refl

-- a sound system that is set up has at most eight stations
few : (s : System) (seen : Seen) → sound s ≡ true → Values s seen → Few seen
few s seen ok v e = omega (arith, v.is-n, (sound-of s ok (v.is-ready ∙ e)).n-high)

module _ (s : System) (seen : Seen) (bytes : List ℕ) (ok : sound s ≡ true) where
  -- a command with its operands is ruled by its own tests
  ruled : {c : Command} (d : Result declared.Command Refusal) (k : ℕ) → get_or bytes 0 0 ≡ k → within 1 k last_command ≡ true → decode bytes ≡ c → operands c < length bytes → meaning d ≡ decided (first_failed (tests s c)) c → meaning d ≡ decided (ruling s bytes) (decode bytes)
  ruled {c} d k is b e h m = rw (lt-ltb 0 (length bytes) (omega arith), is, b, e, lt-ltb (operands c) (length bytes) h) m

  -- a command with its operands, decided by its own tests, where all is seen that it looks at
  pub understood : {c : Command} (d : Result declared.Command Refusal) (k : ℕ) → get_or bytes 0 0 ≡ k → within 1 k last_command ≡ true → decode bytes ≡ c → operands c < length bytes
      → ((z : System) → Sees z seen c → Few seen → meaning d ≡ decided (first_failed (tests z c)) c) → Sees s seen (decode bytes) → meaning d ≡ decided (ruling s bytes) (decode bytes)
  understood {c} d k is b e h m v = ruled d k is b e h (m s (subst (Sees s seen) e v) (few s seen ok v.0))

  -- so where enough is seen for the bytes
  pub understood-for : {c : Command} (d : Result declared.Command Refusal) (k : ℕ) → get_or bytes 0 0 ≡ k → within 1 k last_command ≡ true → decode bytes ≡ c → operands c < length bytes → Decides seen c d → SeesFor s seen bytes → meaning d ≡ decided (ruling s bytes) (decode bytes)
  understood-for {c} d k is b e h m v = ruled d k is b e h (m s (v.0, subst (Needs s seen) e (v.1 (rw e h))) (few s seen ok v.0))

-- what holds of a start, a crash and a rank with the operands of the bytes, and of every other command, holds of the command of the bytes
named : (P : Command → Type 0) (bytes : List ℕ) → ((clock : Bool) (n period : ℕ) → P (SetUp clock n period)) → P (Start (get_or bytes 1 0)) → P (Crash (get_or bytes 1 0)) → ((p q delay : ℕ) → P (Link p q delay))
    → ((ticks : ℕ) → P (Run ticks)) → ((p q : ℕ) → P (Lose p q)) → P Report → (get_or bytes 0 0 ≡ 8 → P (Rank (get_or bytes 1 0) (get_or bytes 2 0))) → P (decode bytes)
unfolding decode
named P bytes set_up start crash link run lose report rank =
    let b : ℕ = get_or bytes 0 0 in
    go (eqb b 1) (eqb b 2) (eqb b 3) (eqb b 4) (eqb b 5) (eqb b 6) (eqb b 8) (eqb b 9) refl
  where
    go : (a b c d e f g k : Bool) → eqb (get_or bytes 0 0) 8 ≡ g → P (tree a b c d e f g k (get_or bytes 1 0) (get_or bytes 2 0) (get_or bytes 3 0))
    go true b c d e f g k is = set_up false (get_or bytes 1 0) (get_or bytes 2 0)
    go false true c d e f g k is = start
    go false false true d e f g k is = crash
    go false false false true e f g k is = link (get_or bytes 1 0) (get_or bytes 2 0) (get_or bytes 3 0)
    go false false false false true f g k is = run (get_or bytes 1 0 + 256 * get_or bytes 2 0)
    go false false false false false true g k is = lose (get_or bytes 1 0) (get_or bytes 2 0)
    go false false false false false false true k is = rank (eqb-true (get_or bytes 0 0) 8 is)
    go false false false false false false false true is = set_up true (get_or bytes 1 0) (get_or bytes 2 0)
    go false false false false false false false false is = report

-- what is seen is of the system as far as the command of the bytes looks: the station that they name, if they name one, and for a rank whether one was ever started
pub sees-named : (s : System) (seen : Seen) (bytes : List ℕ) → Values s seen
    → (get_or bytes 1 0 ≤ 8 → station s (get_or bytes 1 0) ≡ station_of seen.stations.now (get_or bytes 1 0))
    → (get_or bytes 0 0 ≡ 8 → none_started s.stations ≡ none_started seen.stations.now)
    → Sees s seen (decode bytes)
sees-named s seen bytes v station never = (v, named (Looks s seen) bytes (λ clock n period. tt) station station (λ p q delay. tt) (λ ticks. tt) (λ p q. tt) tt never)

-- so it is where all of the system is seen
pub sees-all : (s : System) (seen : Seen) (bytes : List ℕ) → SeesAll s seen → Sees s seen (decode bytes)
sees-all s seen bytes (v, e) = sees-named s seen bytes v (λ h. ap (λ stations. station_of stations (get_or bytes 1 0)) e) (λ h. ap none_started e)

-- a decision needs no more than the command looks at
pub needs : (s : System) (seen : Seen) (c : Command) → Looks s seen c → Needs s seen c
needs s seen (SetUp clock n period) l = tt
needs s seen (Start p) l = l
needs s seen (Crash p) l = l
needs s seen (Link p q delay) l = tt
needs s seen (Run ticks) l = tt
needs s seen (Lose p q) l = tt
needs s seen Report l = tt
needs s seen (Rank p r) l = λ ready flash inside low. l

-- so that is enough for the bytes
pub sees-for : (s : System) (seen : Seen) (bytes : List ℕ) → Sees s seen (decode bytes) → SeesFor s seen bytes
sees-for s seen bytes (v, l) = (v, λ whole. needs s seen (decode bytes) l)

-- enough is seen for the bytes: the station that they name, if they name one, and for a rank that nothing else turns down whether one was ever started
pub sees-for-named : (s : System) (seen : Seen) (bytes : List ℕ) → Values s seen
    → (get_or bytes 1 0 ≤ 8 → station s (get_or bytes 1 0) ≡ station_of seen.stations.now (get_or bytes 1 0))
    → (get_or bytes 0 0 ≡ 8 → Needs s seen (Rank (get_or bytes 1 0) (get_or bytes 2 0)))
    → SeesFor s seen bytes
sees-for-named s seen bytes v station never =
    (v, λ whole. named (Needs s seen) bytes (λ clock n period. tt) station station (λ p q delay. tt) (λ ticks. tt) (λ p q. tt) tt never)

-- so it is where all of the system is seen
pub sees-for-all : (s : System) (seen : Seen) (bytes : List ℕ) → SeesAll s seen → SeesFor s seen bytes
sees-for-all s seen bytes all = sees-for s seen bytes (sees-all s seen bytes all)

-- what each of the nine bytes says
module _ (bytes : List ℕ) where
  pub set_up-read : get_or bytes 0 0 ≡ 1 → decode bytes ≡ SetUp false (get_or bytes 1 0) (get_or bytes 2 0)
  unfolding decode
  set_up-read e = rw e

  pub start-read : get_or bytes 0 0 ≡ 2 → decode bytes ≡ Start (get_or bytes 1 0)
  unfolding decode
  start-read e = rw e

  pub crash-read : get_or bytes 0 0 ≡ 3 → decode bytes ≡ Crash (get_or bytes 1 0)
  unfolding decode
  crash-read e = rw e

  pub link-read : get_or bytes 0 0 ≡ 4 → decode bytes ≡ Link (get_or bytes 1 0) (get_or bytes 2 0) (get_or bytes 3 0)
  unfolding decode
  link-read e = rw e

  pub run-read : get_or bytes 0 0 ≡ 5 → decode bytes ≡ Run (get_or bytes 1 0 + 256 * get_or bytes 2 0)
  unfolding decode
  run-read e = rw e

  pub lose-read : get_or bytes 0 0 ≡ 6 → decode bytes ≡ Lose (get_or bytes 1 0) (get_or bytes 2 0)
  unfolding decode
  lose-read e = rw e

  pub rank-read : get_or bytes 0 0 ≡ 8 → decode bytes ≡ Rank (get_or bytes 1 0) (get_or bytes 2 0)
  unfolding decode
  rank-read e = rw e

  pub report-read : get_or bytes 0 0 ≡ 7 → decode bytes ≡ Report
  unfolding decode
  report-read e = rw e

  pub clock_read : get_or bytes 0 0 ≡ 9 → decode bytes ≡ SetUp true (get_or bytes 1 0) (get_or bytes 2 0)
  unfolding decode
  clock_read e = rw e
