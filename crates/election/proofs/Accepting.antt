-- What an accepted command says of the system before it.
use mathlib.Core.Path.{◌≡◌}
use mathlib.Core.Logic.{◌≢◌}
use mathlib.Core.List.{List}
use mathlib.Core.Bool.{true, false, not, ◌&&◌}
use Prim.Native.Nat.{ℕ, ◌+◌, ◌<◌, ◌≤◌}
use lib.ListN.{length, get_or}
use lib.Dec.{leb, ltb, eqb}
use borrow.Author.Tests.{ltb-true, leb-true, eqb-false, not-true}
use Rattle.lists.specs.First.{first_failed}
use Rattle.lists.proofs.Bools.{both}
use Rattle.lists.proofs.First.{passed}
use Rattle.fit.specs.Fit.{within, longest_delay}
use Rattle.station.specs.Limits.{last_tick, most_rank}
use Rattle.fit.proofs.Tests.{within_of}
use Rattle.election.specs.Commands.{Command, SetUp, Start, Crash, Link, Run, Lose, Report, Rank, decode, operands, last_command, none_started, tests, ruling}
use Rattle.election.specs.System.{station}
use Rattle.election.specs.declared.System.{System}
use Rattle.election.proofs.Places.{In}

abbrev pub Accepts : Command → System → Type 0
Accepts (SetUp clock n period) s = (s.ready ≡ false) × (2 ≤ n) × (n ≤ 8) × (16 ≤ period) × (period ≤ 255)
Accepts (Start p) s = (s.ready ≡ true) × In s.n p × ((station s p).up ≡ false) × ((station s p).incarnation < 4095)
Accepts (Crash p) s = (s.ready ≡ true) × In s.n p × ((station s p).up ≡ true)
Accepts (Link p q d) s = (s.ready ≡ true) × In s.n p × In s.n q × (p ≢ q) × (d ≤ longest_delay)
Accepts (Run t) s = (s.ready ≡ true) × (0 < t) × (s.tick + t ≤ 1000000)
Accepts (Lose p q) s = (s.ready ≡ true) × In s.n p × In s.n q × (p ≢ q)
Accepts Report s = s.ready ≡ true
Accepts (Rank p r) s = (s.ready ≡ true) × (s.clock ≡ false) × In s.n p × (r ≤ most_rank) × (none_started s.stations ≡ true)

in_of : (n p : ℕ) → within 1 p n ≡ true → In n p
in_of n p e = let (low, high) = within_of 1 p n e in record { low = low; high = high }

-- its tests passed
pub accepts : (c : Command) (s : System) → first_failed (tests s c) ≡ 0 → Accepts c s
accepts (SetUp clock n period) s t =
    let (r, t₁) = passed (not s.ready) _ 3 t in
    let (a, t₂) = passed (within 2 n 8) _ 4 t₁ in
    let (b, t₃) = passed (within 16 period 255) _ 5 t₂ in
    let (n-low, n-high) = within_of 2 n 8 a in
    let (p-low, p-high) = within_of 16 period 255 b in
    (not-true s.ready r, n-low, n-high, p-low, p-high)
accepts (Start p) s t =
    let (r, t₁) = passed s.ready _ 2 t in
    let (i, t₂) = passed (within 1 p s.n) _ 6 t₁ in
    let (d, t₃) = passed (not (station s p).up) _ 7 t₂ in
    let (w, t₄) = passed _ _ 9 t₃ in
    (r, in_of s.n p i, not-true (station s p).up d, ltb-true (station s p).incarnation _ w)
accepts (Crash p) s t =
    let (r, t₁) = passed s.ready _ 2 t in
    let (i, t₂) = passed (within 1 p s.n) _ 6 t₁ in
    let (u, t₃) = passed (station s p).up _ 8 t₂ in
    (r, in_of s.n p i, u)
accepts (Link p q d) s t =
    let (r, t₁) = passed s.ready _ 2 t in
    let (i, t₂) = passed (within 1 p s.n && within 1 q s.n) _ 6 t₁ in
    let (o, t₃) = passed (not (eqb p q)) _ 10 t₂ in
    let (h, t₄) = passed (leb d longest_delay) _ 11 t₃ in
    let (a, b) = both (within 1 p s.n) (within 1 q s.n) i in
    (r, in_of s.n p a, in_of s.n q b, eqb-false p q (not-true (eqb p q) o), leb-true d longest_delay h)
accepts (Run t) s l =
    let (r, t₁) = passed s.ready _ 2 l in
    let (o, t₂) = passed (ltb 0 t) _ 12 t₁ in
    let (h, t₃) = passed (leb (s.tick + t) last_tick) _ 13 t₂ in
    (r, ltb-true 0 t o, leb-true (s.tick + t) last_tick h)
accepts (Lose p q) s t =
    let (r, t₁) = passed s.ready _ 2 t in
    let (i, t₂) = passed (within 1 p s.n && within 1 q s.n) _ 6 t₁ in
    let (o, t₃) = passed (not (eqb p q)) _ 10 t₂ in
    let (a, b) = both (within 1 p s.n) (within 1 q s.n) i in
    (r, in_of s.n p a, in_of s.n q b, eqb-false p q (not-true (eqb p q) o))
accepts Report s t = let (r, t₁) = passed s.ready _ 2 t in r
accepts (Rank p x) s t =
    let (r, t₁) = passed s.ready _ 2 t in
    let (k, t₂) = passed (not s.clock) _ 24 t₁ in
    let (i, t₃) = passed (within 1 p s.n) _ 6 t₂ in
    let (h, t₄) = passed (leb x most_rank) _ 21 t₃ in
    let (none, t₅) = passed (none_started s.stations) _ 22 t₄ in
    (r, not-true s.clock k, in_of s.n p i, leb-true x most_rank h, none)

-- so did those before them
pub ruling-tests : (s : System) (bytes : List ℕ) → ruling s bytes ≡ 0 → first_failed (tests s (decode bytes)) ≡ 0
ruling-tests s bytes t =
    let (l, t₁) = passed (ltb 0 (length bytes)) _ 1 t in
    let (b, t₂) = passed (within 1 (get_or bytes 0 0) last_command) _ 0 t₁ in
    let (o, t₃) = passed (ltb (operands (decode bytes)) (length bytes)) _ 1 t₂ in
    t₃
