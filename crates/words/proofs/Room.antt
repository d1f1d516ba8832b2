-- How long the words can be.
use mathlib.Core.List.{List}
use mathlib.Core.Bool.{cond}
use Prim.Native.Nat.{ℕ, ◌+◌, ◌≤◌}
use native.Mathlib.Omega.{arith}
use lib.Dec.{eqb}
use lib.ListN.{length, length-append}
use Rattle.text.specs.Numbers.{decimal, named, pair}
use Rattle.text.specs.Quoted.{text}
use Rattle.text.proofs.Digits.{length-decimal}
use Rattle.text.proofs.Room.{either}
use Rattle.election.specs.Commands.{Command, SetUp, Start, Crash, Link, Run, Lose, Report, Rank}
use Rattle.words.specs.Doings.{setting_up, linking, doing}
use Rattle.words.specs.Reasons.{reason, refused}

pub reason-room : (r : ℕ) → length (reason r) ≤ 48
unfolding text reason
reason-room r =
    either (eqb r 1) _ _ 48 (omega arith)
    (either (eqb r 2) _ _ 48 (omega arith)
    (either (eqb r 3) _ _ 48 (omega arith)
    (either (eqb r 4) _ _ 48 (omega arith)
    (either (eqb r 5) _ _ 48 (omega arith)
    (either (eqb r 6) _ _ 48 (omega arith)
    (either (eqb r 7) _ _ 48 (omega arith)
    (either (eqb r 8) _ _ 48 (omega arith)
    (either (eqb r 9) _ _ 48 (omega arith)
    (either (eqb r 10) _ _ 48 (omega arith)
    (either (eqb r 11) _ _ 48 (omega arith)
    (either (eqb r 13) _ _ 48 (omega arith)
    (either (eqb r 14) _ _ 48 (omega arith)
    (either (eqb r 15) _ _ 48 (omega arith)
    (either (eqb r 16) _ _ 48 (omega arith)
    (either (eqb r 21) _ _ 48 (omega arith)
    (either (eqb r 22) _ _ 48 (omega arith)
    (either (eqb r 23) _ _ 48 (omega arith)
    (omega arith))))))))))))))))))

pub refused-room : (r : ℕ) → length (refused r) ≤ 78
unfolding text refused
refused-room r = simp length-append (omega (arith, length-decimal r, reason-room r))

-- a word with a number, and two of these
named-room : (a : List ℕ) (x : ℕ) → length (named a x) ≤ length a + 20
named-room a x = omega (arith, length-append a (decimal x), length-decimal x)

pair-room : (a : List ℕ) (x : ℕ) (b : List ℕ) (y : ℕ) → length (pair a x b y) ≤ length a + length b + 40
pair-room a x b y = omega (arith, length-append (named a x) (named b y), named-room a x, named-room b y)

pub doing-room : (c : Command) → length (doing c) ≤ 100
unfolding text doing setting_up linking
doing-room (SetUp clock n period) =
    let a : List ℕ = text "set up heads with a running clock, stations " in
    let b : List ℕ = text "set up heads with flash, stations " in
    omega (arith, pair-room (cond clock a b) n (text ", period ") period, either clock a b 44 (omega arith) (omega arith))
doing-room (Start p) = omega (arith, named-room (text "start station ") p)
doing-room (Crash p) = omega (arith, named-room (text "crash station ") p)
doing-room (Link p q d) =
    either (eqb d 0) _ _ 100 (omega (arith, pair-room (text "cut the link from ") p (text " to ") q))
    (omega (arith, length-append (pair (text "set the link from ") p (text " to ") q) (named (text ", delay ") d), pair-room (text "set the link from ") p (text " to ") q, named-room (text ", delay ") d))
doing-room (Run t) = omega (arith, named-room (text "run, ticks ") t)
doing-room (Lose p q) = omega (arith, pair-room (text "lose what is under way from ") p (text " to ") q)
doing-room Report = omega arith
doing-room (Rank p r) = omega (arith, pair-room (text "give station ") p (text " the rank ") r)
