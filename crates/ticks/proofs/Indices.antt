-- Numbers of stations, links and places of messages are in range, and one more of a count fits.
use mathlib.Core.Path.{◌≡◌}
use Prim.Native.Nat.{ℕ, ◌+◌, ◌*◌, ◌<◌, ◌≤◌, min}
use native.Mathlib.Omega.{arith}
use mir.Syntax.{w8}
use mir.Val.{Fits}
use Rattle.election.specs.System.{places}

-- a station, from 0
pub record Number (p : ℕ) : Type 0 where
  pub low : p < 8

-- a link, by its ends
pub record Ends (q p : ℕ) : Type 0 where
  pub from : Number q
  pub to : Number p

-- a place of a link
pub record Place (q p i : ℕ) : Type 0 where
  pub ends : Ends q p
  pub low : i < places

pub number_of_lem : (n p : ℕ) → n ≤ 8 → p < n → Number p
number_of_lem n p a b = record { low = omega arith }

pub ends_of : (n q p : ℕ) → n ≤ 8 → q < n → p < n → Ends q p
ends_of n q p a b c = record { from = number_of_lem n q a b; to = number_of_lem n p a c }

pub place_of : (q p i u : ℕ) → Ends q p → i < u → u ≤ places → Place q p i
place_of q p i u a b c = record { ends = a; low = omega arith }

module _ {q p : ℕ} (a : Ends q p) where
  pub link-low : 8 * q + p < 64
  link-low = omega (arith, a.from.low, a.to.low)

module _ {q p i : ℕ} (a : Place q p i) where
  pub place-low : places * (8 * q + p) + i < 64 * places
  place-low = omega (arith, link-low a.ends, a.low)

-- a loop's number goes on
pub next_low : (i n : ℕ) → i < n → i + 1 ≤ n
next_low i n h = omega arith

-- one message more fits where a place is free
pub used_more_fits : (u v : ℕ) → u ≡ v → u < places → Fits w8 (v + 1)
used_more_fits u v e h = record { fits = omega arith }

-- a bound that is set anew, and a count that goes on or not
pub at_least : (a b c : ℕ) → b ≡ c → a ≤ c → a ≤ b
at_least a b c e h = omega arith

pub at_most : (a b c d : ℕ) → a ≡ b → b ≤ c → c ≤ d → a ≤ d
at_most a b c d e h i = omega arith

pub as_most : (a b c : ℕ) → a ≡ b → b ≤ c → a ≤ c
as_most a b c e h = omega arith

pub one_more : (a b c : ℕ) → a ≡ b + 1 → b ≤ c → a ≤ c + 1
one_more a b c e h = omega arith

pub no_more : (a b c : ℕ) → a ≡ b → b ≤ c → a ≤ c + 1
no_more a b c e h = omega arith

-- the lesser of two ticks
pub least_first : (a b r : ℕ) → r ≡ min a b → r ≤ a
least_first a b r e = omega arith

pub least-second : (a b r : ℕ) → r ≡ min a b → r ≤ b
least-second a b r e = omega arith

pub least_above : (t a b r : ℕ) → r ≡ min a b → t ≤ a → t ≤ b → t ≤ r
least_above t a b r e h i = omega arith
