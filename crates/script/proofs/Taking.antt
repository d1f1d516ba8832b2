-- Laws of lines that are taken one after the other.
use mathlib.Core.Path.{◌≡◌, refl, sym, ◌∙◌}
use mathlib.Core.List.{List, ◌∷◌, ◌++◌}
use mathlib.Core.Bool.{Bool, true, false, cond}
use Prim.Native.Nat.{ℕ, ◌+◌, ◌≤◌}
use native.Mathlib.Omega.{arith}
use lib.Dec.{ltb}
use lib.ListN.{length}
use borrow.Author.Tests.{ltb-false, le-ltb}
use Rattle.election.specs.Commands.{Command}
use Rattle.election.specs.Schedule.{most_bytes}
use Rattle.script.specs.Assembled.{Meant, Commands, Wrong, of_line, Script, Schedule, WrongAt, behind, fitting, of_lines}
use Rattle.script.specs.Encoded.{encode_all}
use Rattle.script.specs.declared.Why.{Why}
use Rattle.script.specs.declared.Why.TheVariants.{ScheduleLong, BufferShort}

-- a line with its commands, and a wrong line
pub lines_next : (k size room : ℕ) (l : List ℕ) (ls : List (List ℕ)) (cs : List Command) → of_line l ≡ Commands cs
    → of_lines k size room (l ∷ ls) ≡ fitting k room (size + length (encode_all cs)) (behind (encode_all cs) (of_lines (k + 1) (size + length (encode_all cs)) room ls))
unfolding of_lines
lines_next k size room l ls cs e = rw (e, of_lines)

pub lines-wrong : (k size room : ℕ) (l : List ℕ) (ls : List (List ℕ)) (why : Why) → of_line l ≡ Wrong why → of_lines k size room (l ∷ ls) ≡ WrongAt k why
unfolding of_lines
lines-wrong k size room l ls why e = rw (e, of_lines)

-- bytes that fit
pub fitting-all : (k room size : ℕ) (s : Script) → size ≤ most_bytes → size ≤ room → fitting k room size s ≡ s
fitting-all k room size s few small = rw (le-ltb most_bytes size few, le-ltb room size small)

never : (k : ℕ) (why : Why) (bytes : List ℕ) → WrongAt k why ≡ Schedule bytes → ⊥
never k why bytes e = let z : ◌≡◌ {A = ℕ} 0 1 = cc in omega arith

-- what is known where some lines gave a schedule: the bytes of the first line's commands fit, and the others gave the rest
pub record Taken (k size room : ℕ) (l : List ℕ) (ls : List (List ℕ)) (bytes : List ℕ) : Type 0 where
  pub commands : List Command
  pub more : List ℕ
  pub means : of_line l ≡ Commands commands
  pub few : size + length (encode_all commands) ≤ most_bytes
  pub small : size + length (encode_all commands) ≤ room
  pub others : of_lines (k + 1) (size + length (encode_all commands)) room ls ≡ Schedule more
  pub all : bytes ≡ encode_all commands ++ more

pub taken : (k size room : ℕ) (l : List ℕ) (ls : List (List ℕ)) (bytes : List ℕ) → of_lines k size room (l ∷ ls) ≡ Schedule bytes → Taken k size room l ls bytes
taken k size room l ls bytes e = meant (of_line l) refl
  where
    by : (cs : List Command) → of_line l ≡ Commands cs → (s : Script) → of_lines (k + 1) (size + length (encode_all cs)) room ls ≡ s → (a b : Bool) → ltb most_bytes (size + length (encode_all cs)) ≡ a → ltb room (size + length (encode_all cs)) ≡ b → cond a (WrongAt k ScheduleLong) (cond b (WrongAt k BufferShort) (behind (encode_all cs) s)) ≡ Schedule bytes → Taken k size room l ls bytes
    by cs m (Schedule more) o false false f r t = record {
      commands = cs;
      more = more;
      means = m;
      few = ltb-false most_bytes (size + length (encode_all cs)) f;
      small = ltb-false room (size + length (encode_all cs)) r;
      others = o;
      all = cc;
    }
    by cs m (WrongAt j why) o false false f r t = absurd (never j why bytes t)
    by cs m s o true b f r t = absurd (never k ScheduleLong bytes t)
    by cs m s o false true f r t = absurd (never k BufferShort bytes t)

    meant : (m : Meant) → of_line l ≡ m → Taken k size room l ls bytes
    meant (Commands cs) m = by cs m (of_lines (k + 1) (size + length (encode_all cs)) room ls) refl (ltb most_bytes (size + length (encode_all cs))) (ltb room (size + length (encode_all cs))) refl refl (sym (lines_next k size room l ls cs m) ∙ e)
    meant (Wrong why) m = absurd (never k why bytes (sym (lines-wrong k size room l ls why m) ∙ e))
