-- Laws of the passes over a text, line by line.
use mathlib.Core.Path.{◌≡◌, refl, sym, ap, ◌∙◌}
use mathlib.Core.List.{List, [], ◌∷◌, ◌++◌, append_assoc, append-nil}
use mathlib.Core.Bool.{Bool, true, false, cond}
use Prim.Native.Nat.{ℕ, ◌+◌, ◌-◌, ◌<◌, ◌≤◌}
use native.Mathlib.Omega.{arith}
use borrow.Author.Tests.{lt-ltb, le-ltb, ltb-false}
use borrow.Rule.Slice.PartMut.{put_mid}
use lib.Dec.{ltb}
use lib.ListN.{length, take, drop, length-append, drop_of_length-le, length-drop}
use lib.Seq.{drop-drop}
use Rattle.std.specs.Prelude.{Result, Ok, Err, IsOk}
use Rattle.election.specs.Schedule.{most_bytes}
use Rattle.text.specs.Wrote.{Wrote}
use Rattle.text.proofs.Parts.{wrote_none, wrote_part}
use Rattle.script.specs.Assembled.{Meant, Commands, Wrong, commands_of, of_line, Script, Schedule, WrongAt, behind, of_lines, script, wrong_at}
use Rattle.script.specs.Encoded.{encode_all}
use Rattle.script.specs.Meanings.{meaning, line_bytes, Reads}
use Rattle.script.specs.Passes.{LineAt, fitted, stepped, measured, bytes_in, Accepted}
use Rattle.script.specs.Split.{lines, inside, lead}
use Rattle.script.specs.declared.Why.{Why}
use Rattle.script.specs.declared.Why.TheVariants.{ScheduleLong, BufferShort}
use Rattle.script.specs.declared.WrongLine.{WrongLine}
use Rattle.script.specs.declared.rules.lines.Line as line
use Rattle.script.specs.declared.rules.words.Part.TheVariants.{Line}
use Rattle.script.proofs.Leads.{part_text, part_behind, part_within, lines_at}
use Rattle.script.proofs.Sizes.{gives_bytes}
use Rattle.script.proofs.Taking.{lines_next, lines-wrong, Taken, taken}

-- the line at a place, which ends before a newline or with the text
module _ (text : List ℕ) (at end : ℕ) (h : at < length text) (e : end ≡ at + length (lead (inside Line) (drop at text))) {l : Result line.Line Why} (r : Reads l (of_line (take (end - at) (drop at text)))) where
  first : lines (drop at text) ≡ take (end - at) (drop at text) ∷ lines (drop 1 (drop end text))
  first = lines_at (drop at text) (omega (arith, length-drop at text)) ∙ rw (part_text (inside Line) text at end e, part_behind (inside Line) text at end e)

  pub line_inside : end < length text → LineAt text at l (end + 1)
  line_inside i =
      record {
        own = take (end - at) (drop at text);
        first = first ∙ ap (λ x. take (end - at) (drop at text) ∷ lines x) (drop-drop 1 end text);
        reads = r;
        on = omega arith;
        within = omega arith;
      }

  pub line_last : length text ≤ end → LineAt text at l end
  line_last i =
      let none : drop end text ≡ [] = drop_of_length-le text {i = end} i in
      record {
        own = take (end - at) (drop at text);
        first = first ∙ ap (λ x. take (end - at) (drop at text) ∷ lines x) (ap (drop 1) none ∙ sym none);
        reads = r;
        on = omega arith;
        within = part_within (inside Line) text at end (omega arith) e;
      }

-- the line that was read there
pub read_at : {text : List ℕ} {at : ℕ} {l : Result line.Line Why} {x : line.Line} {next : ℕ} → LineAt text at l next → l ≡ Ok x → LineAt text at (Ok x) next
read_at here e = rw e at here

-- so many bytes fit, or they don't
pub fitted-long : (room all : ℕ) → most_bytes < all → Err ScheduleLong ≡ fitted room all
fitted-long room all h = rw (lt-ltb most_bytes all h)

pub fitted_short : (room all : ℕ) → all ≤ most_bytes → room < all → Err BufferShort ≡ fitted room all
fitted_short room all h l = rw (le-ltb most_bytes all h, lt-ltb room all l)

pub fitted-all : (room all : ℕ) → all ≤ most_bytes → all ≤ room → Ok all ≡ fitted room all
fitted-all room all h l = rw (le-ltb most_bytes all h, le-ltb room all l)

-- an answer with so many bytes before it
abbrev pub counted : ℕ → Script → Result ℕ WrongLine
counted size (Schedule bytes) = Ok (size + length bytes)
counted size (WrongAt k why) = wrong_at k why

-- a text measured up to a place: the answer is that of the lines from there on
pub record MeasuredTo (text : List ℕ) (room at passed size : ℕ) : Type 0 where
  pub is : measured (script room text) ≡ counted size (of_lines (passed + 1) size room (lines (drop at text)))
  pub few : size ≤ most_bytes
  pub within : at ≤ length text
  pub lines-few : passed ≤ at

counted-first : (s : Script) → measured s ≡ counted 0 s
counted-first (Schedule bytes) = ap Ok (omega arith)
counted-first (WrongAt k why) = refl

pub measured-none : (text : List ℕ) (room : ℕ) → MeasuredTo text room 0 0 0
measured-none text room = record { is = counted-first (script room text); few = omega arith; within = omega arith; lines-few = omega arith }

counted-behind : (size : ℕ) (bytes : List ℕ) (s : Script) → counted size (behind bytes s) ≡ counted (size + length bytes) s
counted-behind size bytes (Schedule more) = ap Ok (omega (arith, length-append bytes more))
counted-behind size bytes (WrongAt k why) = refl

-- one line
module _ (k size room : ℕ) (own : List ℕ) (ls : List (List ℕ)) where
  wrong_first : (why : Why) (m : Meant) → of_line own ≡ m → Err why ≡ stepped room size m → of_lines k size room (own ∷ ls) ≡ WrongAt k why
  wrong_first why (Wrong x) e s = lines-wrong k size room own ls x e ∙ ap (WrongAt k) (sym (wrongs s))
    where
      wrongs : ◌≡◌ {A = Result ℕ Why} (Err why) (Err x) → why ≡ x
      wrongs q = cc
  wrong_first why (Commands cs) e s = lines_next k size room own ls cs e ∙ which (ltb most_bytes (size + length (encode_all cs))) (ltb room (size + length (encode_all cs))) s
    where
      rest_of : Script
      rest_of = behind (encode_all cs) (of_lines (k + 1) (size + length (encode_all cs)) room ls)

      which : (a b : Bool) → ◌≡◌ {A = Result ℕ Why} (Err why) (cond a (Err ScheduleLong) (cond b (Err BufferShort) (Ok (size + length (encode_all cs))))) → cond a (WrongAt k ScheduleLong) (cond b (WrongAt k BufferShort) rest_of) ≡ WrongAt k why
      which true b q = let z : why ≡ ScheduleLong = cc in rw z
      which false true q = let z : why ≡ BufferShort = cc in rw z
      which false false q = cc

  size-first : (all : ℕ) (m : Meant) → of_line own ≡ m → Ok all ≡ stepped room size m → (counted size (of_lines k size room (own ∷ ls)) ≡ counted all (of_lines (k + 1) all room ls)) × (all ≤ most_bytes)
  size-first all (Wrong x) e s = cc
  size-first all (Commands cs) e s = which (ltb most_bytes (size + length (encode_all cs))) (ltb room (size + length (encode_all cs))) refl refl s
    where
      rest_of : Script
      rest_of = of_lines (k + 1) (size + length (encode_all cs)) room ls

      which : (a b : Bool) → ltb most_bytes (size + length (encode_all cs)) ≡ a → ltb room (size + length (encode_all cs)) ≡ b → ◌≡◌ {A = Result ℕ Why} (Ok all) (cond a (Err ScheduleLong) (cond b (Err BufferShort) (Ok (size + length (encode_all cs))))) → (counted size (of_lines k size room (own ∷ ls)) ≡ counted all (of_lines (k + 1) all room ls)) × (all ≤ most_bytes)
      which true b f g q = cc
      which false true f g q = cc
      which false false f g q =
          let z : all ≡ size + length (encode_all cs) = cc in
          let took : of_lines k size room (own ∷ ls) ≡ behind (encode_all cs) rest_of = lines_next k size room own ls cs e ∙ rw (f, g) in (
            ap (counted size) took ∙ counted-behind size (encode_all cs) rest_of ∙ ap (λ n. counted n (of_lines (k + 1) n room ls)) (sym z),
            omega (arith, z, ltb-false most_bytes (size + length (encode_all cs)) f),
          )

module _ {text : List ℕ} {room at passed size : ℕ} (m : MeasuredTo text room at passed size) {l : Result line.Line Why} {next : ℕ} (here : LineAt text at l next) where
  pub measured-wrong : (why : Why) → Err why ≡ stepped room size (meaning l) → wrong_at (passed + 1) why ≡ measured (script room text)
  measured-wrong why e = sym (m.is ∙ rw here.first (ap (counted size) (wrong_first (passed + 1) size room here.own (lines (drop next text)) why (meaning l) (sym here.reads.is) e)))

  pub measured-next : (all : ℕ) → Ok all ≡ stepped room size (meaning l) → MeasuredTo text room next (passed + 1) all
  measured-next all e =
      let step = size-first (passed + 1) size room here.own (lines (drop next text)) all (meaning l) (sym here.reads.is) e in
      record { is = m.is ∙ rw here.first step.0; few = step.1; within = here.within; lines-few = omega (arith, m.lines-few, here.on) }

pub measured-all : {text : List ℕ} {room at passed size : ℕ} → MeasuredTo text room at passed size → length text ≤ at → Ok size ≡ measured (script room text)
unfolding lines of_lines
measured-all {text} {at = at} m h = sym (m.is ∙ rw (drop_of_length-le text {i = at} h) (ap Ok (omega arith)))

-- a text written up to a place
pub record FilledTo (text old : List ℕ) (at size : ℕ) (new : List ℕ) : Type 0 where
  pub before : List ℕ
  pub more : List ℕ
  pub number : ℕ
  pub wrote : Wrote before old size new
  pub others : of_lines number size (length old) (lines (drop at text)) ≡ Schedule more
  pub all : bytes_in (length old) text ≡ before ++ more
  pub within : at ≤ length text

pub filled_none : (text old : List ℕ) → Accepted (length old) text → FilledTo text old 0 0 old
filled_none text old e = record { before = []; more = bytes_in (length old) text; number = 1; wrote = wrote_none old; others = e; all = refl; within = omega arith }

module _ {text old : List ℕ} {at size : ℕ} {new : List ℕ} (f : FilledTo text old at size new) {l : Result line.Line Why} {next : ℕ} (here : LineAt text at l next) where
  took : Taken f.number size (length old) here.own (lines (drop next text)) f.more
  took = taken f.number size (length old) here.own (lines (drop next text)) f.more (ap (of_lines f.number size (length old)) (sym here.first) ∙ f.others)

  own-bytes : line_bytes l ≡ encode_all took.commands
  own-bytes = ap (λ m. encode_all (commands_of m)) (here.reads.is ∙ took.means)

  -- that line is not wrong
  pub filled_read : IsOk l
  filled_read = go l (here.reads.is ∙ took.means)
    where
      go : (r : Result line.Line Why) → meaning r ≡ Commands took.commands → IsOk r
      go (Ok x) e = refl
      go (Err why) e = cc

  pub filled_room : length (f.before ++ line_bytes l) ≤ length old
  filled_room = rw own-bytes (omega (arith, took.small, f.wrote.count, length-append f.before (encode_all took.commands)))

  pub filled_next : {ys : List ℕ} {n : ℕ} → Wrote (line_bytes l) (take (length new - size) (drop size new)) n ys → FilledTo text old next (size + n) (put_mid size (length new - size) new ys)
  filled_next {n = n} w =
      let sum : size + n ≡ size + length (encode_all took.commands) = omega (arith, w.count, ap length own-bytes) in
      record {
        before = f.before ++ line_bytes l;
        more = took.more;
        number = f.number + 1;
        wrote = wrote_part f.wrote w;
        others = rw sum took.others;
        all = f.all ∙ ap (λ x. f.before ++ x) (took.all ∙ ap (λ x. x ++ took.more) (sym own-bytes)) ∙ sym (append_assoc f.before (line_bytes l) took.more);
        within = here.within;
      }

module _ {text old : List ℕ} {at size : ℕ} {new : List ℕ} (f : FilledTo text old at size new) (h : length text ≤ at) where
  none_left : f.more ≡ []
  unfolding lines of_lines
  none_left = nothing (rw (drop_of_length-le text {i = at} h) at f.others)
    where
      nothing : Schedule [] ≡ Schedule f.more → f.more ≡ []
      nothing q = cc

  pub filled_all : Wrote (bytes_in (length old) text) old size new
  filled_all = rw (f.all, none_left, append-nil) f.wrote

-- what is accepted fits
pub accepted-fits : (room : ℕ) (text : List ℕ) → Accepted room text → length (bytes_in room text) ≤ room
accepted-fits room text e = (gives_bytes room text (bytes_in room text) e).room
