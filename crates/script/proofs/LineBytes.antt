-- Laws of the bytes of a line, as the code writes them.
use mathlib.Core.Path.{◌≡◌, refl, sym, ap, subst, ◌∙◌}
use mathlib.Core.List.{List, [], ◌∷◌, ◌++◌, append_assoc, append-nil}
use Prim.Native.Nat.{ℕ, zero, suc, ◌+◌, ◌*◌, ◌-◌, ◌<◌, ◌≤◌}
use native.Mathlib.Omega.{arith}
use native.Mathlib.Decide.{dec_lt}
use borrow.Author.Tests.{le-leb, lt-leb}
use borrow.Rule.Slice.PartMut.{put_mid}
use lib.ListN.{length, take, drop, length-append}
use lib.Seq.{take-append_seam}
use Rattle.station.specs.Limits.{last_tick}
use Rattle.election.specs.Commands.{Bytes, Run, decode, operands, last_command}
use Rattle.text.specs.Wrote.{Wrote}
use Rattle.text.proofs.Parts.{wrote_none, wrote_part}
use Rattle.script.specs.Encoded.{encode, encode_all}
use Rattle.script.specs.Entries.{longest_run, runs, most_runs}
use Rattle.script.specs.Meanings.{ProperLine, bytes_of, most_line_bytes}
use Rattle.script.specs.declared.rules.lines.Line.{Line}
use Rattle.script.specs.declared.rules.lines.Line.TheVariants as code
use Rattle.script.proofs.Cases.{ten}
use Rattle.script.proofs.Coded.{length-encode, encode-decode}

-- a command has as many operands as its byte says, at most three
pub width_of : (b x y z : ℕ) → 1 ≤ b → b ≤ last_command → operands (decode (b ∷ x ∷ y ∷ z ∷ [])) ≡ operands (decode (b ∷ []))
unfolding decode
width_of b x y z low high =
    ten b (omega arith) (λ e. rw e) (λ e. rw e) (λ e. rw e) (λ e. rw e) (λ e. rw e) (λ e. rw e) (λ e. rw e) (λ e. rw e) (λ e. rw e) (λ e. rw e)

pub width_few : (b : ℕ) → 1 ≤ b → b ≤ last_command → operands (decode (b ∷ [])) ≤ 3
unfolding decode
width_few b low high =
    ten b (omega arith) (λ e. rw e (omega arith)) (λ e. rw e (omega arith)) (λ e. rw e (omega arith)) (λ e. rw e (omega arith)) (λ e. rw e (omega arith)) (λ e. rw e (omega arith)) (λ e. rw e (omega arith)) (λ e. rw e (omega arith)) (λ e. rw e (omega arith)) (λ e. rw e (omega arith))

-- its bytes are the first of four
pub command-bytes : (b x y z : ℕ) → 1 ≤ b → b ≤ last_command → Bytes (x ∷ y ∷ z ∷ []) → take (1 + operands (decode (b ∷ []))) (b ∷ x ∷ y ∷ z ∷ []) ≡ encode (decode (b ∷ x ∷ y ∷ z ∷ []))
command-bytes b x y z low high bytes =
    let all = encode-decode b (x ∷ y ∷ z ∷ []) bytes low high (omega (arith, width_of b x y z low high, width_few b low high)) in
    let size : 1 + operands (decode (b ∷ [])) ≡ length (encode (decode (b ∷ x ∷ y ∷ z ∷ []))) = sym (length-encode (decode (b ∷ x ∷ y ∷ z ∷ [])) ∙ ap (λ n. 1 + n) (width_of b x y z low high)) in
    rw size (subst (λ l. take (length (encode (decode (b ∷ x ∷ y ∷ z ∷ [])))) l ≡ encode (decode (b ∷ x ∷ y ∷ z ∷ []))) all (take-append_seam (encode (decode (b ∷ x ∷ y ∷ z ∷ []))) _))

pub command-short : (b x y z : ℕ) → 1 ≤ b → b ≤ last_command → length (encode (decode (b ∷ x ∷ y ∷ z ∷ []))) ≤ 4
command-short b x y z low high = omega (arith, length-encode (decode (b ∷ x ∷ y ∷ z ∷ [])), width_of b x y z low high, width_few b low high)

-- a run of many ticks, as far as its commands are written
pub record RunsTo (t left : ℕ) (old : List ℕ) (at : ℕ) (new : List ℕ) : Type 0 where
  pub before : List ℕ
  pub fuel : ℕ
  pub wrote : Wrote before old at new
  pub enough : left ≤ longest_run * suc fuel
  pub all : encode_all (runs most_runs t) ≡ before ++ encode_all (runs (suc fuel) left)

pub runs_none : (t : ℕ) (old : List ℕ) → t ≤ last_tick → RunsTo t t old 0 old
runs_none t old h = record { before = []; fuel = 15; wrote = wrote_none old; enough = omega arith; all = refl }

module _ {t left : ℕ} {old : List ℕ} {at : ℕ} {new : List ℕ} (r : RunsTo t left old at new) where
  -- one more, and the last
  long : longest_run < left → encode_all (runs (suc r.fuel) left) ≡ encode (Run longest_run) ++ encode_all (runs r.fuel (left - longest_run))
  unfolding runs encode_all
  long h = rw (lt-leb left longest_run h)

  short : left ≤ longest_run → encode_all (runs (suc r.fuel) left) ≡ encode (Run left)
  unfolding runs encode_all
  short h = rw (le-leb left longest_run h) (append-nil (encode (Run left)))

  pub runs-room : longest_run < left → length (encode_all (runs most_runs t)) ≤ length old → length (r.before ++ encode (Run longest_run)) ≤ length old
  runs-room h room = omega (arith, ap length (r.all ∙ ap (λ l. r.before ++ l) (long h)), length-append r.before (encode (Run longest_run) ++ encode_all (runs r.fuel (left - longest_run))), length-append (encode (Run longest_run)) (encode_all (runs r.fuel (left - longest_run))), length-append r.before (encode (Run longest_run)))

  pub last-room : left ≤ longest_run → length (encode_all (runs most_runs t)) ≤ length old → length (r.before ++ encode (Run left)) ≤ length old
  last-room h room = omega (arith, ap length (r.all ∙ ap (λ l. r.before ++ l) (short h)))

  pub runs-more : longest_run < left → {ys : List ℕ} {n : ℕ} → Wrote (encode (Run longest_run)) (take (length new - at) (drop at new)) n ys → RunsTo t (left - longest_run) old (at + n) (put_mid at (length new - at) new ys)
  runs-more h {ys} {n} w = next r.fuel r.enough (long h)
    where
      next : (f : ℕ) → left ≤ longest_run * suc f → encode_all (runs (suc r.fuel) left) ≡ encode (Run longest_run) ++ encode_all (runs f (left - longest_run)) → RunsTo t (left - longest_run) old (at + n) (put_mid at (length new - at) new ys)
      next zero e l = absurd (omega arith)
      next (suc f) e l =
          record {
            before = r.before ++ encode (Run longest_run);
            fuel = f;
            wrote = wrote_part r.wrote w;
            enough = omega arith;
            all = r.all ∙ ap (λ x. r.before ++ x) l ∙ sym (append_assoc r.before (encode (Run longest_run)) (encode_all (runs (suc f) (left - longest_run))));
          }

  pub runs_last : left ≤ longest_run → {ys : List ℕ} {n : ℕ} → Wrote (encode (Run left)) (take (length new - at) (drop at new)) n ys → Wrote (encode_all (runs most_runs t)) old (at + n) (put_mid at (length new - at) new ys)
  runs_last h w = rw (r.all ∙ ap (λ l. r.before ++ l) (short h)) (wrote_part r.wrote w)

-- the bytes of a line are few
runs-few : (fuel t : ℕ) → length (encode_all (runs fuel t)) ≤ 3 * fuel
unfolding runs encode_all
runs-few zero t = omega arith
runs-few (suc fuel) t = which (dec_lt longest_run t) (runs-few fuel (t - longest_run))
  where
    which : Dec (longest_run < t) → length (encode_all (runs fuel (t - longest_run))) ≤ 3 * fuel → length (encode_all (runs (suc fuel) t)) ≤ 3 * suc fuel
    which (yes h) r = rw (lt-leb t longest_run h) (omega (arith, length-append (encode (Run longest_run)) (encode_all (runs fuel (t - longest_run))), length-encode (Run longest_run)))
    which (no h) r = rw (le-leb t longest_run (omega arith)) (omega (arith, length-append (encode (Run t)) [], length-encode (Run t)))

pub line_room_lem : (line : Line) → ProperLine line → length (bytes_of line) ≤ most_line_bytes
unfolding encode_all
line_room_lem code.Nothing p = omega arith
line_room_lem (code.Command b x y z) p = omega (arith, length-append (encode (decode (b ∷ x ∷ y ∷ z ∷ []))) [], command-short b x y z p.0 p.1)
line_room_lem (code.Run t) p = runs-few most_runs t
