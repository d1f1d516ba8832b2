-- What was read so far, and what was written for it.
use Rattle.std.proofs.Common.{◌≡◌, refl, sym, ap, subst, ◌∙◌, append-nil, List, [], ◌++◌, ℕ, ◌+◌, ◌<◌, ◌≤◌, Option, length, Result, Ok, Err, IfErr, IsErr, is_ok, length-append, arith}
use mathlib.Core.Bool.{true≢false}
use Rattle.std.proofs.KnownBytes.{Appends-nil, Appends-trans, Consumes-nil, Consumes-trans}
use Rattle.std.specs.Io.KnownBytes.{Appends, Consumes, IsAtEnd}
use Rattle.frames.specs.Claims.{ended}
use Rattle.frames.specs.Explained.{output}
use Rattle.frames.specs.Line.{begin, after, printed}
use Rattle.calls.specs.Moved.{CutAt, MovedNone, TakenPart, TakenTo}
use Rattle.calls.specs.declared.Cut.{Cut}
use Rattle.calls.proofs.Taken.{part_first, part_rest}
use Rattle.frames.specs.Moves.{most_reads, Written, Moves}
use Rattle.frames.specs.declared.Failure.{Failure}
use Rattle.frames.specs.declared.Failure.TheVariants.{Read, Write, TooLong}
use Rattle.frames.specs.Line.{Line}
use Rattle.frames.proofs.Going.{after-append, printed-append}
use Rattle.frames.proofs.Mapped.{wrote, all_taken}
use Rattle.frames.proofs.Whole.{whole}

-- some text was read, in so many reads that brought something, which left the line, and all that is printed for it was written
pub record Reached (reads : ℕ) (line : Line) (before left old new : Option (List ℕ)) : Type 0 where
  pub given : List ℕ
  pub read : Consumes before left given
  pub many : reads ≤ length given
  pub is : line ≡ after (begin 1) given
  pub written : Appends old new (printed (begin 1) given)

pub reached-first : (before old : Option (List ℕ)) → Reached 0 (begin 1) before before old old
unfolding after printed
reached-first before old = record { given = []; read = Consumes-nil before; many = omega arith; is = refl; written = Appends-nil old }

-- a part more was read
module _ {reads : ℕ} {line : Line} {before left old new : Option (List ℕ)} (here : Reached reads line before left old new) (part : List ℕ) (left' : Option (List ℕ)) (read : Consumes left left' part) where
  all_read : Consumes before left' (here.given ++ part)
  all_read = Consumes-trans before left left' here.given part here.read read

  both : printed (begin 1) (here.given ++ part) ≡ printed (begin 1) here.given ++ printed line part
  both = printed-append (begin 1) here.given part ∙ ap (λ s. printed (begin 1) here.given ++ printed s part) (sym here.is)

  -- and all of what is printed for it was written
  pub reached-on : (new' : Option (List ℕ)) (told : Result (Unit {0}) Cut) (x : Unit {0}) → wrote told ≡ Ok x → 0 < length part → TakenTo told (printed line part) (Appends new new')
      → Reached (reads + 1) (after line part) before left' old new'
  reached-on new' told x is some taken =
      record {
        given = here.given ++ part;
        read = all_read;
        many = omega (arith, here.many, length-append here.given part);
        is = ap (λ s. after s part) here.is ∙ sym (after-append (begin 1) here.given part);
        written = subst (Appends old new') (sym both) (Appends-trans old new new' _ _ here.written (all_taken told x (printed line part) (Appends new new') is taken));
      }

  -- or not all of it
  part_taken : (new' : Option (List ℕ)) (cut : Cut) → MovedNone cut → CutAt cut.at (printed line part) (Appends new new') → Moves (Err (Write cut)) before left' old new'
  part_taken new' cut none taken =
      let given : List ℕ = here.given ++ part in
      let rest = printed (after (begin 1) given) (ended (after (begin 1) given)) in
      let all : (printed (begin 1) here.given ++ printed line part) ++ rest ≡ output given = ap (λ l. l ++ rest) (sym both) ∙ whole given in
      record {
        given = given;
        read = all_read;
        written = (none, subst (λ l. TakenPart l (Appends old new')) all (part_first _ rest (Appends old new') (part_rest old new new' (printed (begin 1) here.given) (printed line part) here.written (cut.at, taken.0, taken.1))));
      }

  pub reached-some : (new' : Option (List ℕ)) (told : Result (Unit {0}) Cut) (why : Failure) → wrote told ≡ Err why → IfErr told MovedNone → TakenTo told (printed line part) (Appends new new')
      → Moves (Err why) before left' old new'
  reached-some new' (Ok x) why is none taken = absurd (true≢false (ap is_ok is))
  reached-some new' (Err cut) why is none taken = subst (λ r. Moves r before left' old new') is (part_taken new' cut none taken)

module _ {reads : ℕ} {line : Line} {before left old new : Option (List ℕ)} (here : Reached reads line before left old new) where
  -- where a read failed, and after as many reads as the program makes
  pub not_read : (left' : Option (List ℕ)) (cut : Cut) → IsErr cut.last → Consumes left left' [] → Moves (Err (Read cut)) before left' old new
  not_read left' cut failed none =
      record { given = here.given; read = subst (Consumes before left') (append-nil here.given) (Consumes-trans before left left' here.given [] here.read none); written = (failed, here.written) }

  pub too_long : most_reads ≤ reads → Moves (Err TooLong) before left old new
  too_long all = record { given = here.given; read = here.read; written = (omega (arith, here.many), here.written) }

  -- at the end of the input, once the last line was told, or not all of it
  pub at_end : (left' new' : Option (List ℕ)) (last : Result (Unit {0}) Cut) → Consumes left left' [] → IsAtEnd left' → IfErr last MovedNone → TakenTo last (printed line (ended line)) (Appends new new')
      → Moves (wrote last) before left' old new'
  at_end left' new' last none end moved taken = record { given = here.given; read = read; written = go last moved taken }
    where
      p : List ℕ
      p = printed (begin 1) here.given

      q : List ℕ
      q = printed line (ended line)

      all : p ++ q ≡ output here.given
      all = ap (λ s. p ++ printed s (ended s)) here.is ∙ whole here.given

      read : Consumes before left' here.given
      read = subst (Consumes before left') (append-nil here.given) (Consumes-trans before left left' here.given [] here.read none)

      go : (r : Result (Unit {0}) Cut) → IfErr r MovedNone → TakenTo r q (Appends new new') → Written (wrote r) here.given left' old new'
      go (Ok x) m t = (end, subst (Appends old new') all (Appends-trans old new new' p q here.written t))
      go (Err cut) m t = (m, subst (λ l. TakenPart l (Appends old new')) all (part_rest old new new' p q here.written (cut.at, t.0, t.1)))
