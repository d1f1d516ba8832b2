-- Laws of a text that is written in parts.
use Rattle.std.proofs.Common.{◌≡◌, sym, subst, List, ◌++◌, ℕ, ◌+◌, Option, length, take, length-append, arith}
use Rattle.std.proofs.KnownBytes.{Appends-trans}
use Rattle.std.proofs.lemmas.List.{take-append-le}
use Rattle.std.proofs.Math.Seq.{take-append-add}
use Rattle.std.specs.Io.KnownBytes.{Appends}
use Rattle.calls.specs.Moved.{CutAt, TakenPart}

-- a front of the first part is a front of all
pub part_first : (first rest : List ℕ) (Holds : List ℕ → Type 0) → TakenPart first Holds → TakenPart (first ++ rest) Holds
part_first first rest Holds t = (t.0, omega (arith, t.1, length-append first rest), subst Holds (sym (take-append-le t.0 first rest (omega (arith, t.1)))) t.2)

-- all of the first part, and a front of the rest
pub part_rest : (a b c : Option (List ℕ)) (first rest : List ℕ) → Appends a b first → TakenPart rest (Appends b c) → TakenPart (first ++ rest) (Appends a c)
part_rest a b c first rest one t =
    (length first + t.0, omega (arith, t.1, length-append first rest), subst (Appends a c) (sym (take-append-add first rest t.0)) (Appends-trans a b c first (take t.0 rest) one t.2))

-- and with its count: a front of the first part, or all of it and a front of the rest
pub cut_first : (n : ℕ) (first rest : List ℕ) (Holds : List ℕ → Type 0) → CutAt n first Holds → CutAt n (first ++ rest) Holds
cut_first n first rest Holds t = (omega (arith, t.0, length-append first rest), subst Holds (sym (take-append-le n first rest (omega (arith, t.0)))) t.1)

pub cut_rest : (a b c : Option (List ℕ)) (first rest : List ℕ) (size n : ℕ) → size ≡ length first → Appends a b first → CutAt n rest (Appends b c) → CutAt (size + n) (first ++ rest) (Appends a c)
cut_rest a b c first rest size n is one t =
    subst (λ k. CutAt (k + n) (first ++ rest) (Appends a c)) (sym is)
    (omega (arith, t.0, length-append first rest), subst (Appends a c) (sym (take-append-add first rest n)) (Appends-trans a b c first (take n rest) one t.1))
