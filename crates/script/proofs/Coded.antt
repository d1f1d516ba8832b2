-- Laws of commands as bytes.
use mathlib.Core.Path.{◌≡◌, refl, sym, ap, ◌∙◌}
use mathlib.Core.List.{List, [], ◌∷◌, ◌++◌, append_assoc, append-nil}
use mathlib.Core.Bool.{true, false}
use Prim.Native.Nat.{ℕ, zero, suc, ◌+◌, ◌*◌, ◌/◌, ◌%◌, ◌≤◌}
use native.Mathlib.Omega.{arith}
use lib.ListN.{length, get_or, drop, length-append}
use lib.Seq.{drop_at}
use Rattle.election.specs.Commands.{Command, SetUp, Start, Crash, Link, Run, Lose, Report, Rank, Bytes, decode, operands, last_command}
use Rattle.script.specs.Encoded.{encode, encode_all, decode_from}
use Rattle.script.proofs.Cases.{ten}

-- the desk decodes what was encoded, whatever follows
pub decode-encode : (c : Command) (more : List ℕ) → decode (encode c ++ more) ≡ c
unfolding decode encode
decode-encode (SetUp true n period) more = refl
decode-encode (SetUp false n period) more = refl
decode-encode (Start p) more = refl
decode-encode (Crash p) more = refl
decode-encode (Link p q d) more = refl
decode-encode (Run t) more = let e : t % 256 + 256 * (t / 256) ≡ t = omega arith in ap Run e
decode-encode (Lose p q) more = refl
decode-encode Report more = refl
decode-encode (Rank p r) more = refl

pub length-encode : (c : Command) → length (encode c) ≡ 1 + operands c
unfolding encode
length-encode (SetUp clock n period) = refl
length-encode (Start p) = refl
length-encode (Crash p) = refl
length-encode (Link p q d) = refl
length-encode (Run t) = refl
length-encode (Lose p q) = refl
length-encode Report = refl
length-encode (Rank p r) = refl

pub encode-append : (cs ds : List Command) → encode_all (cs ++ ds) ≡ encode_all cs ++ encode_all ds
unfolding encode_all
encode-append [] ds = refl
encode-append (c ∷ cs) ds = rw (encode-append cs ds) (sym (append_assoc (encode c) (encode_all cs) (encode_all ds)))

pub encode_one : (c : Command) → encode_all (c ∷ []) ≡ encode c
unfolding encode_all
encode_one c = append-nil (encode c)

-- one command, and those behind it
decode-step : (fuel : ℕ) (c : Command) (more bytes : List ℕ) → bytes ≡ encode c ++ more → decode_from (suc fuel) bytes ≡ c ∷ decode_from fuel more
unfolding decode_from
decode-step fuel c more [] e = absurd (omega (arith, ap length e, length-append (encode c) more, length-encode c))
decode-step fuel c more (b ∷ bytes) e =
    let d : decode (b ∷ bytes) ≡ c = ap decode e ∙ decode-encode c more in
    rw (d, e, drop_at (encode c) more (1 + operands c) (length-encode c))

-- decoding all restores the commands
pub decode-from : (cs : List Command) (fuel : ℕ) → length (encode_all cs) ≤ fuel → decode_from fuel (encode_all cs) ≡ cs
unfolding decode_from encode_all
decode-from [] zero h = refl
decode-from [] (suc fuel) h = refl
decode-from (c ∷ cs) zero h = absurd (omega (arith, length-append (encode c) (encode_all cs), length-encode c))
decode-from (c ∷ cs) (suc fuel) h =
    decode-step fuel c (encode_all cs) (encode c ++ encode_all cs) refl ∙ ap (λ (l : List Command). c ∷ l) (decode-from cs fuel (omega (arith, length-append (encode c) (encode_all cs), length-encode c)))

-- operands that are all there, and what is behind them
one-there : (bytes : List ℕ) → 1 ≤ length bytes → get_or bytes 0 0 ∷ drop 1 bytes ≡ bytes
one-there [] h = absurd (omega arith)
one-there (x ∷ bytes) h = refl

two_there : (bytes : List ℕ) → 2 ≤ length bytes → get_or bytes 0 0 ∷ get_or bytes 1 0 ∷ drop 2 bytes ≡ bytes
two_there [] h = absurd (omega arith)
two_there (x ∷ bytes) h = ap (λ (l : List ℕ). x ∷ l) (one-there bytes (omega arith))

three-there : (bytes : List ℕ) → 3 ≤ length bytes → get_or bytes 0 0 ∷ get_or bytes 1 0 ∷ get_or bytes 2 0 ∷ drop 3 bytes ≡ bytes
three-there [] h = absurd (omega arith)
three-there (x ∷ bytes) h = ap (λ (l : List ℕ). x ∷ l) (two_there bytes (omega arith))

-- the low byte and the high byte of the ticks of a run
ticks-there : (bytes : List ℕ) → Bytes bytes → 2 ≤ length bytes → (get_or bytes 0 0 + 256 * get_or bytes 1 0) % 256 ∷ (get_or bytes 0 0 + 256 * get_or bytes 1 0) / 256 ∷ drop 2 bytes ≡ bytes
ticks-there [] o h = absurd (omega arith)
ticks-there (x ∷ []) o h = absurd (omega arith)
ticks-there (x ∷ y ∷ bytes) o h =
    let low : (x + 256 * y) % 256 ≡ x = omega (arith, o.0) in
    let high : (x + 256 * y) / 256 ≡ y = omega (arith, o.0) in
    rw (low, high)

-- the bytes of a command that was decoded are those that it was decoded from
pub encode-decode : (b : ℕ) (bytes : List ℕ) → Bytes bytes → 1 ≤ b → b ≤ last_command → operands (decode (b ∷ bytes)) ≤ length bytes → encode (decode (b ∷ bytes)) ++ drop (1 + operands (decode (b ∷ bytes))) (b ∷ bytes) ≡ b ∷ bytes
unfolding decode encode
encode-decode b bytes o low high =
    ten b (omega arith)
    (λ e. absurd (omega arith))
    (λ e. rw e (λ h. ap (λ (l : List ℕ). 1 ∷ l) (two_there bytes h)))
    (λ e. rw e (λ h. ap (λ (l : List ℕ). 2 ∷ l) (one-there bytes h)))
    (λ e. rw e (λ h. ap (λ (l : List ℕ). 3 ∷ l) (one-there bytes h)))
    (λ e. rw e (λ h. ap (λ (l : List ℕ). 4 ∷ l) (three-there bytes h)))
    (λ e. rw e (λ h. ap (λ (l : List ℕ). 5 ∷ l) (ticks-there bytes o h)))
    (λ e. rw e (λ h. ap (λ (l : List ℕ). 6 ∷ l) (two_there bytes h)))
    (λ e. rw e (λ h. refl))
    (λ e. rw e (λ h. ap (λ (l : List ℕ). 8 ∷ l) (two_there bytes h)))
    (λ e. rw e (λ h. ap (λ (l : List ℕ). 9 ∷ l) (two_there bytes h)))
