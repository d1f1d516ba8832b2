-- The bytes of commands.
use Rattle.std.specs.Prelude.{List, [], ◌∷◌, ◌++◌, cond, ℕ, zero, suc, ◌+◌, ◌/◌, ◌%◌, length, drop}
use Rattle.election.specs.Commands.{Command, SetUp, Start, Crash, Link, Run, Lose, Report, Rank, decode, operands}

unfoldable pub encode : Command → List ℕ
encode (SetUp clock n period) = cond clock 0x09 0x01 ∷ n ∷ period ∷ []
encode (Start p) = 0x02 ∷ p ∷ []
encode (Crash p) = 0x03 ∷ p ∷ []
encode (Link p q d) = 0x04 ∷ p ∷ q ∷ d ∷ []
encode (Run t) = 0x05 ∷ t % 256 ∷ t / 256 ∷ []
encode (Lose p q) = 0x06 ∷ p ∷ q ∷ []
encode Report = 0x07 ∷ []
encode (Rank p r) = 0x08 ∷ p ∷ r ∷ []

unfoldable pub encode_all : List Command → List ℕ
encode_all [] = []
encode_all (c ∷ cs) = encode c ++ encode_all cs

-- the commands of some bytes, as the desk decodes them, one after the other
unfoldable pub decode_from : ℕ → List ℕ → List Command
decode_from zero bytes = []
decode_from (suc fuel) [] = []
decode_from (suc fuel) (b ∷ bytes) =
    let c : Command = decode (b ∷ bytes) in
    c ∷ decode_from fuel (drop (1 + operands c) (b ∷ bytes))

abbrev pub decode_all : List ℕ → List Command
decode_all bytes = decode_from (length bytes) bytes
