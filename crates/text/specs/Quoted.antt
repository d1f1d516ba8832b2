-- A text as bytes.
use Rattle.std.specs.Prelude.{List, [], ◌∷◌, ℕ}
use Prim.Native.Char.{code}
use Prim.Native.String.{String}
use Prim.Native.String as string

-- the characters of a text by their codes, which are bytes where the text is ASCII
unfoldable pub text : String → List ℕ
text string.[] = []
text (string.◌∷◌ c s) = code c ∷ text s
