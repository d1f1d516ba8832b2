-- Captures computed: what is printed for a text with a line of each kind.
use Rattle.std.specs.Prelude.{◌≡◌, ◌++◌}
use Rattle.text.specs.Quoted.{text}
use Rattle.frames.specs.Explained.{output}

-- a frame with and without blanks, in either case; an old one; each refusal; a clock frame, and each of its refusals; a digit alone, a blank within a byte, a
-- character that is none; no byte, and one
abbrev pub Kinds : Type 0
Kinds =
    output
    (text "10 02 02 01 00 01 00\n"
    ++ text "1002030700FF0Fff0f\n"
    ++ text "\t10  01 02 Ff 0f 00 00 \r\n"
    ++ text "10 02 01 00 01 00\n"
    ++ text "10 02 02 00 01 00\n"
    ++ text "10 02 01 01 00 01 00\n"
    ++ text "12 02 02 01 00 01 00\n"
    ++ text "10 03 02 01 00 01 00\n"
    ++ text "10 02 02 00 10 01 00\n"
    ++ text "10 02 02 01 00 00 00\n"
    ++ text "11 02 78 56 34 12\n"
    ++ text "11 09 78 56 34\n"
    ++ text "11 09 78 56 34 12\n"
    ++ text "10 02 02 01 00 01 0\n"
    ++ text "10 02 02 01 00 01 0 0\n"
    ++ text "10 02 02 01 00 01 0g\n"
    ++ text "\n"
    ++ text "10 02")
    ≡ text "line 1: sender 2 n 2 counts 1,1\n"
    ++ text "line 2: sender 2 n 3 counts 7,4095,4095\n"
    ++ text "line 3: sender 1 n 2 counts 4095,0\n"
    ++ text "line 4: refused 17, the length is not 3 + 2n\n"
    ++ text "line 5: refused 17, the length is not 3 + 2n\n"
    ++ text "line 6: refused 5, n is not 2 to 8\n"
    ++ text "line 7: refused 18, the first byte is neither 10 nor 11 hex\n"
    ++ text "line 8: refused 19, the sender is not 1 to n\n"
    ++ text "line 9: refused 20, a count is above 4095, or the sender's own is 0\n"
    ++ text "line 10: refused 20, a count is above 4095, or the sender's own is 0\n"
    ++ text "line 11: sender 2 stamp 305419896\n"
    ++ text "line 12: refused 17, the length is not 6\n"
    ++ text "line 13: refused 19, the sender is not 1 to 8\n"
    ++ text "line 14: no hex\n"
    ++ text "line 15: no hex\n"
    ++ text "line 16: no hex\n"
    ++ text "line 17: refused 17, the length is not 3 + 2n\n"
    ++ text "line 18: refused 17, the length is not 3 + 2n\n"
