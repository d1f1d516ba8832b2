-- Why something is turned down, in words.
use Rattle.std.specs.Prelude.{List, ◌++◌, cond, ℕ, eqb}
use Rattle.text.specs.Numbers.{named}
use Rattle.text.specs.Quoted.{text}

-- the reason, by the papers' number of the refusal; a number that is not named is 25, the only one left
unfoldable pub reason : ℕ → List ℕ
reason r =
    cond (eqb r 1) (text "the byte is none of the nine commands")
    (cond (eqb r 2) (text "operands are missing")
    (cond (eqb r 3) (text "nothing is set up")
    (cond (eqb r 4) (text "set up a second time")
    (cond (eqb r 5) (text "stations not 2 to 8")
    (cond (eqb r 6) (text "period not 16 to 255")
    (cond (eqb r 7) (text "a station number not 1 to n")
    (cond (eqb r 8) (text "the station to start is up")
    (cond (eqb r 9) (text "the station to crash is down")
    (cond (eqb r 10) (text "the station to start has been started 4095 times")
    (cond (eqb r 11) (text "a link from a station to itself")
    (cond (eqb r 13) (text "a run of no ticks")
    (cond (eqb r 14) (text "a run past tick 1,000,000")
    (cond (eqb r 15) (text "the table is unsound")
    (cond (eqb r 16) (text "the buffer is shorter than the listing")
    (cond (eqb r 21) (text "more than 65,536 bytes")
    (cond (eqb r 22) (text "a rank above 7")
    (cond (eqb r 23) (text "a rank after the first start of any station")
    (text "a rank on heads with a running clock"))))))))))))))))))

-- the number and the reason
unfoldable pub refused : ℕ → List ℕ
refused r = named (text "refused ") r ++ text ", " ++ reason r
