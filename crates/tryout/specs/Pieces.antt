-- The parts in which the listing after a command is written.
use Rattle.std.specs.Prelude.{List, ◌++◌, cond, ℕ, eqb, length}
use Rattle.tryout.specs.Told.{no_table, after_word}

-- a listing that was shown, or that there is none
abbrev pub shown_or : List ℕ → List ℕ
shown_or shown = cond (eqb (length shown) 0) no_table shown

unfoldable pub after_shown : List ℕ → List ℕ
after_shown shown = after_word ++ shown_or shown
