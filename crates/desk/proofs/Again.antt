-- Bytes, their text, and its bytes again.
use mathlib.Core.Path.{◌≡◌, refl, sym, ap, ◌∙◌}
use mathlib.Core.List.{List}
use Prim.Native.Nat.{ℕ}
use native.Mathlib.Omega.{arith}
use borrow.Author.Tests.{le-ltb}
use lib.IntN.{pos}
use lib.ListN.{length}
use Rattle.election.specs.Commands.{Bytes as Octets}
use Rattle.election.specs.Schedule.{most_bytes}
use Rattle.script.specs.Assembled.{Schedule, script}
use Rattle.script.specs.Shown.{Showing, Text, NoneAt, shown_text}
use Rattle.script.proofs.Fitting.{text-fits}
use Rattle.script.proofs.Restoring.{restores}
use Rattle.desk.specs.Claims.{BytesAgain}
use Rattle.desk.specs.Said.{most_text, Read, reading, Saying, on_output, assembling, showing}

read_again : (bytes said : List ℕ) → Octets bytes → shown_text most_text bytes ≡ Text said → reading said ≡ Read bytes
unfolding reading
read_again bytes said o e =
    let fits = text-fits most_text bytes said e in
    let again : script most_bytes said ≡ Schedule bytes = restores most_text bytes said o e most_bytes fits.1 in
    rw (le-ltb most_text (length said) fits.0, again)

pub bytes-again : BytesAgain
bytes-again bytes said o e = by (shown_text most_text bytes) refl e
  where
    by : (s : Showing) → shown_text most_text bytes ≡ s → on_output said ≡ showing s → on_output bytes ≡ assembling (reading said)
    by (Text line) f g =
        let same : said ≡ line = ap (λ (x : Saying). x.text) g in
        rw (read_again bytes said o (f ∙ ap Text (sym same))) refl
    by (NoneAt at why) f g =
        let out : pos 1 ≡ pos 2 = ap (λ (x : Saying). x.out) g in
        let z : ◌≡◌ {A = ℕ} 1 2 = cc in
        absurd (omega arith)
