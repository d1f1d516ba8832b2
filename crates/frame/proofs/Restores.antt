-- Reading restores what was written, and writing what was read.
use mathlib.Core.Path.{◌∙◌}
use Rattle.lists.proofs.Entries.{take_over}
use Rattle.frame.specs.Claims.{ReadRestores, WriteRestores}
use Rattle.frame.proofs.Accepted.{readable, reading-of, writable, writing-of}
use Rattle.frame.proofs.Body.{length-counts_of}
use Rattle.frame.proofs.WellFormed.{frame-counts_of, reading-frame}

pub read-restores : ReadRestores
read-restores n sender counts buffer e =
    let w = writable n sender counts buffer e in
    rw (writing-of n sender counts buffer w, take_over) (reading-frame n sender counts w.stations w.size w.sender-in w.counts-in)

pub write_restores : WriteRestores
write_restores n bytes buffer o e h =
    let r = readable n bytes e in
    let same = frame-counts_of n bytes o r in
    rw (reading-of n bytes r, take_over n _ _ (length-counts_of n bytes))
    (writing-of n _ _ buffer
    (record { stations = r.stations; size = length-counts_of n bytes; sender-in = r.sender; counts-in = r.counts; room = rw same h })
    ∙ rw same)
