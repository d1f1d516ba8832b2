use Rattle.std.proofs.Common.{List, ℕ, ℤ, sym, take}
use lib.Seq.{length-take-le}
use Rattle.calls.specs.Moved.{CutAt}
use Rattle.calls.specs.Streams.{Goes}
use Rattle.calls.proofs.Known.{read_filled}
use Rattle.text.proofs.Parts.{wrote_inside}
use Rattle.election.specs.Schedule.{most_bytes}
use Rattle.tryout.proofs.Knowing.{all_said, known_said}
use Rattle.tryout.proofs.run.Goals as goal

pub slice_bounds-text-end : goal.slice_bounds-text-end
slice_bounds-text-end g c = wrote_inside c.put_said-said.ensures.wrote

pub slice_bounds-write_to-end : goal.slice_bounds-write_to-end
slice_bounds-write_to-end g c = sym (length-take-le _ _ (wrote_inside c.put_said-said.ensures.wrote))

pub returns-in-Ok-write_to-clause-ended : goal.returns-in-Ok-write_to-clause-ended
returns-in-Ok-write_to-clause-ended g c =
    let e = c.in-Ok.ensures in
    let goes : ℤ → List ℕ → Type 0 = λ d. Goes d (g.O.Write.contents c.args.out.now) (g.O.Write.contents c.write_to.new.out) (g.E.Write.contents c.args.err.now) (g.E.Write.contents c.write_to.new.err) in (
      take c.in-Ok.filled.size c.read_whole.new.buffer,
      read_filled most_bytes c.in-Ok.filled _ _ c.read_whole.new.buffer c.read_whole.auto.buffer e.bound e.whole e.end e.bytes,
      all_said _ _ goes c.put_said-said.ensures.wrote c.put_said-said.ensures.stream_value c.in-Ok-write_to.ensures.taken,
    )

pub returns-in-Ok-write_to-clause-known : goal.returns-in-Ok-write_to-clause-known
returns-in-Ok-write_to-clause-known g c =
    let e = c.in-Ok.ensures in
    let goes : ℤ → List ℕ → Type 0 = λ d. Goes d (g.O.Write.contents c.args.out.now) (g.O.Write.contents c.write_to.new.out) (g.E.Write.contents c.args.err.now) (g.E.Write.contents c.write_to.new.err) in
    known_said _ _ c.read_whole.new.buffer c.in-Ok.filled.size c.args.bytes.now goes c.read_whole.auto.buffer e.bound e.end e.bytes
    (all_said _ _ goes c.put_said-said.ensures.wrote c.put_said-said.ensures.stream_value c.in-Ok-write_to.ensures.taken)

pub returns-in-Err-write_to-clause-ended : goal.returns-in-Err-write_to-clause-ended
returns-in-Err-write_to-clause-ended g c =
    let e = c.in-Ok.ensures in
    let part : ℤ → List ℕ → Type 0 = λ d text. CutAt c.in-Err-write_to.cut.at text (Goes d (g.O.Write.contents c.args.out.now) (g.O.Write.contents c.write_to.new.out) (g.E.Write.contents c.args.err.now) (g.E.Write.contents c.write_to.new.err)) in (
      c.in-Err-write_to.ensures.last,
      (
        take c.in-Ok.filled.size c.read_whole.new.buffer,
        read_filled most_bytes c.in-Ok.filled _ _ c.read_whole.new.buffer c.read_whole.auto.buffer e.bound e.whole e.end e.bytes,
        all_said _ _ part c.put_said-said.ensures.wrote c.put_said-said.ensures.stream_value c.in-Err-write_to.ensures.taken,
      ),
    )

pub returns-in-Err-write_to-clause-known : goal.returns-in-Err-write_to-clause-known
returns-in-Err-write_to-clause-known g c =
    let e = c.in-Ok.ensures in
    let part : ℤ → List ℕ → Type 0 = λ d text. CutAt c.in-Err-write_to.cut.at text (Goes d (g.O.Write.contents c.args.out.now) (g.O.Write.contents c.write_to.new.out) (g.E.Write.contents c.args.err.now) (g.E.Write.contents c.write_to.new.err)) in
    known_said _ _ c.read_whole.new.buffer c.in-Ok.filled.size c.args.bytes.now part c.read_whole.auto.buffer e.bound e.end e.bytes
    (all_said _ _ part c.put_said-said.ensures.wrote c.put_said-said.ensures.stream_value c.in-Err-write_to.ensures.taken)
