use Rattle.std.proofs.Common.{◌≡◌, ◌≤◌, arith, length, take, length-take-le, sym, ◌∙◌}
use Rattle.frames.specs.Line.{begin}
use Rattle.frames.proofs.Going.{number_after}
use Rattle.frames.proofs.Mapped.{err_is, is_wrote}
use Rattle.frames.proofs.Moving.{reached-first, reached-on, reached-some, at_end}
use Rattle.frames.proofs.run.Goals as goal

pub loop-init : goal.loop-init
unfolding begin
loop-init g c = record { number = rw c.begin-line.ensures (omega arith); reached = rw c.begin-line.ensures (reached-first _ _) }

pub returns-then-size-eq0 : goal.returns-then-size-eq0
returns-then-size-eq0 g c =
    let read = c.in-Ok.ensures.bytes in
    rw (is_wrote c.finish.result c.map_err.result c.map_err.ensures.cases)
    (at_end c.loop.invariant.reached (g.R.Read.remaining c.read.new.self) (g.W.Write.contents c.finish.new.writer) c.finish.result (rw c.if-size-eq0.true at read.0)
    (read.1 c.if-size-eq0.true (omega (arith, c.read.auto.buf, c.loop.auto.space, c.requires.0))) c.finish.ensures.last c.finish.ensures.taken)

pub returns-in_err-map_err : goal.returns-in_err-map_err
returns-in_err-map_err g c =
    let part = take c.in-Ok.size c.read.new.buf in
    let is = sym (is_wrote c.tell.result c.map_err-in-loop.result c.map_err-in-loop.ensures.cases) ∙ c.in_err-map_err.was in
    rw (err_is _ _ c.from_residual.ensures.1)
    (reached-some c.loop.invariant.reached part (g.R.Read.remaining c.read.new.self) c.in-Ok.ensures.bytes.0 (g.W.Write.contents c.tell.new.writer) c.tell.result _ is c.tell.ensures.last c.tell.ensures.taken)

pub loop-preserved : goal.loop-preserved
loop-preserved g c =
    let i = c.loop.invariant in
    let size = c.in-Ok.size in
    let part = take size c.read.new.buf in
    let long : length part ≡ size = length-take-le size c.read.new.buf (omega (arith, c.in-Ok.ensures.bound.0)) in
    let few : length part ≤ 1024 = omega (arith, long, c.in-Ok.ensures.bound.0, c.read.auto.buf, c.loop.auto.space, c.requires.1) in
    let is = sym (is_wrote c.tell.result c.map_err-in-loop.result c.map_err-in-loop.ensures.cases) ∙ c.in_ok-map_err.was in
    record {
      number = rw c.tell.ensures.line_value (omega (arith, number_after c.loop.line part, few, i.number));
      reached = rw c.tell.ensures.line_value (reached-on i.reached part (g.R.Read.remaining c.read.new.self) c.in-Ok.ensures.bytes.0 (g.W.Write.contents c.tell.new.writer) c.tell.result _ is (omega (arith, long, c.if-size-eq0.false)) c.tell.ensures.taken);
    }
