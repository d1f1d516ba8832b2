use Rattle.text.specs.Quoted.{text}
use Rattle.text.proofs.Parts.{wrote_part, room_at, room-part, room-first, ends-in}
use Rattle.words.specs.Doings.{doing_of}
use Rattle.decision.proofs.Bytes.{sees-for-all}
use Rattle.tryout.proofs.Telling.{answered_taken, answered_turned}
use Rattle.tryout.proofs.told.put_answer.Goals as goal

pub put-at-requires : goal.put-at-requires
unfolding text
put-at-requires c =
    let e = answered_taken c.args.s.now c.args.bytes.now c.requires.0 c.in-Ok.command (rw c.in-Ok.is at c.decide.ensures c.args.s.now c.requires.0 (sees-for-all c.args.s.now _ c.args.bytes.now c.from.ensures)) in
    room-first (text "would ") (doing_of c.in-Ok.command) (rw (← e) at c.requires.1)

pub slice_bounds-put_doing-count : goal.slice_bounds-put_doing-count
unfolding text
slice_bounds-put_doing-count c =
    let e = answered_taken c.args.s.now c.args.bytes.now c.requires.0 c.in-Ok.command (rw c.in-Ok.is at c.decide.ensures c.args.s.now c.requires.0 (sees-for-all c.args.s.now _ c.args.bytes.now c.from.ensures)) in
    room_at (doing_of c.in-Ok.command) c.put-at.ensures (rw (← e) at c.requires.1)

pub slice_bounds-put_doing-start : goal.slice_bounds-put_doing-start
unfolding text
slice_bounds-put_doing-start c =
    let e = answered_taken c.args.s.now c.args.bytes.now c.requires.0 c.in-Ok.command (rw c.in-Ok.is at c.decide.ensures c.args.s.now c.requires.0 (sees-for-all c.args.s.now _ c.args.bytes.now c.from.ensures)) in
    room_at (doing_of c.in-Ok.command) c.put-at.ensures (rw (← e) at c.requires.1)

pub put_doing-requires : goal.put_doing-requires
unfolding text
put_doing-requires c =
    let e = answered_taken c.args.s.now c.args.bytes.now c.requires.0 c.in-Ok.command (rw c.in-Ok.is at c.decide.ensures c.args.s.now c.requires.0 (sees-for-all c.args.s.now _ c.args.bytes.now c.from.ensures)) in
    room-part (doing_of c.in-Ok.command) c.put-at.ensures (rw (← e) at c.requires.1)

pub overflow_add-result : goal.overflow_add-result
unfolding text
overflow_add-result c =
    let e = answered_taken c.args.s.now c.args.bytes.now c.requires.0 c.in-Ok.command (rw c.in-Ok.is at c.decide.ensures c.args.s.now c.requires.0 (sees-for-all c.args.s.now _ c.args.bytes.now c.from.ensures)) in
    record { fits = ends-in (wrote_part c.put-at.ensures c.put_doing.ensures) (rw (← e) at c.requires.1) c.well_formed.1.1.0.0 }

pub put_refused-requires : goal.put_refused-requires
put_refused-requires c =
    rw (answered_turned c.args.s.now c.args.bytes.now c.requires.0 c.in-Err.why (rw c.in-Err.is at c.decide.ensures c.args.s.now c.requires.0 (sees-for-all c.args.s.now _ c.args.bytes.now c.from.ensures))) c.requires.1

pub returns-in-Ok : goal.returns-in-Ok
unfolding text
returns-in-Ok c =
    rw (← answered_taken c.args.s.now c.args.bytes.now c.requires.0 c.in-Ok.command (rw c.in-Ok.is at c.decide.ensures c.args.s.now c.requires.0 (sees-for-all c.args.s.now _ c.args.bytes.now c.from.ensures)))
    (wrote_part c.put-at.ensures c.put_doing.ensures)

pub returns-in-Err : goal.returns-in-Err
returns-in-Err c =
    rw (← answered_turned c.args.s.now c.args.bytes.now c.requires.0 c.in-Err.why (rw c.in-Err.is at c.decide.ensures c.args.s.now c.requires.0 (sees-for-all c.args.s.now _ c.args.bytes.now c.from.ensures))) c.put_refused.ensures
