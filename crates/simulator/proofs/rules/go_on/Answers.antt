-- The function rules::go_on meets its contract.
use mathlib.Core.Path.{refl, sym, ap, subst, ◌∙◌}
use Prim.Native.Nat.{◌+◌}
use native.Mathlib.Omega.{arith}
use lib.ListN.{length, length-append}
use Rattle.election.specs.Commands.{Report, perform}
use Rattle.election.specs.Listing.{listing}
use Rattle.election.proofs.Accepting.{accepts}
use Rattle.election.proofs.Idle.{still_none}
use Rattle.election.proofs.Soundness.{sound-of}
use Rattle.layout.specs.Layout.{system_of}
use Rattle.text.proofs.Parts.{room-part}
use Rattle.listing.proofs.Room.{listing-room}
use Rattle.decision.specs.Decided.{command_of, meaning}
use Rattle.simulator.proofs.Turns.{decided-for, unlisted, Going, going_first, same_size, ends, turned_down, taken, stops_full, further, listed}
use Rattle.simulator.proofs.rules.go_on.Goals as goal
use Rattle.simulator.proofs.rules.go_on.Goals.{in-Report+then-list+else-buffer-size-lt-LONGEST_LISTING, in-Report+else-list, in_default}

pub loop-at-init : goal.loop-at-init
loop-at-init c = (refl, going_first _ _ _ c.args.s.now _ c.requires, still_none (system_of c.args.s.now))

pub returns-in-Err : goal.returns-in-Err
returns-in-Err c =
    let g = c.loop-at.invariant.1 in
    let m = decided-for (system_of c.loop-at.s) c.seen.result c.args.bytes.now c.loop-at.at (meaning c.decide.result) g.is-sound c.seen.ensures c.decide.ensures in
    turned_down _ _ _ _ _ _ _ _ _ g c.loop-at-test.true c.in-Err.why (rw c.in-Err.is at m)

pub returns-then-buffer-size-lt-LONGEST_LISTING : goal.returns-then-buffer-size-lt-LONGEST_LISTING
returns-then-buffer-size-lt-LONGEST_LISTING c =
    let g = c.loop-at.invariant.1 in
    let m = decided-for (system_of c.loop-at.s) c.seen.result c.args.bytes.now c.loop-at.at (meaning c.decide.result) g.is-sound c.seen.ensures c.decide.ensures in
    stops_full _ _ _ _ _ _ _ _ _ g c.loop-at-test.true Report (rw (c.in-Ok.is, c.in-Report.is) at m) (rw c.if-list.true refl)
    (omega (arith, c.if-buffer-size-lt-LONGEST_LISTING.true, c.loop-at.invariant.0))

pub invariant_of-shown : goal.invariant_of-shown
invariant_of-shown c =
    let g = c.loop-at.invariant.1 in
    let s = system_of c.loop-at.s in
    let m = decided-for s c.seen.result c.args.bytes.now c.loop-at.at (meaning c.decide.result) g.is-sound c.seen.ensures c.decide.ensures in
    let ready = accepts Report s (taken _ _ _ _ _ _ _ _ _ g c.loop-at-test.true Report (rw (c.in-Ok.is, c.in-Report.is) at m)).1 in
    record { few = (sound-of s g.is-sound ready).n-high }

pub write_listing-size-requires : goal.write_listing-size-requires
write_listing-size-requires c =
    let g = c.loop-at.invariant.1 in
    let s = system_of c.loop-at.s in
    let m = decided-for s c.seen.result c.args.bytes.now c.loop-at.at (meaning c.decide.result) g.is-sound c.seen.ensures c.decide.ensures in
    let ready = accepts Report s (taken _ _ _ _ _ _ _ _ _ g c.loop-at-test.true Report (rw (c.in-Ok.is, c.in-Report.is) at m)).1 in
    let few = (sound-of s g.is-sound ready).n-high in
    room-part (listing s) g.wrote (omega (arith, listing-room s few, c.if-buffer-size-lt-LONGEST_LISTING.false, g.wrote.count, same_size _ _ _ _ _ _ _ _ _ g, length-append g.text (listing s)))

pub overflow_add-size : goal.overflow_add-size
overflow_add-size c =
    let g = c.loop-at.invariant.1 in
    let s = system_of c.loop-at.s in
    let m = decided-for s c.seen.result c.args.bytes.now c.loop-at.at (meaning c.decide.result) g.is-sound c.seen.ensures c.decide.ensures in
    let ready = accepts Report s (taken _ _ _ _ _ _ _ _ _ g c.loop-at-test.true Report (rw (c.in-Ok.is, c.in-Report.is) at m)).1 in
    let fit = listing-room s (sound-of s g.is-sound ready).n-high in
    record { fits = omega (arith, c.write_listing-size.ensures.count, fit, c.if-buffer-size-lt-LONGEST_LISTING.false, c.loop-at.invariant.0, g.fits, c.well_formed.1.1.1.1.0.0) }

pub loop-at-preserved : goal.loop-at-preserved
unfolding perform
loop-at-preserved c =
    let g = c.loop-at.invariant.1 in
    let same = c.loop-at.invariant.0 in
    let s = system_of c.loop-at.s in
    let m = decided-for s c.seen.result c.args.bytes.now c.loop-at.at (meaning c.decide.result) g.is-sound c.seen.ensures c.decide.ensures in
    elim c.match-command.branch [
      | in-Report+then-list+else-buffer-size-lt-LONGEST_LISTING w ↦
          let e = rw (c.in-Ok.is, w.in-Report.is) at m in
          let ready = accepts Report s (taken _ _ _ _ _ _ _ _ _ g c.loop-at-test.true Report e).1 in
          let fit = listing-room s (sound-of s g.is-sound ready).n-high in
          let on = subst (λ z. Going c.args.list c.args.bytes.now c.args.buffer.now (system_of c.args.s.now) c.args.from z (c.loop-at.at + (1 + c.width.result)) c.match-command.size c.match-command.buffer) (sym w.s-is)
          (listed _ _ _ _ _ _ _ _ _ g c.loop-at-test.true Report e c.width.result c.width.ensures (rw w.if-list.true refl) (omega (arith, w.if-buffer-size-lt-LONGEST_LISTING.false, same)) _ _ _ _ fit w.write_listing-size.ensures w.size-is w.buffer-is refl) in
          (same_size _ _ _ _ _ c.match-command.s _ c.match-command.size c.match-command.buffer on, on, rw (w.s-is, w.quiet-is) c.loop-at.invariant.2)
      | in-Report+else-list w ↦
          let e = rw (c.in-Ok.is, w.in-Report.is) at m in
          (ap length w.buffer-is ∙ same, further _ _ _ _ _ _ _ _ _ g c.loop-at-test.true Report e c.width.result c.width.ensures (rw w.if-list.false refl) _ _ _ (ap system_of w.s-is) w.size-is w.buffer-is, rw (w.s-is, w.quiet-is) c.loop-at.invariant.2)
      | in_default w ↦
          let k = command_of c.in-Ok.command in
          (ap length w.buffer-is ∙ same, further _ _ _ _ _ _ _ _ _ g c.loop-at-test.true k (rw c.in-Ok.is at m) c.width.result c.width.ensures (unlisted c.args.list _ w.in_default.not-Report) _ _ _ (ap system_of w.s-is ∙ w.obey-quiet.ensures.done) w.size-is w.buffer-is, rw (w.s-is, w.quiet-is) w.obey-quiet.ensures.still)
    ]

pub returns : goal.returns
returns c = ends _ _ _ _ _ c.loop-at.s c.loop-at.at c.loop-at.size c.loop-at.buffer c.loop-at.invariant.1 c.loop-at-test.false
