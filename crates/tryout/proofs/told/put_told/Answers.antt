use mathlib.Core.List.{◌++◌}
use mathlib.Core.Path.{sym}
use lib.Seq.{length-take-le}
use Rattle.election.specs.Commands.{command}
use Rattle.election.proofs.Soundness.{sound-of}
use Rattle.tryout.proofs.Telling.{shown-inside, shown-after}
use Rattle.tryout.specs.Told.{before, after, command_line, told}
use Rattle.text.proofs.Parts.{wrote_part, room-part, room-first, ends-in}
use Rattle.tryout.proofs.told.put_told.Goals as goal

pub put_before-a-requires : goal.put_before-a-requires
unfolding told
put_before-a-requires c = (λ r. (sound-of c.args.s.now c.requires.0 r).n-high, (room-first (before c.args.s.now) (command_line (command c.args.s.now c.args.bytes.now).refusal c.args.bytes.now) (room-first ((before c.args.s.now) ++ (command_line (command c.args.s.now c.args.bytes.now).refusal c.args.bytes.now)) (after (command c.args.s.now c.args.bytes.now).system) c.requires.2)))

pub put_command-requires : goal.put_command-requires
unfolding told
put_command-requires c = let one = c.put_before-a.ensures in (c.requires.0, (room-part (command_line (command c.args.s.now c.args.bytes.now).refusal c.args.bytes.now) one (room-first ((before c.args.s.now) ++ (command_line (command c.args.s.now c.args.bytes.now).refusal c.args.bytes.now)) (after (command c.args.s.now c.args.bytes.now).system) c.requires.2)))

pub slice_bounds-put_after-end : goal.slice_bounds-put_after-end
slice_bounds-put_after-end c = shown-inside c.args.s.now c.args.bytes.now c.args.space.now _ c.dry_run-tried.result c.requires.0 c.requires.1 c.dry_run-tried.ensures

pub slice_bounds-put_after-end-2 : goal.slice_bounds-put_after-end-2
slice_bounds-put_after-end-2 c = sym (length-take-le _ _ (shown-inside c.args.s.now c.args.bytes.now c.args.space.now _ c.dry_run-tried.result c.requires.0 c.requires.1 c.dry_run-tried.ensures))

pub put_after-requires : goal.put_after-requires
unfolding told
put_after-requires c = let one = c.put_before-a.ensures in let two = c.put_command.ensures in rw (shown-after c.args.s.now c.args.bytes.now c.args.space.now _ c.dry_run-tried.result c.requires.0 c.requires.1 c.dry_run-tried.ensures) (room-part (after (command c.args.s.now c.args.bytes.now).system) (wrote_part one two) c.requires.2)

pub overflow_add-result : goal.overflow_add-result
unfolding told
overflow_add-result c = let one = c.put_before-a.ensures in let two = c.put_command.ensures in let three = rw (shown-after c.args.s.now c.args.bytes.now c.args.space.now _ c.dry_run-tried.result c.requires.0 c.requires.1 c.dry_run-tried.ensures) at c.put_after.ensures in record { fits = ends-in (wrote_part (wrote_part one two) three) c.requires.2 c.well_formed.1.1.1.0.0 }

pub returns : goal.returns
unfolding told
returns c = let one = c.put_before-a.ensures in let two = c.put_command.ensures in let three = rw (shown-after c.args.s.now c.args.bytes.now c.args.space.now _ c.dry_run-tried.result c.requires.0 c.requires.1 c.dry_run-tried.ensures) at c.put_after.ensures in wrote_part (wrote_part one two) three
