use Rattle.dryrun.proofs.Showing.{left_by}
use Rattle.dryrun.proofs.dry_run.Goals as goal

pub returns : goal.returns
returns c =
    left_by c.args.s.now _ c.args.bytes.now _ _ _ _ _ _ c.command-done.ensures c.listing-listed.ensures (rw (c.err.ensures.value, c.err-2.ensures.value) at c.or.ensures) c.unwrap_or.ensures
