use Rattle.rehearse.proofs.Ran.{gives_all, all_known, part_known}
use Rattle.rehearse.proofs.run.Goals as goal

pub returns-in-Ok-rehearse-clause-known : goal.returns-in-Ok-rehearse-clause-known
returns-in-Ok-rehearse-clause-known g c =
    let e = c.in-Ok.ensures in
    all_known _ _ _ _ c.in-Ok.filled (gives_all _ _ c.read_whole.new.buffer c.in-Ok.filled.size c.read_whole.auto.buffer e.bound e.end e.bytes) c.in-Ok-rehearse.ensures.taken

pub returns-in-Err-rehearse-clause-known : goal.returns-in-Err-rehearse-clause-known
returns-in-Err-rehearse-clause-known g c =
    let e = c.in-Ok.ensures in
    part_known _ _ _ _ c.in-Ok.filled (gives_all _ _ c.read_whole.new.buffer c.in-Ok.filled.size c.read_whole.auto.buffer e.bound e.end e.bytes) c.in-Err-rehearse.cut c.in-Err-rehearse.ensures.taken
