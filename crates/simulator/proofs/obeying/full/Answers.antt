use Rattle.simulator.proofs.obeying.full.Goals as goal

pub returns : goal.returns
returns c = (c.well_formed.0.1.1.1.1.1.1.1.1.1.0.1.0.1, c.well_formed.0.1.1.1.1.1.1.1.1.1.1.0.1.0.1)
