use Rattle.dbm0.proofs.dbm0_sample.Goals as goal

pub returns : goal.returns
returns c = c.sample.ensures
