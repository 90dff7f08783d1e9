use Rattle.dbm0.proofs.dbm0_frame.Goals as goal

pub returns : goal.returns
returns c = c.frame.ensures
