use Rattle.dbm0.proofs.dbm0_repack.Goals as goal

pub returns : goal.returns
returns c = c.repack.ensures
