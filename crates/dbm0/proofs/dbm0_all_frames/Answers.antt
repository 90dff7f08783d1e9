use Rattle.dbm0.proofs.dbm0_all_frames.Goals as goal

pub returns : goal.returns
returns c = c.all_frames.ensures
