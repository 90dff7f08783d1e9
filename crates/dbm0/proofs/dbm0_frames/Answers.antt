use Rattle.dbm0.proofs.dbm0_frames.Goals as goal

pub returns : goal.returns
returns c = c.frames_place.ensures
