use Rattle.samples.proofs.no_frames.Goals as goal

pub returns : goal.returns
returns c = rw c.from.ensures
