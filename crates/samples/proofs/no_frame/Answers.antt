use Rattle.samples.proofs.no_frame.Goals as goal

pub returns : goal.returns
returns c = rw c.from.ensures
