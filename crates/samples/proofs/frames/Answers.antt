use Rattle.samples.proofs.frames.Goals as goal

pub returns : goal.returns
returns c = simp (← c.frames_place-a.ensures) c.part.ensures
