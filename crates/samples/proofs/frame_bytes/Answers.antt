use Rattle.samples.proofs.frame_bytes.Goals as goal

pub returns : goal.returns
returns c = (simp (c.width.ensures.0, c.sample_flags.ensures), c.width.ensures.1)
