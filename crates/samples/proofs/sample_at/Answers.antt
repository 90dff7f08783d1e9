use Rattle.samples.proofs.sample_at.Goals as goal

pub returns : goal.returns
returns c = simp (c.from.ensures, c.frame_bytes.ensures.0, c.sample_frames.ensures)
