use native.Mathlib.Omega.{arith}
use Rattle.blocks.proofs.BlockSizes.{frames-below}
use Rattle.samples.proofs.frames_at.Goals as goal

pub overflow_mul-result : goal.overflow_mul-result
overflow_mul-result c = let reach = frames-below _ _ c.sample_frames.type_inv c.frame_bytes.ensures.1 in record { fits = omega arith }

pub returns : goal.returns
returns c = simp (c.from.ensures, c.sample_frames.ensures, c.frame_bytes.ensures.0)
