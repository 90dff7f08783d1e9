use Rattle.samples.proofs.WritingFrames.{writing-turn}
use Rattle.samples.proofs.write_frames.Goals as goal

pub loop-i-preserved : goal.loop-i-preserved
loop-i-preserved c =
    writing-turn _ _ _ _ _ c.loop-i.invariant c.loop-i-test.true c.at_16_bits-v.type_inv
    c.at_16_bits-v.ensures
