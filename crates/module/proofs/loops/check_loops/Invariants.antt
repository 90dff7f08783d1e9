use Rattle.blocks.specs.Sizes.{instrument_blocks}
use Rattle.blocks.proofs.Passing.{Passing}
use Rattle.module.specs.Loops.{instrument_loop_rules}
use Rattle.module.proofs.loops.check_loops.Given as goal

abbrev pub invariant-loop-at : goal.invariant-loop-at
invariant-loop-at l = Passing (instrument_loop_rules l.m l.l.spans.smpl) (instrument_blocks l.m l.l) l.at-iterator
