use Rattle.blocks.specs.Sizes.{pattern_blocks}
use Rattle.blocks.proofs.Passing.{Passing}
use Rattle.module.specs.Streams.{pattern_stream_rules}
use Rattle.module.proofs.streams.check_streams.Given as goal

abbrev pub invariant-loop-at : goal.invariant-loop-at
invariant-loop-at l = Passing (pattern_stream_rules l.m l.l.tracks) (pattern_blocks l.m l.l) l.at-iterator
