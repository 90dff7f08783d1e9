use Rattle.blocks.specs.Filling.{flags_rules}
use Rattle.blocks.specs.Sizes.{blocks_of}
use Rattle.blocks.specs.declared.BlockKind.TheVariants.{Sample}
use Rattle.blocks.proofs.Passing.{Passing}
use Rattle.blocks.proofs.check_flags.Given as goal

abbrev pub invariant-loop-at : goal.invariant-loop-at
invariant-loop-at l = Passing (flags_rules l.m l.chunk) (blocks_of l.m Sample l.chunk l.count) l.at-iterator
