use Rattle.blocks.specs.Sizes.{blocks_of}
use Rattle.blocks.specs.declared.BlockKind.TheVariants.{Instrument}
use Rattle.blocks.proofs.Passing.{Passing}
use Rattle.fields.specs.Fields.{instrument_rules}
use Rattle.fields.proofs.check_instruments.Given as goal

abbrev pub invariant-loop-at : goal.invariant-loop-at
invariant-loop-at l = Passing (instrument_rules l.m l.samples) (blocks_of l.m Instrument l.fn.chunk l.fn.instruments) l.at-iterator
