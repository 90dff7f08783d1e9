use Rattle.blocks.specs.Sizes.{envelope_blocks}
use Rattle.blocks.proofs.Passing.{Passing}
use Rattle.fields.specs.Fields.{envelope_rules}
use Rattle.fields.proofs.check_envelopes.Given as goal

abbrev pub invariant-loop-at : goal.invariant-loop-at
invariant-loop-at l = Passing (envelope_rules l.m l.instruments l.signed) (envelope_blocks l.m l.fn.chunk) l.at-iterator
