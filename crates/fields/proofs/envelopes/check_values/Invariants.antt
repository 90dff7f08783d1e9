use Prim.Native.Nat.{◌+◌}
use Rattle.blocks.proofs.Passing.{PassingSteps}
use Rattle.fields.specs.Fields.{value_rules}
use Rattle.fields.proofs.envelopes.check_values.Given as goal

abbrev pub invariant-loop-point : goal.invariant-loop-point
invariant-loop-point l = PassingSteps (value_rules l.m l.signed) 4 (l.sections + 1) (l.at + 8) l.point
