use mathlib.Core.Path.{◌∙◌}
use native.Mathlib.Omega.{arith}
use Rattle.byte_copy.proofs.Copying.{copied-up}
use Rattle.byte_copy.proofs.copy.Goals as goal

pub returns : goal.returns
returns c = c.loop-i.invariant ∙ copied-up c.args.bytes.now c.args.out.now c.loop-i.i (omega arith)
