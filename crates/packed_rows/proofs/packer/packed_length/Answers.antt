use native.Mathlib.Omega.{arith}
use Rattle.packed_rows.proofs.Storing.{non-zeros-most}
use Rattle.packed_rows.proofs.StreamLength.{packed-length-cells}
use Rattle.packed_rows.proofs.packer.packed_length.Goals as goal

pub overflow_add-result-2 : goal.overflow_add-result-2
overflow_add-result-2 c = omega (arith, non-zeros-most c.args.cells.now)

pub returns : goal.returns
returns c = rw (packed-length-cells _ _ _ c.requires.0) (omega arith)
