use native.Mathlib.Omega.{arith}
use Rattle.packed_rows.proofs.Writing.{fields-turn}
use Rattle.packed_rows.proofs.packer.write_fields.Goals as goal

pub loop-field-preserved : goal.loop-field-preserved
loop-field-preserved c =
    let loop = c.loop-field in
    fields-turn c.args.cells.now c.args.from loop.field c.requires.0 (omega arith) loop.invariant (omega arith) (omega arith)
